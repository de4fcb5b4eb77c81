use Rattle.std.proofs.Common.{sym, arith}
use Rattle.feed_identifiers.proofs.PrintedIssn.{issn_with}
use Rattle.feed_identifiers.proofs.issn.Issn.of_digits.Goals as goal

pub invariant_of-result : goal.invariant_of-result
invariant_of-result c = issn_with c.args.digits c.args.check c.in_ok-printed.printed (omega arith) (sym c.in_ok-printed.ensures)
