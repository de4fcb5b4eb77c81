use Rattle.std.proofs.Common.{sym}
use Rattle.std.specs.List.{filter}
use Rattle.feed_bytes.specs.Trim.{trimmed, is_no_hyphen}
use Rattle.feed_identifiers.proofs.PrintedIsbn.{made_by}
use Rattle.feed_identifiers.proofs.isbn.Isbn.parse.Goals as goal

pub invariant_of-result : goal.invariant_of-result
invariant_of-result c = made_by (filter is_no_hyphen (trimmed c.args.text.now)) c.in_ok-printed.printed (sym c.in_ok-printed.ensures)
