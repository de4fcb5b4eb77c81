use Rattle.std.proofs.Common.{subst, sym}
use Rattle.feed_answer.specs.IdentifierSet.{IsAscending}
use Rattle.feed_answer.proofs.Ascending.{set_ascends}
use Rattle.feed_answer.proofs.query.Query.of.Goals as goal

pub invariant_of-result : goal.invariant_of-result
invariant_of-result c = (
  subst IsAscending (sym c.in_ok-set_of.ensures) (set_ascends c.args.issns.now),
  subst IsAscending (sym c.in_ok-set_of-2.ensures) (set_ascends c.args.isbns.now),
)
