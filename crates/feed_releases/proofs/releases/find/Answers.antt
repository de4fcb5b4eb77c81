use Rattle.std.proofs.Common.{arith}
use Rattle.feed_releases.proofs.Finding.{none_found}
use Rattle.feed_releases.proofs.releases.find.Goals as goal

pub returns-clause-none : goal.returns-clause-none
returns-clause-none c = none_found c.args.releases.now c.args.name.now (λ k d lt. c.loop-at.invariant k d (omega arith))
