use Rattle.feed_releases.proofs.Growth.{new_partial, new_empty}
use Rattle.feed_releases.proofs.release.Release.new.Goals as goal
use Rattle.feed_releases.proofs.release.Release.new.Goals.{then-size-eq0, else-size-eq0}

pub invariant_of-result : goal.invariant_of-result
invariant_of-result c = rw c.new.ensures (elim c.if-size-eq0.branch [
  | then-size-eq0 w ↦ rw w.standing-is (new_empty c.args.size c.requires w.if-size-eq0.true)
  | else-size-eq0 w ↦ rw w.standing-is (new_partial c.args.size c.requires w.if-size-eq0.false)
])
