use Rattle.std.proofs.Common.{◌≡◌, length}
use Rattle.feed_bytes.specs.Trim.{skip_spaces}
use Rattle.feed_bytes.proofs.trim.trim_spaces_start.Given as goal

abbrev pub invariant-loop-tail : goal.invariant-loop-tail
invariant-loop-tail l = skip_spaces l.rest ≡ skip_spaces l.fn.text

abbrev pub decreases-loop-tail : goal.decreases-loop-tail
decreases-loop-tail l = length l.rest
