use Rattle.std.proofs.Common.{◌≡◌, length}
use Rattle.feed_bytes.specs.Trim.{trimmed_back}
use Rattle.feed_bytes.proofs.trim.trim_spaces_end.Given as goal

abbrev pub invariant-loop-front : goal.invariant-loop-front
invariant-loop-front l = trimmed_back l.rest ≡ trimmed_back l.fn.text

abbrev pub decreases-loop-front : goal.decreases-loop-front
decreases-loop-front l = length l.rest
