use Rattle.std.proofs.Common.{◌≤◌, drop, length}
use Rattle.feed_kbart.specs.Windows.{HasNoEnd}
use Rattle.feed_kbart.proofs.window.last_line_end.Given as goal

abbrev pub invariant-loop-place : goal.invariant-loop-place
invariant-loop-place l = record {
  within : l.place ≤ length l.bytes;
  none : HasNoEnd (drop l.place l.bytes);
}

abbrev pub decreases-loop-place : goal.decreases-loop-place
decreases-loop-place l = l.place
