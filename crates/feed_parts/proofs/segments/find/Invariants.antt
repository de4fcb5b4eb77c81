use Rattle.std.proofs.Common.{◌-◌}
use Rattle.feed_parts.proofs.Search.{IsSearch}
use Rattle.feed_parts.proofs.segments.find.Given as goal

abbrev pub invariant-loop-low : goal.invariant-loop-low
invariant-loop-low l = IsSearch l.parts l.place l.fn.probes l.probes l.low l.high

abbrev pub decreases-loop-low : goal.decreases-loop-low
decreases-loop-low l = l.high - l.low
