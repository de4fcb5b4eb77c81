use Rattle.std.proofs.Common.{◌≡◌, take, map}
use Rattle.node_state.specs.ReleaseTimes.{time_of, active_time}
use Rattle.node_state.proofs.active_times.release_times.Given as goal

abbrev pub invariant-loop-active : goal.invariant-loop-active
invariant-loop-active l = map time_of l.times.items ≡ map active_time (take l.active-index l.actives)
