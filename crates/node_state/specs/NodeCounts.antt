-- The counters of connections, and the amounts that are added to counters.
use Rattle.std.specs.Prelude.{ℕ}
use Rattle.node_monitoring.specs.Counts.{Added, place_of}
use Rattle.node_monitoring.specs.declared.counter.Counter.{Counter}
use Rattle.node_monitoring.specs.declared.counter.Counter.TheVariants as counter
use Rattle.node_table.specs.declared.log.CloseCause.{CloseCause}
use Rattle.node_table.specs.declared.log.CloseCause.TheVariants as cause

-- the counter of the connections that are closed for a cause
abbrev pub cause_counter : CloseCause → Counter
cause_counter cause.Complete = counter.Complete
cause_counter cause.PeerClosed = counter.PeerClosed
cause_counter cause.TimedOut = counter.TimedOut
cause_counter cause.Evicted = counter.Evicted
cause_counter cause.Unread = counter.Unread
cause_counter cause.Streamed = counter.Streamed

-- this many more of a counter
abbrev pub many_of : Counter → ℕ → Added
many_of which count = record { place = place_of which; amount = count }

-- one more of a counter
abbrev pub one_of : Counter → Added
one_of which = many_of which 1
