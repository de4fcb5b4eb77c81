use Rattle.std.proofs.Common.{List}
use Rattle.node_connection.specs.Events.{Event}
use Rattle.node_connection.specs.States.{HasState}
use Rattle.node_connection.specs.Streams.{HasAdvanced}
use Rattle.node_connection.proofs.streams.run_connection.Given as goal

abbrev pub invariant-loop : goal.invariant-loop
invariant-loop g l =
    ((history : List Event) → HasState l.fn.connection history
    → HasAdvanced (g.S.Respond.wanted l.responder, g.S.Respond.responses l.responder) l.fn.share l.share l.connection history (g.R.Receive.remaining l.fn.sides.reader)
    (g.R.Receive.remaining l.sides.reader) (g.W.Transmit.contents l.fn.sides.writer) (g.W.Transmit.contents l.sides.writer))
    × g.R.Receive.may_read l.sides.reader × g.W.Transmit.may_write l.sides.writer
