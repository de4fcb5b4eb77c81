use Rattle.std.proofs.Common.{◌++◌, sym, subst}
use Rattle.std.proofs.Math.Logic.{∥∥₁_map}
use Rattle.node_table.specs.Connections.{HasServed}
use Rattle.node_table.proofs.Shares.{served_none}
use Rattle.node_table.proofs.peer.Peer.exchange.Goals as goal

pub invariant_of-self : goal.invariant_of-self
invariant_of-self g c = record {
  stateful = ∥∥₁_map c.args.self.now.stateful (λ was. let moved = c.transfer-progress.ensures.moved was.0 was.1 in (moved.more ++ was.0, moved.state));
  placed = c.args.self.now.placed;
}

pub returns-then-is_over-clause-served : goal.returns-then-is_over-clause-served
returns-then-is_over-clause-served g c =
    served_none (g.S.Respond.wanted c.args.responder.now, g.S.Respond.responses c.args.responder.now) c.args.share.now c.args.self.now.connection
    (c.is_over.ensures.over c.if-is_over.true)

pub returns-clause-served : goal.returns-clause-served
returns-clause-served g c =
    subst (λ connection. HasServed (g.S.Respond.wanted c.args.responder.now, g.S.Respond.responses c.args.responder.now) c.transfer-progress.result c.args.share.now
    c.transfer-progress.new.share c.args.self.now.connection connection)
    (sym c.note_times.ensures.connection)
    (record { moved = c.transfer-progress.ensures.moved; still = c.transfer-progress.ensures.still; stopped = c.transfer-progress.ensures.stopped })
