use Rattle.std.proofs.Common.{refl, ap, subst, ◌∙◌}
use Rattle.slab.specs.Slab.{get}
use Rattle.node_table.specs.declared.log.CloseCause.TheVariants.{PeerClosed}
use Rattle.node_table.specs.declared.peer.Outcome.TheVariants.{Waits, Streams, Ready, Resumed}
use Rattle.node_table.proofs.Records.{closed_none}
use Rattle.node_table.proofs.Settled.{IsNext, settled_still, settled_ready, settled_over}
use Rattle.node_table.proofs.table.Table.settle.Goals as goal

pub returns-in-Waits-clause-settled : goal.returns-in-Waits-clause-settled
returns-in-Waits-clause-settled g c =
    settled_still g.L.Log.records c.args.key c.args.progress c.args.now Waits c.args.self.now c.settle_peer-outcome.new.self c.args.log.now c.settle_peer-outcome.new.log refl
    c.settle_peer-outcome.ensures.others c.settle_peer-outcome.ensures.ready
    (closed_none g.L.Log.records PeerClosed c.args.self.now c.settle_peer-outcome.new.self c.args.log.now c.settle_peer-outcome.new.log c.settle_peer-outcome.ensures.recorded
    c.settle_peer-outcome.ensures.size c.settle_peer-outcome.ensures.clients c.settle_peer-outcome.ensures.held)
    (subst (λ o. IsNext g.L.Log.records c.args.key c.args.progress c.args.now o c.args.self.now c.settle_peer-outcome.new.self c.args.log.now c.settle_peer-outcome.new.log)
    c.in-Waits.is c.settle_peer-outcome.ensures.followed)

pub returns-in-Streams-clause-settled : goal.returns-in-Streams-clause-settled
returns-in-Streams-clause-settled g c =
    settled_still g.L.Log.records c.args.key c.args.progress c.args.now Streams c.args.self.now c.settle_peer-outcome.new.self c.args.log.now c.settle_peer-outcome.new.log refl
    c.settle_peer-outcome.ensures.others c.settle_peer-outcome.ensures.ready
    (closed_none g.L.Log.records PeerClosed c.args.self.now c.settle_peer-outcome.new.self c.args.log.now c.settle_peer-outcome.new.log c.settle_peer-outcome.ensures.recorded
    c.settle_peer-outcome.ensures.size c.settle_peer-outcome.ensures.clients c.settle_peer-outcome.ensures.held)
    (subst (λ o. IsNext g.L.Log.records c.args.key c.args.progress c.args.now o c.args.self.now c.settle_peer-outcome.new.self c.args.log.now c.settle_peer-outcome.new.log)
    c.in-Streams.is c.settle_peer-outcome.ensures.followed)

pub returns-in-Ready-clause-settled : goal.returns-in-Ready-clause-settled
returns-in-Ready-clause-settled g c =
    settled_ready g.L.Log.records c.args.key c.args.progress c.args.now Ready c.args.self.now c.settle_peer-outcome.new.self c.mark_ready.new.self c.args.log.now c.settle_peer-outcome.new.log
    c.settle_peer-outcome.ensures.others c.settle_peer-outcome.ensures.ready
    (closed_none g.L.Log.records PeerClosed c.args.self.now c.settle_peer-outcome.new.self c.args.log.now c.settle_peer-outcome.new.log c.settle_peer-outcome.ensures.recorded
    c.settle_peer-outcome.ensures.size c.settle_peer-outcome.ensures.clients c.settle_peer-outcome.ensures.held)
    (λ peer is. let next =
    subst (λ o. IsNext g.L.Log.records c.args.key c.args.progress c.args.now o c.args.self.now c.settle_peer-outcome.new.self c.args.log.now c.settle_peer-outcome.new.log)
    c.in-Ready.is c.settle_peer-outcome.ensures.followed peer is in
    (next.0, ap (λ slab. get slab c.args.key) c.mark_ready.ensures.peers ∙ next.1, next.2))
    c.mark_ready.ensures.peers c.mark_ready.ensures.clients refl c.mark_ready.ensures.marked

pub returns-in-Resumed-clause-settled : goal.returns-in-Resumed-clause-settled
returns-in-Resumed-clause-settled g c =
    settled_ready g.L.Log.records c.args.key c.args.progress c.args.now Resumed c.args.self.now c.settle_peer-outcome.new.self c.mark_ready-in-Resumed.new.self
    c.args.log.now c.settle_peer-outcome.new.log
    c.settle_peer-outcome.ensures.others c.settle_peer-outcome.ensures.ready
    (closed_none g.L.Log.records PeerClosed c.args.self.now c.settle_peer-outcome.new.self c.args.log.now c.settle_peer-outcome.new.log c.settle_peer-outcome.ensures.recorded
    c.settle_peer-outcome.ensures.size c.settle_peer-outcome.ensures.clients c.settle_peer-outcome.ensures.held)
    (λ peer is. let next =
    subst (λ o. IsNext g.L.Log.records c.args.key c.args.progress c.args.now o c.args.self.now c.settle_peer-outcome.new.self c.args.log.now c.settle_peer-outcome.new.log)
    c.in-Resumed.is c.settle_peer-outcome.ensures.followed peer is in
    (next.0, ap (λ slab. get slab c.args.key) c.mark_ready-in-Resumed.ensures.peers ∙ next.1, next.2))
    c.mark_ready-in-Resumed.ensures.peers c.mark_ready-in-Resumed.ensures.clients refl c.mark_ready-in-Resumed.ensures.marked

pub returns-in-Over-clause-settled : goal.returns-in-Over-clause-settled
returns-in-Over-clause-settled g c =
    settled_over g.L.Log.records c.args.key c.args.progress c.args.now c.args.self.now c.settle_peer-outcome.new.self c.close.new.self c.args.log.now c.settle_peer-outcome.new.log c.close.new.log
    c.settle_peer-outcome.ensures.others c.settle_peer-outcome.ensures.ready
    (closed_none g.L.Log.records PeerClosed c.args.self.now c.settle_peer-outcome.new.self c.args.log.now c.settle_peer-outcome.new.log c.settle_peer-outcome.ensures.recorded
    c.settle_peer-outcome.ensures.size c.settle_peer-outcome.ensures.clients c.settle_peer-outcome.ensures.held)
    (subst (λ o. IsNext g.L.Log.records c.args.key c.args.progress c.args.now o c.args.self.now c.settle_peer-outcome.new.self c.args.log.now c.settle_peer-outcome.new.log)
    c.in-Over.is c.settle_peer-outcome.ensures.followed)
    c.close.ensures.removed c.close.ensures.absent
