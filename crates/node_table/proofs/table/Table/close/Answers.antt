use Rattle.std.proofs.Common.{◌≡◌, sym, subst, ap, ◌∙◌, refl, IsSome}
use Rattle.node_table.specs.Peers.{cause_of}
use Rattle.node_table.specs.Tables.{peer_at, IsRemoved}
use Rattle.node_table.proofs.Firsts.{same_peer}
use Rattle.node_table.proofs.table.Table.close.Goals as goal

pub returns-clause-removed : goal.returns-clause-removed
returns-clause-removed g c = λ peer is.
    let same : c.in-Some.peer.now ≡ peer = same_peer peer c.in-Some.peer.now (peer_at c.args.self.now c.args.key) is (sym c.in-Some.ensures) in
    let cause : c.close_cause-cause.result ≡ cause_of peer c.args.cause = c.close_cause-cause.ensures ∙ ap (λ p. cause_of p c.args.cause) same in
    subst (λ why. IsRemoved g.L.Log.records c.args.key why c.args.now c.args.self.now c.remove.new.self c.args.log.now c.remove.new.log) cause
    (c.remove.ensures.removed (subst (λ slot. IsSome slot) c.in-Some.ensures refl))
