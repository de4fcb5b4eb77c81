use Rattle.std.proofs.Common.{inl, inr}
use Rattle.node_turns.proofs.Ready.{has_in_without, queued_removed}
use Rattle.node_turns.specs.Turns.{spare_keys}
use Rattle.node_turns.specs.Flags.{HasKey}
use Rattle.std.proofs.Common.{subst}
use Rattle.node_turns.proofs.ready_queues.ReadyQueues.remove.Goals as goal

pub returns-clause-ready : goal.returns-clause-ready
returns-clause-ready c = λ other has. elim has [
  | inl fresh ↦ let was = queued_removed c.args.key c.args.self.now.fresh c.remove.new.self c.remove.ensures.removed other fresh in (inl was.0, was.1)
  | inr rest ↦ elim rest [
    | inl behind ↦ let was = queued_removed c.args.key c.args.self.now.behind c.remove-2.new.self c.remove-2.ensures.removed other behind in (inr (inl was.0), was.1)
    | inr spare ↦
        let was = has_in_without (spare_keys c.args.self.now) c.args.key other (subst (λ keys. HasKey keys other) c.remove-3.ensures.removed spare) in
        (inr (inr was.0), was.1)
  ]
]
