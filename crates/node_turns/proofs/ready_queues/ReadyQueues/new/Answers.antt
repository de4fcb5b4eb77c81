use Rattle.std.proofs.Common.{ap, arith, inl, inr}
use Rattle.node_turns.specs.Flags.{times}
use Rattle.node_turns.proofs.Ready.{never_some}
use Rattle.node_turns.proofs.ready_queues.ReadyQueues.new.Goals as goal

pub returns-clause-ready : goal.returns-clause-ready
returns-clause-ready c = λ key has. elim has [
  | inl fresh ↦ never_some _ (c.in_ok-new.ensures.free key) fresh
  | inr rest ↦ elim rest [
    | inl behind ↦ never_some _ (c.in_ok-new-2.ensures.free key) behind
    | inr spare ↦ absurd (omega (arith, spare, ap (times key) c.in_ok-new-3.ensures.empty))
  ]
]
