use Rattle.std.proofs.Common.{inl, inr}
use Rattle.node_turns.specs.Turns.{spare_keys}
use Rattle.node_turns.proofs.Ready.{has_in_longer, queued_dropped}
use Rattle.node_turns.proofs.ready_queues.ReadyQueues.drop_last.Goals as goal

pub returns-clause-ready : goal.returns-clause-ready
returns-clause-ready c = λ other has. elim has [
  | inl fresh ↦ inl (queued_dropped c.args.key c.args.self.now.fresh c.drop_last.new.self c.drop_last.ensures.dropped other fresh)
  | inr rest ↦ elim rest [
    | inl behind ↦ inr (inl (queued_dropped c.args.key c.args.self.now.behind c.drop_last-2.new.self c.drop_last-2.ensures.dropped other behind))
    | inr spare ↦ inr (inr (has_in_longer (spare_keys c.args.self.now) c.drop_last-3.new.self.keys.items c.args.key other c.drop_last-3.ensures.dropped spare))
  ]
]
