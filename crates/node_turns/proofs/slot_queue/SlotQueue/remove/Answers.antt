use Rattle.std.proofs.Common.{rules, ◌∙◌}
use Rattle.std.proofs.lemmas.Fn.{filter_same}
use Rattle.node_turns.proofs.slot_queue.SlotQueue.remove.Goals as goal

pub returns : goal.returns
returns c = c.free_room.ensures ∙ filter_same _ _ _ (λ x b f' k. search rules) _ _ c.retain.ensures.filtered
