use Rattle.std.proofs.Common.{◌≡◌, ◌≤◌, ℕ, []}
use Rattle.std.specs.Prelude.{vec_len}
use Rattle.node_turns.specs.Homes.{list_at, lists_of}
use Rattle.node_turns.proofs.round_queue.empty_queues.Given as goal

abbrev pub invariant-loop : goal.invariant-loop
invariant-loop l = ((slot : ℕ) → list_at (lists_of l.queues.items) slot ≡ []) × (vec_len l.queues ≡ l.counter) × (l.counter ≤ l.fn.slots)
