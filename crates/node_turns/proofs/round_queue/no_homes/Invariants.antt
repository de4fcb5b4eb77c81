use Rattle.std.proofs.Common.{◌≡◌, ◌≤◌, ℕ, None, get_or, is_some, count_by}
use Rattle.std.specs.Prelude.{vec_len}
use Rattle.node_turns.proofs.round_queue.no_homes.Given as goal

abbrev pub invariant-loop : goal.invariant-loop
invariant-loop l =
    ((key : ℕ) → get_or l.homes.items key None ≡ None) × (count_by is_some l.homes.items ≡ 0) × (vec_len l.homes ≡ l.counter) × (l.counter ≤ l.fn.keys)
