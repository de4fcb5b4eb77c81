-- The lists of keys of slots, and the slots that keys are at home in.
use Rattle.std.specs.Prelude.{◌≡◌, ◌==◌, ℕ, zero, suc, Bool, false, cond, List, [], ◌∷◌, length, map, get_or, nat_lt, Option, Some, None}
use Rattle.node_turns.specs.declared.slot_queue.SlotQueue.{SlotQueue}
use Rattle.node_turns.specs.Flags.{times, has_key, without}

-- the keys of each slot, the one that waits longest first
abbrev pub lists_of : List SlotQueue → List (List ℕ)
lists_of queues = map (λ queue. queue.keys.items) queues

abbrev pub list_at : List (List ℕ) → ℕ → List ℕ
list_at lists slot = get_or lists slot []

-- the slot in whose queue a key is
abbrev pub is_home : ℕ → Option ℕ → Bool
is_home slot None = false
is_home slot (Some home) = home == slot

-- a key is in the queue of its slot once, and in no other
abbrev pub AreHomed : List (List ℕ) → List (Option ℕ) → Type 0
AreHomed lists homes = (slot key : ℕ) → times key (list_at lists slot) ≡ cond (is_home slot (get_or homes key None)) 1 0

-- the ring has the slots that have keys
abbrev pub AreRinged : List ℕ → List (List ℕ) → Type 0
AreRinged ring lists = (slot : ℕ) → has_key slot ring ≡ nat_lt 0 (length (list_at lists slot))

-- a slot with so many keys is in the ring again, as the last one
abbrev pub again : ℕ → ℕ → List ℕ
again slot zero = []
again slot (suc more) = slot ∷ []

-- the ring after the queue of a slot has so many keys
abbrev pub ring_left : ℕ → ℕ → List ℕ → List ℕ
ring_left slot zero ring = without slot ring
ring_left slot (suc more) ring = ring
