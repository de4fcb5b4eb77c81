-- Queues of keys, one for each slot, and the ring of the slots that have keys. A slot stands for an address.
use Rattle.std.specs.Prelude.{◌≡◌, ◌⊎◌, ℕ, length, List, [], ◌∷◌, ◌++◌, get_or, set, count_by, Option, Some, None, IsSome, is_some, vec_len}
use Rattle.node_turns.specs.declared.round_queue.RoundQueue.{RoundQueue}
use Rattle.node_turns.specs.Flags.{without, IsAdded}
use Rattle.node_turns.specs.Homes.{again, lists_of, list_at, ring_left}

-- the slots that have keys, in the order in which they are served
abbrev pub ring_of : RoundQueue → List ℕ
ring_of queue = queue.ring.keys.items

abbrev pub lists_in : RoundQueue → List (List ℕ)
lists_in queue = lists_of queue.queues.items

-- the keys of a slot, the one that waits longest first
abbrev pub queue_at : RoundQueue → ℕ → List ℕ
queue_at queue slot = list_at (lists_in queue) slot

-- the slot in whose queue a key is
abbrev pub home_of : RoundQueue → ℕ → Option ℕ
home_of queue key = get_or queue.homes.items key None

-- the number of keys in all queues, and of slots
abbrev pub key_total : RoundQueue → ℕ
key_total queue = count_by is_some queue.homes.items

abbrev pub slot_total : RoundQueue → ℕ
slot_total queue = vec_len queue.queues

-- the key is in a queue
abbrev pub IsQueued : RoundQueue → ℕ → Type 0
IsQueued queue key = IsSome (home_of queue key)

-- the queue of a slot has these keys now, and the others have those that they had
abbrev pub HasList : ℕ → List ℕ → RoundQueue → RoundQueue → Type 0
HasList slot keys old new = lists_in new ≡ set (lists_in old) slot keys

-- the keys that are in a queue are these now: one is in the queue of a slot, or in none
abbrev pub HasHome : ℕ → Option ℕ → RoundQueue → RoundQueue → Type 0
HasHome key home old new = new.homes.items ≡ set old.homes.items key home

-- the queues and the ring have the keys and the slots that they had
pub record IsSameRounds (old new : RoundQueue) : Type 0 where
  pub homes : new.homes.items ≡ old.homes.items
  pub lists : lists_in new ≡ lists_in old
  pub ring : ring_of new ≡ ring_of old

-- a key was added at the end of the queue of a slot, unless it was in a queue; a slot that had none is the last of the ring
pub record IsAppended (slot key : ℕ) (old new : RoundQueue) : Type 0 where
  pub was : home_of old key ≡ None
  pub home : HasHome key (Some slot) old new
  pub keys : HasList slot (queue_at old slot ++ key ∷ []) old new
  pub ring : IsAdded slot (ring_of old) (ring_of new)

abbrev pub IsAddedTo : ℕ → ℕ → RoundQueue → RoundQueue → Type 0
IsAddedTo slot key old new = (IsQueued old key × IsSameRounds old new) ⊎ IsAppended slot key old new

-- the first key of the first slot was taken. If the slot has more keys, it is the last of the ring now
pub record IsTakenFrom (key : ℕ) (old new : RoundQueue) : Type 0 where
  pub slot : ℕ
  pub others : List ℕ
  pub left : List ℕ
  pub first : ring_of old ≡ slot ∷ others
  pub front : queue_at old slot ≡ key ∷ left
  pub was : home_of old key ≡ Some slot
  pub home : HasHome key None old new
  pub keys : HasList slot left old new
  pub ring : ring_of new ≡ others ++ again slot (length left)

-- a key is no longer in the queue of this slot, which has the other keys that it had
pub record IsTakenOut (slot key : ℕ) (keys : List ℕ) (old new : RoundQueue) : Type 0 where
  pub was : home_of old key ≡ Some slot
  pub home : HasHome key None old new
  pub keys_left : HasList slot keys old new
  pub ring : ring_of new ≡ ring_left slot (length keys) (ring_of old)

-- a key was removed, wherever it was
abbrev pub IsRemovedFrom : ℕ → RoundQueue → RoundQueue → Type 0
IsRemovedFrom key old new =
    ((home_of old key ≡ None) × (new ≡ old)) ⊎ ((slot : ℕ) × IsTakenOut slot key (without key (queue_at old slot)) old new)

-- a key was removed if it was at the end of its queue
abbrev pub IsDroppedFrom : ℕ → RoundQueue → RoundQueue → Type 0
IsDroppedFrom key old new =
    (new ≡ old) ⊎ ((slot : ℕ) × (keys : List ℕ) × (queue_at old slot ≡ keys ++ key ∷ []) × IsTakenOut slot key keys old new)
