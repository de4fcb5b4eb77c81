-- The order in which a turn serves those that are ready.
use Rattle.std.specs.Prelude.{◌≡◌, ◌+◌, ◌||◌, ◌⊎◌, ℕ, Bool, true, false, List, ◌∷◌, length, Option, Some, None, is_some, vec_len}
use Rattle.node_turns.specs.declared.ready_queues.ReadyQueues.{ReadyQueues}
use Rattle.node_turns.specs.Flags.{has_key, without, HasKey, IsAdded}
use Rattle.node_turns.specs.Rounds.{home_of, ring_of, slot_total, IsAddedTo, IsQueued, IsRemovedFrom, IsSameRounds, IsTakenFrom}

-- the addresses of those that were idle or have their first request, and of those that have more requests, or a part of a
-- response to send
abbrev pub fresh_ring : ReadyQueues → List ℕ
fresh_ring queues = ring_of queues.fresh

abbrev pub behind_ring : ReadyQueues → List ℕ
behind_ring queues = ring_of queues.behind

-- those for whose queue there was no memory
abbrev pub spare_keys : ReadyQueues → List ℕ
spare_keys queues = queues.spare.keys.items

-- there are some that are ready if this is not 0
abbrev pub waiting_count : ReadyQueues → ℕ
waiting_count queues = length (fresh_ring queues) + length (behind_ring queues) + length (spare_keys queues)

-- the keys, and the slots, are below these numbers
abbrev pub key_count : ReadyQueues → ℕ
key_count queues = vec_len queues.fresh.homes

abbrev pub slot_count : ReadyQueues → ℕ
slot_count queues = slot_total queues.fresh

-- it is ready
abbrev pub IsReady : ReadyQueues → ℕ → Type 0
IsReady queues key = IsQueued queues.fresh key ⊎ (IsQueued queues.behind key ⊎ HasKey (spare_keys queues) key)

-- it is not behind the others, and waits for its turn
abbrev pub is_waiting : ReadyQueues → ℕ → Bool
is_waiting queues key = is_some (home_of queues.fresh key) || has_key key (spare_keys queues)

-- the first key of an address was taken, of one kind or the other, or one of those without memory
abbrev pub IsFromFresh : ℕ → ReadyQueues → ReadyQueues → Type 0
IsFromFresh key old new = IsTakenFrom key old.fresh new.fresh × IsSameRounds old.behind new.behind × (spare_keys new ≡ spare_keys old)

abbrev pub IsFromBehind : ℕ → ReadyQueues → ReadyQueues → Type 0
IsFromBehind key old new = IsSameRounds old.fresh new.fresh × IsTakenFrom key old.behind new.behind × (spare_keys new ≡ spare_keys old)

abbrev pub IsFromSpare : ℕ → ReadyQueues → ReadyQueues → Type 0
IsFromSpare key old new = IsSameRounds old.fresh new.fresh × IsSameRounds old.behind new.behind × (spare_keys old ≡ key ∷ spare_keys new)

abbrev pub IsTaken : Option ℕ → ReadyQueues → ReadyQueues → Type 0
IsTaken (Some key) old new = IsFromFresh key old new ⊎ (IsFromBehind key old new ⊎ IsFromSpare key old new)
IsTaken None old new = IsSameRounds old.fresh new.fresh × IsSameRounds old.behind new.behind × (spare_keys new ≡ spare_keys old)

-- a key of a slot was marked as ready: behind the others, or among those that were idle
abbrev pub IsAddedBy : Bool → ℕ → ℕ → ReadyQueues → ReadyQueues → Type 0
IsAddedBy true slot key old new = IsAddedTo slot key old.behind new.behind × IsSameRounds old.fresh new.fresh
IsAddedBy false slot key old new = IsAddedTo slot key old.fresh new.fresh × IsSameRounds old.behind new.behind

-- or there was no memory for that
abbrev pub IsMarked : Bool → ℕ → ℕ → ReadyQueues → ReadyQueues → Type 0
IsMarked is_behind slot key old new =
    (IsAddedBy is_behind slot key old new × (spare_keys new ≡ spare_keys old))
    ⊎ (IsAdded key (spare_keys old) (spare_keys new) × IsSameRounds old.fresh new.fresh × IsSameRounds old.behind new.behind)

-- a key was removed
abbrev pub IsGone : ℕ → ReadyQueues → ReadyQueues → Type 0
IsGone key old new =
    IsRemovedFrom key old.fresh new.fresh × IsRemovedFrom key old.behind new.behind × (spare_keys new ≡ without key (spare_keys old))
