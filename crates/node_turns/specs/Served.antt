-- How long one that is ready waits for its turn.
use Rattle.std.specs.Prelude.{◌≡◌, ◌≢◌, ◌+◌, ◌*◌, ◌<◌, ◌≤◌, ◌⊎◌, ℕ, suc, Bool, true, List, ◌∷◌, ◌++◌, length, filter, nat_lt, not}
use Rattle.node_turns.specs.Flags.{has_key, HasKey}
use Rattle.node_turns.specs.Homes.{again}

-- a queue after a turn: some keys were removed; the first of the others were served, at least one if there was any; and more
-- were added at its end
pub record HasTurned (old new : List ℕ) : Type 0 where
  pub removed : List ℕ
  pub served : List ℕ
  pub rest : List ℕ
  pub added : List ℕ
  pub was : filter (λ key. not (has_key key removed)) old ≡ served ++ rest
  pub is : new ≡ rest ++ added
  pub some : 0 < length (served ++ rest) → 0 < length served

-- the key is served in a turn or removed, after as many turns as there were keys before it at most
pub record IsServedWithin (queue : ℕ → List ℕ) (turned : (turn : ℕ) → HasTurned (queue turn) (queue (suc turn))) (key most : ℕ) : Type 0 where
  pub turn : ℕ
  pub early : turn ≤ most
  pub served : HasKey (turned turn).served key ⊎ (has_key key (turned turn).removed ≡ true)

-- none waits for ever: whatever is added meanwhile, each key of a queue is served within as many turns as the queue has keys
-- before it, unless it is removed
abbrev pub EachIsServed : Type 0
EachIsServed =
    (queue : ℕ → List ℕ) (turned : (turn : ℕ) → HasTurned (queue turn) (queue (suc turn))) (before after : List ℕ) (key : ℕ)
    → queue 0 ≡ before ++ key ∷ after → IsServedWithin queue turned key (length before)

-- the keys of a queue without those that were removed
abbrev pub left_of : List ℕ → List ℕ → List ℕ
left_of removed keys = filter (λ key. not (has_key key removed)) keys

-- an address has one of these
abbrev pub has_left : List ℕ → (ℕ → List ℕ) → ℕ → Bool
has_left removed queue slot = nat_lt 0 (length (left_of removed (queue slot)))

-- the queues of the addresses, and the ring in which these are served, after one key was: some keys were removed; the first
-- address that has one left gave its first key, and is behind the others if it has more; and more keys and addresses were
-- added at the ends
pub record HasGone (ring next : List ℕ) (queue after : ℕ → List ℕ) : Type 0 where
  pub removed : List ℕ
  pub slot : ℕ
  pub key : ℕ
  pub others : List ℕ
  pub rest : List ℕ
  pub joined : List ℕ
  pub added : ℕ → List ℕ
  pub first : filter (has_left removed queue) ring ≡ slot ∷ others
  pub front : left_of removed (queue slot) ≡ key ∷ rest
  pub here : after slot ≡ rest ++ added slot
  pub there : (other : ℕ) → other ≢ slot → after other ≡ left_of removed (queue other) ++ added other
  pub is : next ≡ (others ++ again slot (length rest)) ++ joined

-- the key of an address is served or removed, after this many others at most
pub record IsReachedWithin (ring : ℕ → List ℕ) (queue : ℕ → ℕ → List ℕ) (gone : (n : ℕ) → HasGone (ring n) (ring (suc n)) (queue n) (queue (suc n)))
    (slot key most : ℕ) : Type 0 where
  pub step : ℕ
  pub early : step ≤ most
  pub served : (((gone step).slot ≡ slot) × ((gone step).key ≡ key)) ⊎ (has_key key (gone step).removed ≡ true)

-- what one address queued delays the first request of another by one at most: whatever is added meanwhile, a key is served
-- after as many others as the keys before it in its queue, times the most addresses that have keys at a time, and the
-- addresses before its own
abbrev pub EachAddressIsServed : Type 0
EachAddressIsServed =
    (ring : ℕ → List ℕ) (queue : ℕ → ℕ → List ℕ) (gone : (n : ℕ) → HasGone (ring n) (ring (suc n)) (queue n) (queue (suc n)))
    (most slot key : ℕ) (ahead follow before behind : List ℕ) → ((n : ℕ) → length (ring n) ≤ most)
    → ring 0 ≡ ahead ++ slot ∷ follow → queue 0 slot ≡ before ++ key ∷ behind
    → IsReachedWithin ring queue gone slot key (length before * most + length ahead)
