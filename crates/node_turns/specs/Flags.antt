-- Queues of keys, the front first.
use Rattle.std.specs.Prelude.{◌≡◌, ◌==◌, ◌<◌, ◌⊎◌, ℕ, Bool, false, cond, List, [], ◌∷◌, ◌++◌, length, count_by, get_or, nat_lt, filter, not}

-- how often the key is in the queue, and whether it is
abbrev pub times : ℕ → List ℕ → ℕ
times key keys = count_by (λ other. other == key) keys

abbrev pub has_key : ℕ → List ℕ → Bool
has_key key keys = nat_lt 0 (times key keys)

abbrev pub HasKey : List ℕ → ℕ → Type 0
HasKey keys key = 0 < times key keys

-- the queue without a key
abbrev pub without : ℕ → List ℕ → List ℕ
without key keys = filter (λ other. not (other == key)) keys

-- a key that is flagged is in the queue once, and any other is not
abbrev pub AreFlagged : List ℕ → List Bool → Type 0
AreFlagged keys flags = (key : ℕ) → times key keys ≡ cond (get_or flags key false) 1 0

-- there are as many keys as flags
abbrev pub AreAsMany : List ℕ → List Bool → Type 0
AreAsMany keys flags = length keys ≡ count_by (λ flag. flag) flags

-- the key is in the queue, at its end if it was not
abbrev pub IsAdded : ℕ → List ℕ → List ℕ → Type 0
IsAdded key old new = (HasKey old key × (new ≡ old)) ⊎ ((times key old ≡ 0) × (new ≡ old ++ key ∷ []))

-- the key was removed if it was at the end
abbrev pub IsDropped : ℕ → List ℕ → List ℕ → Type 0
IsDropped key old new = (new ≡ old) ⊎ (old ≡ new ++ key ∷ [])
