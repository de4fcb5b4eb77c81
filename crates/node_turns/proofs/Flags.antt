-- The flags of the keys of a queue.
use Rattle.std.proofs.Common.{◌≡◌, ◌≢◌, ◌+◌, ◌<◌, ◌≤◌, ◌⊎◌, ℕ, Bool, true, false, cond, List, [], ◌∷◌, ◌++◌, length, get_or, set, count_by, eqb, eqb-true, le-ltb, refl, sym, ap, ◌∙◌, arith, inl, inr}
use Rattle.std.specs.Prelude.{◌==◌}
use Rattle.std.proofs.lemmas.Bool.{cases_lt, eqb-false}
use Rattle.std.proofs.lemmas.List.{get_or-set_same, get_or-set_other, get_or_past, length_push, length-set}
use Rattle.std.proofs.lemmas.List.Sums.{sum_by-cons, sum_by-append, sum_by-set, count_by-le-length}
use Rattle.node_turns.specs.Flags.{times, has_key, HasKey, AreFlagged, AreAsMany}

-- 1 for a flag
abbrev bit : Bool → ℕ
bit b = cond b 1 0

-- how often a key is one key
pub times_one : (key other : ℕ) → ((other ≡ key) × (times key (other ∷ []) ≡ 1)) ⊎ ((other ≢ key) × (times key (other ∷ []) ≡ 0))
times_one key other = by (eqb other key) refl
  where
    whole : times key (other ∷ []) ≡ bit (eqb other key) + 0
    whole = sum_by-cons (λ it. cond (it == key) 1 0) other []

    by : (b : Bool) → eqb other key ≡ b → ((other ≡ key) × (times key (other ∷ []) ≡ 1)) ⊎ ((other ≢ key) × (times key (other ∷ []) ≡ 0))
    by true is = inl (eqb-true other key is, omega (arith, whole, ap bit is))
    by false is = inr (eqb-false other key is, omega (arith, whole, ap bit is))

pub times_both : (key : ℕ) (these those : List ℕ) → times key (these ++ those) ≡ times key these + times key those
times_both key these those = sum_by-append (λ other. cond (other == key) 1 0) these those

flag_is : (b : Bool) → ((b ≡ true) × (bit b ≡ 1)) ⊎ ((b ≡ false) × (bit b ≡ 0))
flag_is true = inl (refl, refl)
flag_is false = inr (refl, refl)

not_both : (b : Bool) → b ≡ true → b ≡ false → ⊥
not_both b on off = cc

-- a key in the queue is flagged, so that it is below the number of flags
pub flagged_below : (keys : List ℕ) (flags : List Bool) (key : ℕ) → AreFlagged keys flags → HasKey keys key → (get_or flags key false ≡ true) × (key < length flags)
flagged_below keys flags key flagged has = elim (flag_is (get_or flags key false)) [
  | inl on ↦ (
    on.0,
    elim (cases_lt key (length flags)) [
      | inl below ↦ below
      | inr past ↦ absurd (not_both (get_or flags key false) on.0 (get_or_past flags key false past))
    ],
  )
  | inr off ↦ absurd (omega (arith, has, flagged key, off.1))
]

-- so a key that is not below it is not in the queue
pub absent_past : (keys : List ℕ) (flags : List Bool) (key : ℕ) → AreFlagged keys flags → length flags ≤ key → has_key key keys ≡ false
absent_past keys flags key flagged past =
    let none : times key keys ≡ 0 = flagged key ∙ ap bit (get_or_past flags key false past) in
    le-ltb 0 (times key keys) (omega (arith, none))

-- a key is in a list that begins or ends with it
pub has_here : (keys : List ℕ) (key : ℕ) → HasKey (key ∷ keys) key
has_here keys key = elim (times_one key key) [
  | inl is ↦ omega (arith, times_both key (key ∷ []) keys, is.1)
  | inr not ↦ absurd (not.0 refl)
]

pub has_last : (keys : List ℕ) (key : ℕ) → HasKey (keys ++ key ∷ []) key
has_last keys key = elim (times_one key key) [
  | inl is ↦ omega (arith, times_both key keys (key ∷ []), is.1)
  | inr not ↦ absurd (not.0 refl)
]

-- a key was added
pub flagged_added : (keys : List ℕ) (flags : List Bool) (key : ℕ) → key < length flags → get_or flags key false ≡ false → AreFlagged keys flags
    → AreFlagged (keys ++ key ∷ []) (set flags key true)
flagged_added keys flags key below off flagged other = elim (times_one other key) [
  | inl same ↦
      let on : get_or (set flags key true) other false ≡ true = ap (λ k. get_or (set flags key true) k false) (sym same.0) ∙ get_or-set_same flags key true false below in
      let was : get_or flags other false ≡ false = ap (λ k. get_or flags k false) (sym same.0) ∙ off in
      let none : times other keys ≡ 0 = flagged other ∙ ap bit was in
      let one : bit (get_or (set flags key true) other false) ≡ 1 = ap bit on in
      omega (arith, times_both other keys (key ∷ []), same.1, none, one)
  | inr differs ↦
      let kept : bit (get_or (set flags key true) other false) ≡ bit (get_or flags other false) =
      ap bit (get_or-set_other flags key other true false (λ is. differs.0 (sym is))) in
      omega (arith, times_both other keys (key ∷ []), differs.1, flagged other, kept)
]

many_set : (flags : List Bool) (key : ℕ) (flag : Bool) → key < length flags
    → count_by (λ b. b) (set flags key flag) + bit (get_or flags key false) ≡ count_by (λ b. b) flags + bit flag
many_set flags key flag below = sum_by-set (λ b. cond b 1 0) flags key flag false below

pub many_added : (keys : List ℕ) (flags : List Bool) (key : ℕ) → key < length flags → get_or flags key false ≡ false → AreAsMany keys flags
    → AreAsMany (keys ++ key ∷ []) (set flags key true)
many_added keys flags key below off many =
    let none : bit (get_or flags key false) ≡ 0 = ap bit off in
    omega (arith, many_set flags key true below, none, many, long)
  where
    long : length (keys ++ key ∷ []) ≡ length keys + 1
    long = length_push keys key

-- there is room for it
pub room_for : (keys : List ℕ) (flags : List Bool) (key : ℕ) → key < length flags → get_or flags key false ≡ false → AreAsMany keys flags → length keys < length flags
room_for keys flags key below off many =
    let none : bit (get_or flags key false) ≡ 0 = ap bit off in
    let most : count_by (λ b. b) (set flags key true) ≤ length (set flags key true) = count_by-le-length (λ b. b) (set flags key true) in
    omega (arith, many_set flags key true below, none, many, most, long)
  where
    long : length (set flags key true) ≡ length flags
    long = length-set flags key true

-- a key was removed from one end or the other
pub flagged_removed : (old new : List ℕ) (flags : List Bool) (key : ℕ) → ((other : ℕ) → times other old ≡ times other (key ∷ []) + times other new) → AreFlagged old flags
    → AreFlagged new (set flags key false)
flagged_removed old new flags key split flagged other = elim (times_one other key) [
  | inl same ↦
      let has : HasKey old key = omega (arith, split key, times_here) in
      let below = flagged_below old flags key flagged has in
      let off : get_or (set flags key false) other false ≡ false = ap (λ k. get_or (set flags key false) k false) (sym same.0) ∙ get_or-set_same flags key false false below.1 in
      let zero : bit (get_or (set flags key false) other false) ≡ 0 = ap bit off in
      let was : bit (get_or flags other false) ≡ 1 = ap bit (ap (λ k. get_or flags k false) (sym same.0) ∙ below.0) in
      omega (arith, split other, same.1, flagged other, was, zero)
  | inr differs ↦
      let kept : bit (get_or (set flags key false) other false) ≡ bit (get_or flags other false) =
      ap bit (get_or-set_other flags key other false false (λ is. differs.0 (sym is))) in
      omega (arith, split other, differs.1, flagged other, kept)
]
  where
    times_here : times key (key ∷ []) ≡ 1
    times_here = elim (times_one key key) [ inl is ↦ is.1 | inr not ↦ absurd (not.0 refl) ]

pub many_removed : (old new : List ℕ) (flags : List Bool) (key : ℕ) → length old ≡ length new + 1 → get_or flags key false ≡ true → key < length flags → AreAsMany old flags
    → AreAsMany new (set flags key false)
many_removed old new flags key long on below many =
    let one : bit (get_or flags key false) ≡ 1 = ap bit on in
    omega (arith, many_set flags key false below, one, many, long)
