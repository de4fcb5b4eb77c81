-- A queue without a key.
use Rattle.std.proofs.Common.{◌≡◌, ◌≢◌, ◌+◌, ◌<◌, ◌⊎◌, ℕ, Bool, true, false, cond, not, List, [], ◌∷◌, length, get_or, set, eqb, eqb-true, ltb-true, lt-ltb, refl, sym, ap, ◌∙◌, arith, inl, inr}
use Rattle.std.proofs.lemmas.Bool.{cases_lt, eqb-false}
use Rattle.std.proofs.lemmas.List.{get_or-set_same, get_or-set_other}
use Rattle.node_turns.specs.Flags.{times, has_key, without, HasKey, AreFlagged, AreAsMany}
use Rattle.node_turns.proofs.Flags.{times_one, times_both, flagged_below, many_removed}

-- whether a key is in a queue, as a number
pub has_from : (key : ℕ) (keys : List ℕ) → has_key key keys ≡ true → HasKey keys key
has_from key keys has = ltb-true 0 (times key keys) has

pub none_from : (key : ℕ) (keys : List ℕ) → has_key key keys ≡ false → times key keys ≡ 0
none_from key keys absent = elim (cases_lt 0 (times key keys)) [
  | inl has ↦ absurd (let is = lt-ltb 0 (times key keys) has in cc)
  | inr none ↦ omega (arith, none)
]

-- the first key stays unless it is the one that is removed
without_first : (key first : ℕ) (keys : List ℕ)
    → ((first ≡ key) × (without key (first ∷ keys) ≡ without key keys)) ⊎ ((first ≢ key) × (without key (first ∷ keys) ≡ first ∷ without key keys))
without_first key first keys = by (eqb first key) refl
  where
    by : (b : Bool) → eqb first key ≡ b
        → ((first ≡ key) × (without key (first ∷ keys) ≡ without key keys)) ⊎ ((first ≢ key) × (without key (first ∷ keys) ≡ first ∷ without key keys))
    by true is = inl (eqb-true first key is, ap (λ b. cond (not b) (first ∷ without key keys) (without key keys)) is)
    by false is = inr (eqb-false first key is, ap (λ b. cond (not b) (first ∷ without key keys) (without key keys)) is)

times_first : (other first : ℕ) (keys : List ℕ) → times other (first ∷ keys) ≡ times other (first ∷ []) + times other keys
times_first other first keys = times_both other (first ∷ []) keys

-- it is gone
pub times_same : (key : ℕ) (keys : List ℕ) → times key (without key keys) ≡ 0
times_same key [] = refl
times_same key (first ∷ keys) = elim (without_first key first keys) [
  | inl same ↦ ap (times key) same.1 ∙ times_same key keys
  | inr differs ↦ elim (times_one key first) [
    | inl is ↦ absurd (differs.0 is.0)
    | inr not ↦ omega (arith, ap (times key) differs.1, times_first key first (without key keys), not.1, times_same key keys)
  ]
]

-- the others are as often there as they were
pub times_other : (key other : ℕ) (keys : List ℕ) → other ≢ key → times other (without key keys) ≡ times other keys
times_other key other [] apart = refl
times_other key other (first ∷ keys) apart = elim (without_first key first keys) [
  | inl same ↦ elim (times_one other first) [
    | inl is ↦ absurd (apart (sym is.0 ∙ same.0))
    | inr not ↦ omega (arith, ap (times other) same.1, times_first other first keys, not.1, times_other key other keys apart)
  ]
  | inr differs ↦
      omega (arith, ap (times other) differs.1, times_first other first (without key keys), times_first other first keys, times_other key other keys apart)
]

-- how many are left
pub length_without : (key : ℕ) (keys : List ℕ) → length (without key keys) + times key keys ≡ length keys
length_without key [] = refl
length_without key (first ∷ keys) = elim (without_first key first keys) [
  | inl same ↦ elim (times_one key first) [
    | inl is ↦ omega (arith, ap (λ l. length l) same.1, times_first key first keys, is.1, length_without key keys)
    | inr not ↦ absurd (not.0 same.0)
  ]
  | inr differs ↦ elim (times_one key first) [
    | inl is ↦ absurd (differs.0 is.0)
    | inr not ↦ omega (arith, ap (λ l. length l) differs.1, times_first key first keys, not.1, length_without key keys)
  ]
]

-- without a key that is not there it is the same
pub without_absent : (key : ℕ) (keys : List ℕ) → times key keys ≡ 0 → keys ≡ without key keys
without_absent key [] none = refl
without_absent key (first ∷ keys) none = elim (without_first key first keys) [
  | inl same ↦ elim (times_one key first) [
    | inl is ↦ absurd (omega (arith, times_first key first keys, is.1, none))
    | inr not ↦ absurd (not.0 same.0)
  ]
  | inr differs ↦ ap (λ l. first ∷ l) (without_absent key keys (omega (arith, times_first key first keys, none))) ∙ sym differs.1
]

-- the flags of what is left
pub flagged_without : (keys : List ℕ) (flags : List Bool) (key : ℕ) → key < length flags → AreFlagged keys flags → AreFlagged (without key keys) (set flags key false)
flagged_without keys flags key below flagged other = elim (times_one other key) [
  | inl same ↦
      let off : get_or (set flags key false) other false ≡ false = ap (λ k. get_or (set flags key false) k false) (sym same.0) ∙ get_or-set_same flags key false false below in
      let gone : times other (without key keys) ≡ 0 = ap (λ k. times k (without key keys)) (sym same.0) ∙ times_same key keys in
      gone ∙ sym (ap (λ b. cond b 1 0) off)
  | inr differs ↦
      times_other key other keys (λ is. differs.0 (sym is)) ∙ flagged other
      ∙ sym (ap (λ b. cond b 1 0) (get_or-set_other flags key other false false (λ is. differs.0 (sym is))))
]

pub many_without : (keys : List ℕ) (flags : List Bool) (key : ℕ) → HasKey keys key → AreFlagged keys flags → AreAsMany keys flags
    → AreAsMany (without key keys) (set flags key false)
many_without keys flags key has flagged many =
    let on = flagged_below keys flags key flagged has in
    let once : times key keys ≡ 1 = flagged key ∙ ap (λ b. cond b 1 0) on.0 in
    many_removed keys (without key keys) flags key (omega (arith, length_without key keys, once)) on.0 on.1 many
