-- The order of parts, for a search by halves.
use Rattle.std.proofs.Common.{◌≡◌, ◌<◌, ◌≤◌, ◌+◌, ◌-◌, ◌^◌, ◌⊎◌, inl, inr, min, ℕ, zero, suc}
use Rattle.std.proofs.Common.{true, false, List, [], ◌∷◌, length, get_or, take, drop, None, All, vec_len, leb, ltb}
use Rattle.std.proofs.Common.{length-take, length-drop, get_or-take, get_or-drop, sym, subst, arith}
use Rattle.std.specs.List.{AllWithin}
use Rattle.std.specs.List.Sorted.{IsNonDecreasingBy}
use Rattle.std.proofs.lemmas.Bool.{cases_lt, leb-true, ltb-true, ltb-false}
use Rattle.std.proofs.lemmas.List.{take-map, drop-map}
use Rattle.std.proofs.lemmas.List.Elements.{All-map, All-take, All-drop}
use Rattle.feed_model.specs.Content.{byte_in, end_of, ArePartsFrom}
use Rattle.feed_parts.specs.declared.part.Part as code_part
use Rattle.feed_parts.specs.Shown.{shown_part, shown_parts}
use Rattle.feed_model.specs.Parts.{AreWithin}
use Rattle.feed_parts.proofs.Rest.{all_code}
use Rattle.feed_parts.proofs.Places.{none_after, none_ahead, parts_drop, parts_take, byte_in_take, byte_in_drop}

-- what the code computes for a part's end
abbrev pub code_end : code_part.Part → ℕ
code_end p = min (p.first + vec_len p.bytes) (2 ^ 64 - 1)

starts_after : (at : ℕ) (ps : List code_part.Part) → ArePartsFrom at (shown_parts ps) → (j : ℕ) (d : code_part.Part) → j < length ps → at ≤ (get_or ps j d).first
starts_after at [] w j d lt = absurd (omega arith)
starts_after at (p ∷ ps) w zero d lt = w.0
starts_after at (p ∷ ps) w (suc j) d lt = omega (arith, w.0, starts_after (end_of (shown_part p)) ps w.3 j d (omega arith))

-- none begins before an earlier one ends
pub ordered : (at : ℕ) (ps : List code_part.Part) → ArePartsFrom at (shown_parts ps) → (i j : ℕ) (d : code_part.Part) → i < j → j < length ps
    → end_of (shown_part (get_or ps i d)) ≤ (get_or ps j d).first
ordered at [] w i j d lt in' = absurd (omega arith)
ordered at (p ∷ ps) w i zero d lt in' = absurd (omega arith)
ordered at (p ∷ ps) w zero (suc j) d lt in' = starts_after (end_of (shown_part p)) ps w.3 j d (omega arith)
ordered at (p ∷ ps) w (suc i) (suc j) d lt in' = ordered (end_of (shown_part p)) ps w.3 i j d (omega arith) (omega arith)

pub ends_rise : (at : ℕ) (ps : List code_part.Part) → ArePartsFrom at (shown_parts ps) → IsNonDecreasingBy code_end ps
ends_rise at ps w i j d le in' = by (cases_lt i j)
  where
    by : (i < j) ⊎ (j ≤ i) → code_end (get_or ps i d) ≤ code_end (get_or ps j d)
    by (inl lt) = omega (arith, ordered at ps w i j d lt in', (get_or ps i d).bytes.ok.0)
    by (inr ge) = let same : i ≡ j = omega arith in rw same (omega arith)

pub starts_rise : (at : ℕ) (ps : List code_part.Part) → ArePartsFrom at (shown_parts ps) → IsNonDecreasingBy (λ p. p.first) ps
starts_rise at ps w i j d le in' = by (cases_lt i j)
  where
    by : (i < j) ⊎ (j ≤ i) → (get_or ps i d).first ≤ (get_or ps j d).first
    by (inl lt) = omega (arith, ordered at ps w i j d lt in')
    by (inr ge) = let same : i ≡ j = omega arith in rw same (omega arith)

all_taken : (P : code_part.Part → Type 0) (n : ℕ) (ps : List code_part.Part) → AllWithin P ps 0 n → All P (take n ps)
all_taken P n ps w k d lt =
    let below : k < n = omega (arith, length-take n ps) in
    subst P (sym (get_or-take n ps k d below)) (w k d (omega arith) below)

all_dropped : (P : code_part.Part → Type 0) (n : ℕ) (ps : List code_part.Part) → AllWithin P ps n (length ps) → All P (drop n ps)
all_dropped P n ps w k d lt = subst P (sym (get_or-drop n ps k d)) (w (n + k) d (omega arith) (omega (arith, length-drop n ps)))

-- The parts from the first that ends behind a place, up to the first that begins at an end or behind it, have what all have between.
module _ (size first end : ℕ) (ps : List code_part.Part) (within : AreWithin size (shown_parts ps)) (small : size < 2 ^ 64) where
  pub rest_order : (n : ℕ) → AreWithin size (shown_parts (drop n ps))
  rest_order n = record {
    parts = subst (ArePartsFrom 0) (drop-map shown_part n ps) (parts_drop 0 n (shown_parts ps) within.parts);
    inside = subst (All (λ p. end_of p ≤ size)) (drop-map shown_part n ps) (All-drop (λ p. end_of p ≤ size) n (shown_parts ps) within.inside);
  }

  pub front_order : (n : ℕ) → AreWithin size (shown_parts (take n ps))
  front_order n = record {
    parts = subst (ArePartsFrom 0) (take-map shown_part n ps) (parts_take 0 n (shown_parts ps) within.parts);
    inside = subst (All (λ p. end_of p ≤ size)) (take-map shown_part n ps) (All-take (λ p. end_of p ≤ size) n (shown_parts ps) within.inside);
  }

  pub front_ends : (n : ℕ) → AllWithin (λ p. leb (code_end p) first ≡ true) ps 0 n → All (λ p. end_of p ≤ first) (shown_parts (take n ps))
  front_ends n tests = All-map (λ p. end_of p ≤ first) shown_part (take n ps) ends
    where
      inside : All (λ p. end_of (shown_part p) ≤ size) (take n ps)
      inside = All-take (λ p. end_of (shown_part p) ≤ size) n ps (all_code (λ p. end_of p ≤ size) ps within.inside)

      passes : All (λ p. leb (code_end p) first ≡ true) (take n ps)
      passes = all_taken (λ p. leb (code_end p) first ≡ true) n ps tests

      ends : All (λ p. end_of (shown_part p) ≤ first) (take n ps)
      ends k d lt =
          let p = get_or (take n ps) k d in
          omega (arith, leb-true (code_end p) first (passes k d lt), inside k d lt, p.bytes.ok.0)

  pub front_starts : (n : ℕ) → AllWithin (λ p. ltb p.first end ≡ true) ps 0 n → All (λ p. p.first < end) (shown_parts (take n ps))
  front_starts n tests = All-map (λ p. p.first < end) shown_part (take n ps) starts
    where
      starts : All (λ p. p.first < end) (take n ps)
      starts k d lt = ltb-true (get_or (take n ps) k d).first end (all_taken (λ p. ltb p.first end ≡ true) n ps tests k d lt)

  pub rest_starts : (n : ℕ) → AllWithin (λ p. ltb p.first end ≡ false) ps n (length ps) → All (λ p. end ≤ p.first) (shown_parts (drop n ps))
  rest_starts n tests = All-map (λ p. end ≤ p.first) shown_part (drop n ps) starts
    where
      starts : All (λ p. end ≤ p.first) (drop n ps)
      starts k d lt = ltb-false (get_or (drop n ps) k d).first end (all_dropped (λ p. ltb p.first end ≡ false) n ps tests k d lt)

  pub rest_bytes : (n : ℕ) → AllWithin (λ p. leb (code_end p) first ≡ true) ps 0 n → (place : ℕ) → first ≤ place
      → byte_in (shown_parts (drop n ps)) place ≡ byte_in (shown_parts ps) place
  rest_bytes n tests place le =
      let none : byte_in (take n (shown_parts ps)) place ≡ None = none_after first (take n (shown_parts ps))
      (subst (All (λ p. end_of p ≤ first)) (sym (take-map shown_part n ps)) (front_ends n tests)) place le in
      subst (λ qs. byte_in qs place ≡ byte_in (shown_parts ps) place) (drop-map shown_part n ps) (byte_in_drop n (shown_parts ps) place none)

  pub front_bytes : (n : ℕ) → AllWithin (λ p. ltb p.first end ≡ false) ps n (length ps) → (place : ℕ) → place < end
      → byte_in (shown_parts (take n ps)) place ≡ byte_in (shown_parts ps) place
  front_bytes n tests place lt =
      let none : byte_in (drop n (shown_parts ps)) place ≡ None = none_ahead end (drop n (shown_parts ps))
      (subst (All (λ p. end ≤ p.first)) (sym (drop-map shown_part n ps)) (rest_starts n tests)) place lt in
      subst (λ qs. byte_in qs place ≡ byte_in (shown_parts ps) place) (take-map shown_part n ps) (byte_in_take n (shown_parts ps) place none)
