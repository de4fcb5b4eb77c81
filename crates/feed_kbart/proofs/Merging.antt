-- The next entry of two sorted runs is merged.
use Rattle.std.proofs.Common.{◌≡◌, ◌<◌, ◌≤◌, ◌+◌, ◌-◌, ◌∙◌, ℕ, List, [], ◌∷◌, ◌++◌, map, length, get_or, sym, ap, arith, sum_by, leb, true, false}
use Rattle.std.proofs.lemmas.Bool.Decides.{nat_tests}
use Rattle.std.proofs.lemmas.List.{at_drop_all, get_or_default, get_or_push, length_push, map-append}
use Rattle.std.proofs.lemmas.List.Sorted.{IsNonDecreasingBy-push, IsNonDecreasingBy-short}
use Rattle.std.proofs.lemmas.List.Sums.{sum_by-drop_more, sum_by_push}
use Rattle.feed_kbart.specs.Entries.{AreMerged, AreSorted, IsLastBefore, key_of}
use Rattle.feed_kbart.specs.declared.entry.Entry.{Entry}

pushed_before : (merged : List Entry) (e next : Entry) → key_of e ≤ key_of next → IsLastBefore (merged ++ e ∷ []) next
pushed_before merged e next first d some =
    let last : get_or (merged ++ e ∷ []) (length (merged ++ e ∷ []) - 1) d ≡ e = get_or_push merged e d _ (omega (arith, length_push merged e)) in
    omega (arith, ap key_of last, first)

-- the next entry of the first run does not come after that of the other
pub left_merged : (left right : List Entry) (i j : ℕ) (merged : List Entry) (e : Entry) → AreSorted left → AreMerged left right i j merged → i < length left
    → e ≡ get_or left i e → ((d : Entry) → j < length right → key_of e ≤ key_of (get_or right j d)) → AreMerged left right (i + 1) j (merged ++ e ∷ [])
left_merged left right i j merged e up m within is first = record {
  left_within = omega (arith, within);
  right_within = m.right_within;
  sorted = IsNonDecreasingBy-push key_of merged e m.sorted (λ d some. omega (arith, m.before_left e within d some, ap key_of is));
  before_left = λ d more. pushed_before merged e _ (omega (arith, up i (i + 1) d (omega arith) more, ap key_of is, ap key_of (get_or_default left i e d within)));
  before_right = λ d more. pushed_before merged e _ (first d more);
  same = λ weight. omega (arith, sum_by_push weight merged e, m.same weight, sum_by-drop_more weight left i e within, ap weight is);
}

swapped : (left right : List Entry) (i j : ℕ) (merged : List Entry) → AreMerged left right i j merged → AreMerged right left j i merged
swapped left right i j merged m = record {
  left_within = m.right_within;
  right_within = m.left_within;
  sorted = m.sorted;
  before_left = m.before_right;
  before_right = m.before_left;
  same = λ weight. omega (arith, m.same weight);
}

-- that of the other does not come after it
pub right_merged : (left right : List Entry) (i j : ℕ) (merged : List Entry) (e : Entry) → AreSorted right → AreMerged left right i j merged → j < length right
    → e ≡ get_or right j e → ((d : Entry) → i < length left → key_of e ≤ key_of (get_or left i d)) → AreMerged left right i (j + 1) (merged ++ e ∷ [])
right_merged left right i j merged e up m within is first =
    swapped right left (j + 1) i (merged ++ e ∷ []) (left_merged right left j i merged e up (swapped left right i j merged m) within is first)

pub none_merged : (left right : List Entry) → AreMerged left right 0 0 []
none_merged left right = record {
  left_within = omega arith;
  right_within = omega arith;
  sorted = IsNonDecreasingBy-short key_of [] (omega arith);
  before_left = λ e more d some. absurd (omega (arith, some));
  before_right = λ e more d some. absurd (omega (arith, some));
  same = λ weight. omega arith;
}

pub all_merged : (left right : List Entry) (i j : ℕ) (merged : List Entry) → AreMerged left right i j merged → length left + length right ≤ i + j
    → (weight : Entry → ℕ) → sum_by weight merged ≡ sum_by weight left + sum_by weight right
all_merged left right i j merged m all weight =
    let none_left = at_drop_all (sum_by weight) left i (omega (arith, m.right_within, all)) in
    let none_right = at_drop_all (sum_by weight) right j (omega (arith, m.left_within, all)) in
    omega (arith, m.same weight, none_left, none_right)

-- what a test of two keys says
pub tested_at_most : (m n : ℕ) → leb m n ≡ true → m ≤ n
tested_at_most m n h = grind (arith, nat_tests)

pub tested_less : (m n : ℕ) → leb m n ≡ false → n < m
tested_less m n h = grind (arith, nat_tests)

-- the columns of the entries that are merged
pub record AreInColumns (left right : List Entry) (i j : ℕ) (ns ps : List ℕ) : Type 0 where
  pub entries : List Entry
  pub merged : AreMerged left right i j entries
  pub numbers : ns ≡ map (λ e. e.number) entries
  pub places : ps ≡ map (λ e. e.place) entries

pub none_in_columns : (left right : List Entry) (numbers places : List ℕ) → numbers ≡ [] → places ≡ [] → AreInColumns left right 0 0 numbers places
none_in_columns left right numbers places n p = record { entries = []; merged = none_merged left right; numbers = n; places = p }

pub next_in_columns : (left right : List Entry) (i j i2 j2 : ℕ) (numbers places numbers2 places2 : List ℕ) (e : Entry) → AreInColumns left right i j numbers places
    → ((merged : List Entry) → AreMerged left right i j merged → AreMerged left right i2 j2 (merged ++ e ∷ []))
    → numbers2 ≡ numbers ++ e.number ∷ [] → places2 ≡ places ++ e.place ∷ [] → AreInColumns left right i2 j2 numbers2 places2
next_in_columns left right i j i2 j2 numbers places numbers2 places2 e c next n p = record {
  entries = c.entries ++ e ∷ [];
  merged = next c.entries c.merged;
  numbers = n ∙ ap (λ l. l ++ e.number ∷ []) c.numbers ∙ sym (map-append (λ (e : Entry). e.number) c.entries (e ∷ []));
  places = p ∙ ap (λ l. l ++ e.place ∷ []) c.places ∙ sym (map-append (λ (e : Entry). e.place) c.entries (e ∷ []));
}
