-- The next entry of two sorted runs is merged.
use Rattle.std.proofs.Common.{◌≡◌, ◌<◌, ◌≤◌, ◌+◌, ◌-◌, ◌∙◌, ℕ, true, false, List, [], ◌∷◌, ◌++◌, length, get_or, refl, sym, ap, arith, sum_by, Ordering, Less, Equal, Greater}
use Rattle.std.specs.Ordering.{is_lt, ordering_reverse}
use Rattle.std.proofs.lemmas.List.{at_drop_all, get_or_default, get_or_push, length_push}
use Rattle.std.proofs.lemmas.List.Kept.{IsSortedBy-push}
use Rattle.std.proofs.lemmas.List.Sums.{sum_by-drop_more, sum_by_push}
use Rattle.node_site.specs.HoldingsEntries.{AreMerged, IsInOrder, IsLastBefore, is_below, key_at, key_cmp}
use Rattle.node_site.specs.declared.entry.Entry.{Entry}
use Rattle.node_site.proofs.HoldingsKeys.{key_total}

pushed_before : (text : List ℕ) (merged : List Entry) (e next : Entry) → is_below text next e ≡ false → IsLastBefore text (merged ++ e ∷ []) next
pushed_before text merged e next first d some =
    let last : get_or (merged ++ e ∷ []) (length (merged ++ e ∷ []) - 1) d ≡ e = get_or_push merged e d _ (omega (arith, length_push merged e)) in
    ap (is_below text next) last ∙ first

-- the next entry of the first run does not come after that of the other
pub left_merged : (text : List ℕ) (left right : List Entry) (i j : ℕ) (merged : List Entry) (e : Entry) → IsInOrder text left → AreMerged text left right i j merged → i < length left
    → e ≡ get_or left i e → ((d : Entry) → j < length right → is_below text (get_or right j d) e ≡ false) → AreMerged text left right (i + 1) j (merged ++ e ∷ [])
left_merged text left right i j merged e up m within is first = record {
  left_within = omega (arith, within);
  right_within = m.right_within;
  sorted = IsSortedBy-push (is_below text) merged e m.sorted (λ d some. ap (λ (x : Entry). is_below text x (get_or merged (length merged - 1) d)) is ∙ m.before_left e within d some);
  before_left = λ d more. pushed_before text merged e (get_or left (i + 1) d)
      (ap (is_below text (get_or left (i + 1) d)) (is ∙ get_or_default left i e d within) ∙ up i d (omega arith) more);
  before_right = λ d more. pushed_before text merged e (get_or right j d) (first d more);
  same = λ weight. omega (arith, sum_by_push weight merged e, m.same weight, sum_by-drop_more weight left i e within, ap weight is);
}

swapped : (text : List ℕ) (left right : List Entry) (i j : ℕ) (merged : List Entry) → AreMerged text left right i j merged → AreMerged text right left j i merged
swapped text left right i j merged m = record {
  left_within = m.right_within;
  right_within = m.left_within;
  sorted = m.sorted;
  before_left = m.before_right;
  before_right = m.before_left;
  same = λ weight. omega (arith, m.same weight);
}

-- that of the other does not come after it
pub right_merged : (text : List ℕ) (left right : List Entry) (i j : ℕ) (merged : List Entry) (e : Entry) → IsInOrder text right → AreMerged text left right i j merged → j < length right
    → e ≡ get_or right j e → ((d : Entry) → i < length left → is_below text (get_or left i d) e ≡ false) → AreMerged text left right i (j + 1) (merged ++ e ∷ [])
right_merged text left right i j merged e up m within is first =
    swapped text right left (j + 1) i (merged ++ e ∷ []) (left_merged text right left j i merged e up (swapped text left right i j merged m) within is first)

pub none_merged : (text : List ℕ) (left right : List Entry) → AreMerged text left right 0 0 []
none_merged text left right = record {
  left_within = omega arith;
  right_within = omega arith;
  sorted = λ k d low high. absurd (omega (arith, high));
  before_left = λ e more d some. absurd (omega (arith, some));
  before_right = λ e more d some. absurd (omega (arith, some));
  same = λ weight. omega arith;
}

pub all_merged : (text : List ℕ) (left right : List Entry) (i j : ℕ) (merged : List Entry) → AreMerged text left right i j merged → length left + length right ≤ i + j
    → (weight : Entry → ℕ) → sum_by weight merged ≡ sum_by weight left + sum_by weight right
all_merged text left right i j merged m all weight =
    let none_left = at_drop_all (sum_by weight) left i (omega (arith, m.right_within, all)) in
    let none_right = at_drop_all (sum_by weight) right j (omega (arith, m.left_within, all)) in
    omega (arith, m.same weight, none_left, none_right)

less_one_way : (one other : Ordering) → one ≡ ordering_reverse other → is_lt other ≡ true → is_lt one ≡ false
less_one_way one Less h less = ap is_lt h
less_one_way one Equal h less = cc
less_one_way one Greater h less = cc

-- of two entries at most one is below the other
pub not_both : (text : List ℕ) (one other : Entry) → is_below text one other ≡ true → is_below text other one ≡ false
not_both text one other less =
    less_one_way (key_cmp (key_at text other) (key_at text one)) (key_cmp (key_at text one) (key_at text other)) (key_total.antisymm (key_at text other) (key_at text one)) less
