-- The answer of a selection is in the order that it asks for.
use Rattle.std.proofs.Common.{pos, ◌<◌, true, subst, inl, inr, nat_lt, ◌==◌, ◌≤◌, ◌≡◌, ◌+◌, ℕ, List, [], ◌∷◌, map, flat_map, length, get_or, false, refl, sym, ap}
use Rattle.std.proofs.Common.{◌∙◌, arith}
use Rattle.std.specs.List.{All}
use Rattle.std.specs.List.Sorted.{IsSorted}
use Rattle.std.specs.Ordering.{int_cmp, is_lt, nat_cmp, on, ordering_then}
use Rattle.std.specs.declared.cmp.Ordering.{Ordering}
use Rattle.std.specs.declared.cmp.Ordering.TheVariants.{Less, Equal, Greater}
use Rattle.std.specs.Cmp.Lexicographic.{slice_cmp}
use Rattle.std.proofs.lemmas.Bool.{cases_order}
use Rattle.std.proofs.lemmas.Bool.Decides.{nat_tests}
use Rattle.std.proofs.lemmas.List.{get_or-map, length-map}
use Rattle.std.proofs.lemmas.List.Elements.{All-cons, All-nil}
use Rattle.std.proofs.lemmas.List.Sorted.{All-permutation}
use Rattle.sqlite_value.specs.declared.value.Value.TheVariants.{Text}
use Rattle.sqlite_value.specs.declared.keys.Collation.TheVariants.{Binary}
use Rattle.sqlite_value.specs.declared.keys.Key.{Key}
use Rattle.sqlite_value.specs.Order.{Row, column, value_cmp}
use Rattle.sqlite_value.proofs.OrderLemmas.{value_cmp-Text, value_cmp-Int}
use Rattle.sqlite_trees.specs.Tree.{Trees}
use Rattle.sqlite_sql.specs.Term.{Term, Env, eval_all}
use Rattle.sqlite_sql.specs.Query.{IsAnswer, Output, output, key_cmp}
use Rattle.sqlite_sql.specs.Program.{overlay}
use Rattle.feed_store_model.specs.Tables.{part_in, text_in}
use Rattle.feed_store_model.proofs.Rows.{table_query}
use Rattle.feed_store_model.proofs.Gone.{IsTexted}
use Rattle.feed_store_model.proofs.Unique.{IsPlaced}
use Rattle.feed_store_read.specs.Pieces.{ArePlacesInOrder}
use Rattle.feed_store_read.specs.Releases.{AreTextsInOrder}

module _ (tree : ℕ) (shown : List Term) (order : List (Term × Key)) (keys : Row → Row)
    (shows : (r : Row) → eval_all (map (λ k. k.0) order) ([] ∷ r ∷ []) ≡ keys (eval_all shown ([] ∷ r ∷ []))) where
  abbrev IsKeyed : Output → Type 0
  IsKeyed o = o.0 ≡ keys o.1

  abbrev env_of : Row → List Env
  env_of r = ([] ∷ r ∷ []) ∷ []

  all_keyed : (rows : List Row) → All IsKeyed (map (output (table_query tree [] shown order)) (flat_map env_of rows))
  all_keyed [] = All-nil IsKeyed
  all_keyed (r ∷ rows) = All-cons IsKeyed (output (table_query tree [] shown order) ([] ∷ r ∷ [])) _ (shows r) (all_keyed rows)

  pub in_order : (db : Trees) (rows : List Row) → IsAnswer (table_query tree [] shown order) (overlay db []) [] rows → IsSorted (on keys (key_cmp 0 (map (λ k. k.1) order))) rows
  in_order db rows a =
      let q = table_query tree [] shown order in
      let kept : a.kept ≡ map (output q) (flat_map env_of (overlay db [] tree)) = a.distinct ∙ ap (map (output q)) a.grouped in
      let keyed : All IsKeyed a.ordered = All-permutation IsKeyed a.kept a.ordered a.same (subst (All IsKeyed) (sym kept) (all_keyed (overlay db [] tree))) in
      subst (IsSorted (on keys (key_cmp 0 (map (λ k. k.1) order)))) (sym a.shown) (λ k d low high.
      let e : Output = (d, d) in
      let second : Output → Row = λ o. o.1 in
      let count : length (map second a.ordered) ≡ length a.ordered = length-map a.ordered second in
      let here = a.sorted k e low (omega arith) in
      let one : keys (get_or (map second a.ordered) k d) ≡ (get_or a.ordered k e).0 = ap keys (get_or-map second a.ordered k e d (omega arith)) ∙ sym (keyed k e (omega arith)) in
      let two : keys (get_or (map second a.ordered) (k + 1) d) ≡ (get_or a.ordered (k + 1) e).0 =
      ap keys (get_or-map second a.ordered (k + 1) e d (omega arith)) ∙ sym (keyed (k + 1) e (omega arith)) in
      ap is_lt (ap (λ x. key_cmp 0 (map (λ k. k.1) order) x (keys (get_or (map second a.ordered) k d))) two
      ∙ ap (key_cmp 0 (map (λ k. k.1) order) (get_or a.ordered (k + 1) e).0) one) ∙ here)

-- ---- by the first column alone

abbrev pub key : Key
key = record { collation = Binary; descending = false }

abbrev pub name_key : Row → Row
name_key row = column row 1 ∷ []

last_equal : (o : Ordering) → is_lt (ordering_then o Equal) ≡ is_lt o
last_equal Less = refl
last_equal Equal = refl
last_equal Greater = refl

pub texts_in_order : (rows : List Row) → All IsTexted rows → IsSorted (on name_key (key_cmp 0 (key ∷ []))) rows → AreTextsInOrder rows
texts_in_order rows texted up k d low high =
    let a = get_or rows (k + 1) d in
    let b = get_or rows k d in
    let one : column a 1 ≡ Text (text_in a) = texted (k + 1) d high in
    let two : column b 1 ≡ Text (text_in b) = texted k d (omega arith) in
    let cmp : value_cmp (column a 1) (column b 1) ≡ slice_cmp nat_cmp (text_in a) (text_in b) = rw (one, two, value_cmp-Text (text_in a) (text_in b)) in
    sym (last_equal (value_cmp (column a 1) (column b 1)) ∙ ap is_lt cmp) ∙ up k d low high

-- ---- by the first column, and then by the second

abbrev pub place_key : Row → Row
place_key row = column row 1 ∷ column row 2 ∷ []

last_two : (o p : Ordering) → is_lt (ordering_then o (ordering_then p Equal)) ≡ is_lt (ordering_then o p)
last_two Less p = refl
last_two Equal p = last_equal p
last_two Greater p = refl

-- a row with a text and a place
abbrev pub IsPlacedText : Row → Type 0
IsPlacedText row = IsTexted row × IsPlaced row

is_less : (m n : ℕ) → m < n → nat_lt m n ≡ true
is_less m n lt = grind (arith, nat_tests)

is_not_less : (m n : ℕ) → m ≤ n → nat_lt n m ≡ false
is_not_less m n le = grind (arith, nat_tests)

is_other : (m n : ℕ) → n < m → (m == n) ≡ false
is_other m n lt = grind (arith, nat_tests)

is_same : (n : ℕ) → (n == n) ≡ true
is_same n = grind (arith, nat_tests)

nat_pos : (m n : ℕ) → int_cmp (pos m) (pos n) ≡ nat_cmp m n
nat_pos m n = elim (cases_order m n) [
  | inl same ↦ subst (λ k. int_cmp (pos m) (pos k) ≡ nat_cmp m k) same (rw (is_not_less m m (omega arith), is_same m))
  | inr (inl less) ↦ rw (is_less m n less)
  | inr (inr more) ↦ rw (is_not_less n m (omega arith), is_less n m more, is_other m n more)
]

pub places_in_order : (rows : List Row) → All IsPlacedText rows → IsSorted (on place_key (key_cmp 0 (key ∷ key ∷ []))) rows → ArePlacesInOrder rows
places_in_order rows placed up k d low high =
    let a = get_or rows (k + 1) d in
    let b = get_or rows k d in
    let one = placed (k + 1) d high in
    let two = placed k d (omega arith) in
    let texts : value_cmp (column a 1) (column b 1) ≡ slice_cmp nat_cmp (text_in a) (text_in b) = rw (one.0, two.0, value_cmp-Text (text_in a) (text_in b)) in
    let m = (part_in a).first in
    let n = (part_in b).first in
    let places : value_cmp (column a 2) (column b 2) ≡ nat_cmp m n = (λ i. value_cmp (one.1 i) (two.1 i)) ∙ value_cmp-Int (pos m) (pos n) ∙ nat_pos m n in
    sym (last_two (value_cmp (column a 1) (column b 1)) (value_cmp (column a 2) (column b 2)) ∙ (λ i. is_lt (ordering_then (texts i) (places i)))) ∙ up k d low high
