-- The rows of a sorted list that no other row is alike.
use Rattle.std.proofs.Common.{◌↔◌, IsTrue, ◌≡◌, ◌∙◌, ◌<◌, ◌≤◌, ◌+◌, ◌-◌, ℕ, Bool, true, false, not, cond, List, [], ◌∷◌, ◌++◌}
use Rattle.std.proofs.Common.{length, map, take, drop, get_or, refl, sym, ap, subst, arith, nat_le}
use Rattle.std.proofs.lemmas.Bool.{le-leb, lt-leb}
use Rattle.std.proofs.lemmas.Cmp.{tied_back, tied_itself}
use Rattle.std.proofs.lemmas.List.{append-nil, append_assoc, get_or-drop, get_or_default, get_or-take, length-drop, length-take-le}
use Rattle.std.proofs.lemmas.List.Elements.{All-append, All-cons, All-head, All-nil, All-tail, All-weaker, filter_more, filter_passes}
use Rattle.std.proofs.lemmas.List.Kept.{IsSortedBy-filter}
use Rattle.std.proofs.lemmas.List.MinMax.{ranks_by}
use Rattle.std.proofs.lemmas.List.Sorted.{All-permutation, IsPermutation-append_comm, IsPermutation-append_left, IsPermutation-append_right}
use Rattle.std.proofs.lemmas.List.Sorted.{IsPermutation-filter_both, IsPermutation-trans, sum_by-IsPermutation}
use Rattle.std.proofs.lemmas.List.Sums.{get_or-le-sum_by, sum_by-drop_more, sum_by-le, sum_by-take-drop}
use Rattle.std.specs.Borrow.{Bor}
use Rattle.std.specs.Cmp.{IsTotalOrder}
use Rattle.std.specs.List.{All, AllWithin, count_by, filter}
use Rattle.std.specs.List.Sorted.{IsPermutation, IsSortedBy}
use Rattle.std.specs.Ordering.{is_eq, is_gt, is_lt, ordering_reverse}
use Rattle.std.specs.declared.cmp.Ordering.{Ordering}
use Rattle.std.specs.declared.cmp.Ordering.TheVariants.{Less, Equal, Greater}
use Rattle.feed_kbart.specs.RowValue.{RowValue}
use Rattle.cmd_report.specs.Pairing.{AreSorted, AreTied, IsPairing, IsSinglePair, IsSinglePairing, firsts, is_single, order, seconds}
use Rattle.cmd_report.specs.declared.comparison.RowChange.{RowChange}
use Rattle.cmd_report.specs.declared.order.By.{By}
use Rattle.cmd_report.specs.declared.pairing.Pairing.{Pairing}
use Rattle.cmd_report.proofs.Alike.{order_total}
use Rattle.cmd_report.proofs.Merging.{before_all, sorted_upto, upto_then_less}

module _ {X : Type 0} (R : X → X → Ordering) (o : IsTotalOrder R) where
  abbrev ties : X → List X → ℕ
  ties x xs = count_by (λ y. is_eq (R x y)) xs

  abbrev one_if : X → X → ℕ
  one_if x y = cond (is_eq (R x y)) 1 0

  -- the rows around a place
  around : (xs : List X) (i : ℕ) (x d : X) → i < length xs → ties x xs ≡ ties x (take i xs) + (one_if x (get_or xs i d) + ties x (drop (i + 1) xs))
  around xs i x d within = omega (arith, sum_by-take-drop (one_if x) xs i, sum_by-drop_more (one_if x) xs i d within)

  itself : (x : X) → one_if x x ≡ 1
  itself x = ap (λ r. cond (is_eq r) 1 0) (tied_itself o x)

  none : (x : X) (xs : List X) → All (λ y. one_if x y ≤ 0) xs → ties x xs ≡ 0
  none x xs all = omega (arith, sum_by-le (one_if x) 0 xs all)

  not_tied : (x y : X) (r : Ordering) → R x y ≡ r → is_eq r ≡ false → one_if x y ≤ 0
  not_tied x y r e n = subst (λ b. cond b 1 0 ≤ 0) (sym (ap is_eq e ∙ n)) (omega arith)

  -- not above, and not alike, is less
  strictly : (r : Ordering) → is_gt r ≡ false → (r ≡ Equal → ⊥) → r ≡ Less
  strictly Less n h = refl
  strictly Equal n h = absurd (h refl)
  strictly Greater n h = absurd (cc)

  turned_less : (x y : X) → R x y ≡ Less → R y x ≡ Greater
  turned_less x y p = o.antisymm y x ∙ ap ordering_reverse p

  none_before : (xs : List X) (i : ℕ) (d : X) → IsSortedBy (λ a b. is_lt (R a b)) xs → i < length xs → (0 < i → R (get_or xs (i - 1) d) (get_or xs i d) ≡ Equal → ⊥)
      → All (λ y. one_if (get_or xs i d) y ≤ 0) (take i xs)
  none_before xs i d up within apart k e low =
      let count : length (take i xs) ≡ i = length-take-le i xs (omega arith) in
      let below : k < i = omega (arith, count) in
      let x : X = get_or xs i d in
      let y : X = get_or xs k d in
      let same : get_or (take i xs) k e ≡ y = get_or-take i xs k e below ∙ get_or_default xs k e d (omega arith) in
      let last : is_gt (R (get_or xs (i - 1) d) x) ≡ false = sorted_upto R o xs (i - 1) i d up (omega arith) within in
      let upto : is_gt (R y (get_or xs (i - 1) d)) ≡ false = sorted_upto R o xs k (i - 1) d up (omega arith) (omega arith) in
      let less : R y x ≡ Less = upto_then_less R o y (get_or xs (i - 1) d) x upto (strictly (R (get_or xs (i - 1) d) x) last (apart (omega arith))) in
      subst (λ z. one_if x z ≤ 0) (sym same) (not_tied x y Greater (turned_less y x less) refl)

  none_after : (xs : List X) (i : ℕ) (d : X) → IsSortedBy (λ a b. is_lt (R a b)) xs → i < length xs → (i + 1 < length xs → R (get_or xs i d) (get_or xs (i + 1) d) ≡ Equal → ⊥)
      → All (λ y. one_if (get_or xs i d) y ≤ 0) (drop (i + 1) xs)
  none_after xs i d up within apart k e low =
      let count : length (drop (i + 1) xs) ≡ length xs - (i + 1) = length-drop (i + 1) xs in
      let room : i + 1 < length xs = omega (arith, count) in
      let x : X = get_or xs i d in
      let next : X = get_or xs (i + 1) d in
      let less : R x next ≡ Less = strictly (R x next) (sorted_upto R o xs i (i + 1) d up (omega arith) room) (apart room) in
      let all : AllWithin (λ z. R x z ≡ Less) xs (i + 1) (length xs) =
      before_all R o xs (i + 1) x next up room (get_or_default xs (i + 1) d next room) less in
      rw (get_or-drop (i + 1) xs k e) (not_tied x (get_or xs (i + 1 + k) e) Less (all (i + 1 + k) e (omega arith) (omega (arith, count))) refl)

  -- a row that is alike neither neighbor is alike no other
  pub alone : (xs : List X) (i : ℕ) (d : X) → IsSortedBy (λ a b. is_lt (R a b)) xs → i < length xs → (0 < i → R (get_or xs (i - 1) d) (get_or xs i d) ≡ Equal → ⊥)
      → (i + 1 < length xs → R (get_or xs i d) (get_or xs (i + 1) d) ≡ Equal → ⊥) → ties (get_or xs i d) xs ≤ 1
  alone xs i d up within before after =
      omega (
        arith,
        around xs i (get_or xs i d) d within,
        itself (get_or xs i d),
        none (get_or xs i d) (take i xs) (none_before xs i d up within before),
        none (get_or xs i d) (drop (i + 1) xs) (none_after xs i d up within after),
      )

  -- one that is alike a neighbor is not alone
  pub tied_before : (xs : List X) (i : ℕ) (d : X) → 0 < i → i < length xs → R (get_or xs (i - 1) d) (get_or xs i d) ≡ Equal → 1 < ties (get_or xs i d) xs
  tied_before xs i d some within same =
      let x : X = get_or xs i d in
      let y : X = get_or xs (i - 1) d in
      let count : length (take i xs) ≡ i = length-take-le i xs (omega arith) in
      let shown : get_or (take i xs) (i - 1) d ≡ y = get_or-take i xs (i - 1) d (omega arith) in
      let one : one_if x (get_or (take i xs) (i - 1) d) ≡ 1 = ap (one_if x) shown ∙ ap (λ r. cond (is_eq r) 1 0) (tied_back o y x same) in
      omega (arith, around xs i x d within, itself x, one, get_or-le-sum_by (one_if x) (take i xs) (i - 1) d (omega (arith, count)))

  pub tied_after : (xs : List X) (i : ℕ) (d : X) → i + 1 < length xs → R (get_or xs i d) (get_or xs (i + 1) d) ≡ Equal → 1 < ties (get_or xs i d) xs
  tied_after xs i d within same =
      let x : X = get_or xs i d in
      let count : length (drop (i + 1) xs) ≡ length xs - (i + 1) = length-drop (i + 1) xs in
      let shown : get_or (drop (i + 1) xs) 0 d ≡ get_or xs (i + 1) d = get_or-drop (i + 1) xs 0 d ∙ ap (λ n. get_or xs n d) (omega arith) in
      let one : one_if x (get_or (drop (i + 1) xs) 0 d) ≡ 1 = ap (one_if x) shown ∙ ap (λ r. cond (is_eq r) 1 0) same in
      omega (arith, around xs i x d (omega arith), itself x, one, get_or-le-sum_by (one_if x) (drop (i + 1) xs) 0 d (omega (arith, count)))

-- a row is single or not, by its neighbors
single : (n : ℕ) → n ≤ 1 → nat_le n 1 ≡ true
single n few = le-leb n 1 few

not_single : (n : ℕ) → 1 < n → nat_le n 1 ≡ false
not_single n many = lt-leb n 1 many

module _ (by : By) (rows : List (Bor RowValue)) (i : ℕ) (d : Bor RowValue) (up : AreSorted by rows) (within : i < length rows) where
  pub single_is : (0 < i → AreTied by rows (i - 1) → ⊥) → (AreTied by rows i → ⊥) → is_single by rows (get_or rows i d) ≡ true
  single_is before after =
      single (count_by (λ other. is_eq (order by (get_or rows i d) other)) rows)
      (alone (order by) (order_total by) rows i d up within
      (λ some same. before some (omega arith, λ e. neighbors (i - 1) (omega arith) e (subst (λ n. order by (get_or rows (i - 1) d) (get_or rows n d) ≡ Equal) (omega arith) same)))
      (λ more same. after (more, λ e. neighbors i more e same)))
    where
      neighbors : (k : ℕ) → k + 1 < length rows → (e : Bor RowValue) → order by (get_or rows k d) (get_or rows (k + 1) d) ≡ Equal
          → order by (get_or rows k e) (get_or rows (k + 1) e) ≡ Equal
      neighbors k more e same =
          subst (λ x. order by x (get_or rows (k + 1) e) ≡ Equal) (get_or_default rows k d e (omega arith))
          (subst (λ x. order by (get_or rows k d) x ≡ Equal) (get_or_default rows (k + 1) d e more) same)

  pub not_single_before : 0 < i → AreTied by rows (i - 1) → is_single by rows (get_or rows i d) ≡ false
  not_single_before some tied =
      not_single (count_by (λ other. is_eq (order by (get_or rows i d) other)) rows)
      (tied_before (order by) (order_total by) rows i d some within (subst (λ n. order by (get_or rows (i - 1) d) (get_or rows n d) ≡ Equal) (omega arith) (tied.1 d)))

  pub not_single_after : AreTied by rows i → is_single by rows (get_or rows i d) ≡ false
  not_single_after tied =
      not_single (count_by (λ other. is_eq (order by (get_or rows i d) other)) rows) (tied_after (order by) (order_total by) rows i d tied.0 (tied.1 d))

  pub decided : (b : Bool) → (IsTrue b ↔ AreTied by rows i) → (0 < i → AreTied by rows (i - 1) → ⊥) → not b ≡ is_single by rows (get_or rows i d)
  decided true is before = sym (not_single_after (is.0 refl))
  decided false is before = sym (single_is before (λ tied. let no : false ≡ true = is.1 tied in absurd (cc)))

-- whether a row is single does not depend on the order of the list
pub single_anywhere : (by : By) (rows sorted : List (Bor RowValue)) (row : Bor RowValue) → IsPermutation rows sorted → is_single by sorted row ≡ is_single by rows row
single_anywhere by rows sorted row same = ap (λ n. nat_le n 1) (sum_by-IsPermutation (λ other. cond (is_eq (order by row other)) 1 0) rows sorted same)

-- a list is split, one row at a time
module _ {X : Type 0} (p : X → Bool) (xs : List X) (i : ℕ) (x : X) (within : i < length xs) (at : x ≡ get_or xs i x) where
  kept_more : (q : X → Bool) → q x ≡ true → filter q (take i xs) ++ x ∷ [] ≡ filter q (take (i + 1) xs)
  kept_more q pass =
      (λ j. filter q (take i xs) ++ cond (sym pass j) (x ∷ []) []) ∙ (λ j. filter q (take i xs) ++ cond (q (at j)) (at j ∷ []) []) ∙ sym (filter_more q xs i x within)

  dropped_more : (q : X → Bool) → q x ≡ false → filter q (take i xs) ≡ filter q (take (i + 1) xs)
  dropped_more q fail =
      sym (append-nil (filter q (take i xs))) ∙ (λ j. filter q (take i xs) ++ cond (sym fail j) (x ∷ []) []) ∙ (λ j. filter q (take i xs) ++ cond (q (at j)) (at j ∷ []) [])
      ∙ sym (filter_more q xs i x within)

  module _ (kept dropped kept' dropped' : List X) (so_far : (kept ≡ filter p (take i xs)) × (dropped ≡ filter (λ y. not (p y)) (take i xs))) where
    pub split_yes : p x ≡ true → kept' ≡ kept ++ x ∷ [] → dropped' ≡ dropped
        → (kept' ≡ filter p (take (i + 1) xs)) × (dropped' ≡ filter (λ y. not (p y)) (take (i + 1) xs))
    split_yes pass e f =
        (e ∙ ap (λ l. l ++ x ∷ []) so_far.0 ∙ kept_more p pass, f ∙ so_far.1 ∙ dropped_more (λ y. not (p y)) (ap not pass))

    pub split_no : p x ≡ false → kept' ≡ kept → dropped' ≡ dropped ++ x ∷ []
        → (kept' ≡ filter p (take (i + 1) xs)) × (dropped' ≡ filter (λ y. not (p y)) (take (i + 1) xs))
    split_no fail e f =
        (e ∙ so_far.0 ∙ dropped_more p fail, f ∙ ap (λ l. l ++ x ∷ []) so_far.1 ∙ kept_more (λ y. not (p y)) (ap not fail))

-- parts of lists
swap_last : {X : Type 0} (a b c : List X) → IsPermutation ((a ++ b) ++ c) ((a ++ c) ++ b)
swap_last a b c =
    let inner : IsPermutation (a ++ (b ++ c)) (a ++ (c ++ b)) = IsPermutation-append_right a (b ++ c) (c ++ b) (IsPermutation-append_comm b c) in
    subst (λ l. IsPermutation l ((a ++ c) ++ b)) (sym (append_assoc a b c)) (subst (IsPermutation (a ++ (b ++ c))) (sym (append_assoc a c b)) inner)

module _ {X : Type 0} (P : X → Type 0) where
  pub all_left : (xs ys : List X) → All P (xs ++ ys) → All P xs
  all_left [] ys all = All-nil P
  all_left (x ∷ xs) ys all = All-cons P x xs (All-head P x (xs ++ ys) all) (all_left xs ys (All-tail P x (xs ++ ys) all))

  pub all_right : (xs ys : List X) → All P (xs ++ ys) → All P ys
  all_right [] ys all = all
  all_right (x ∷ xs) ys all = all_right xs ys (All-tail P x (xs ++ ys) all)

  pub unmapped : {Y : Type 0} (f : Y → X) (ys : List Y) → All P (map f ys) → All (λ y. P (f y)) ys
  unmapped f [] all = All-nil (λ y. P (f y))
  unmapped f (y ∷ ys) all = All-cons (λ z. P (f z)) y ys (All-head P (f y) (map f ys) all) (unmapped f ys (All-tail P (f y) (map f ys) all))

was_false : (b : Bool) → not b ≡ true → b ≡ false
was_false true e = absurd (cc)
was_false false e = refl

-- single rows are in pairs, and the others are left
module _ (by : By) (old sorted left : List (Bor RowValue)) (pairs : List (Bor RowValue)) (same : IsPermutation old sorted)
    (split : IsPermutation (filter (is_single by sorted) sorted) (left ++ pairs)) where
  abbrev others : List (Bor RowValue)
  others = filter (λ row. not (is_single by sorted row)) sorted

  pub all_rows : IsPermutation old ((left ++ others) ++ pairs)
  all_rows =
      let singles : List (Bor RowValue) = filter (is_single by sorted) sorted in
      IsPermutation-trans old sorted ((left ++ others) ++ pairs) same
      (IsPermutation-trans sorted (singles ++ others) ((left ++ others) ++ pairs)
      (IsPermutation-filter_both (is_single by sorted) (λ row. not (is_single by sorted row)) (λ row. refl) sorted)
      (IsPermutation-trans (singles ++ others) ((left ++ pairs) ++ others) ((left ++ others) ++ pairs)
      (IsPermutation-append_left others singles (left ++ pairs) split) (swap_last left pairs others)))

  pub paired_single : All (λ row. is_single by old row ≡ true) pairs
  paired_single =
      All-weaker (λ row. is_single by sorted row ≡ true) (λ row. is_single by old row ≡ true) (λ row e. sym (single_anywhere by old sorted row same) ∙ e) pairs
      (all_right (λ row. is_single by sorted row ≡ true) left pairs
      (All-permutation (λ row. is_single by sorted row ≡ true) (filter (is_single by sorted) sorted) (left ++ pairs) split (filter_passes (is_single by sorted) sorted)))

  pub others_not : All (λ row. is_single by old row ≡ true → ⊥) others
  others_not =
      All-weaker (λ row. not (is_single by sorted row) ≡ true) (λ row. is_single by old row ≡ true → ⊥)
      (λ row e one. let no : true ≡ false = sym one ∙ sym (single_anywhere by old sorted row same) ∙ was_false (is_single by sorted row) e in absurd (cc))
      others (filter_passes (λ row. not (is_single by sorted row)) sorted)

-- some rows of a sorted list are sorted
pub sorted_filter : (by : By) (test : Bor RowValue → Bool) (rows : List (Bor RowValue)) → AreSorted by rows → AreSorted by (filter test rows)
sorted_filter by test rows up = IsSortedBy-filter (λ r s. is_lt (order by r s)) (ranks_by (order_total by) (λ (r : Bor RowValue). r)) test rows up

pub single_pairs : (by : By) (old new old_sorted new_sorted : List (Bor RowValue)) (pairing result : Pairing) → IsPermutation old old_sorted → IsPermutation new new_sorted
    → IsPairing by (filter (is_single by old_sorted) old_sorted) (filter (is_single by new_sorted) new_sorted) pairing → result.pairs.items ≡ pairing.pairs.items
    → result.old.items ≡ pairing.old.items ++ filter (λ row. not (is_single by old_sorted row)) old_sorted
    → result.new.items ≡ pairing.new.items ++ filter (λ row. not (is_single by new_sorted row)) new_sorted → IsSinglePairing by old new result
single_pairs by old new old_sorted new_sorted pairing result same_old same_new p e f g = record {
  old_rows = rw (e, f) (all_rows by old old_sorted pairing.old.items (firsts pairing.pairs.items) same_old p.paired.old_rows);
  new_rows = rw (e, g) (all_rows by new new_sorted pairing.new.items (seconds pairing.pairs.items) same_new p.paired.new_rows);
  single = rw e all_single;
  apart = rw (f, g) all_apart;
}
  where
    first_single : All (λ pair. is_single by old pair.old ≡ true) pairing.pairs.items
    first_single =
        unmapped (λ row. is_single by old row ≡ true) (λ (pair : RowChange). pair.old) pairing.pairs.items
        (paired_single by old old_sorted pairing.old.items (firsts pairing.pairs.items) same_old p.paired.old_rows)

    second_single : All (λ pair. is_single by new pair.new ≡ true) pairing.pairs.items
    second_single =
        unmapped (λ row. is_single by new row ≡ true) (λ (pair : RowChange). pair.new) pairing.pairs.items
        (paired_single by new new_sorted pairing.new.items (seconds pairing.pairs.items) same_new p.paired.new_rows)

    all_single : All (λ pair. IsSinglePair by old new pair.old pair.new) pairing.pairs.items
    all_single k d within = (p.paired.alike k d within, first_single k d within, second_single k d within)

    no_old : All (λ row. is_single by old row ≡ true → ⊥) (filter (λ row. not (is_single by old_sorted row)) old_sorted)
    no_old = others_not by old old_sorted pairing.old.items (firsts pairing.pairs.items) same_old p.paired.old_rows

    no_new : All (λ row. is_single by new row ≡ true → ⊥) (filter (λ row. not (is_single by new_sorted row)) new_sorted)
    no_new = others_not by new new_sorted pairing.new.items (seconds pairing.pairs.items) same_new p.paired.new_rows

    all_apart : All (λ one. All (λ other. IsSinglePair by old new one other → ⊥) (pairing.new.items ++ filter (λ row. not (is_single by new_sorted row)) new_sorted))
        (pairing.old.items ++ filter (λ row. not (is_single by old_sorted row)) old_sorted)
    all_apart =
        All-append (λ one. All (λ other. IsSinglePair by old new one other → ⊥) (pairing.new.items ++ filter (λ row. not (is_single by new_sorted row)) new_sorted))
        pairing.old.items (filter (λ row. not (is_single by old_sorted row)) old_sorted)
        (λ k d within. All-append (λ other. IsSinglePair by old new (get_or pairing.old.items k d) other → ⊥) pairing.new.items
        (filter (λ row. not (is_single by new_sorted row)) new_sorted) (λ i e low s. p.apart k d within i e low s.0) (λ i e low s. no_new i e low s.2))
        (λ k d within i e low s. no_old k d within s.1)
