-- Two sorted lists of rows in pairs, step by step.
use Rattle.std.proofs.Common.{◌≡◌, ◌∙◌, ◌<◌, ◌≤◌, ◌+◌, ◌-◌, ℕ, Bool, false, List, [], ◌∷◌, ◌++◌, length, take, drop, get_or, refl, sym, ap, subst, arith}
use Rattle.std.proofs.lemmas.Cmp.{alike_right, tied_back}
use Rattle.std.proofs.lemmas.Fn.{always_returns_same}
use Rattle.std.proofs.lemmas.List.{append-nil, append_assoc, drop-take, get_or_read, map-append, take-append-drop, take-take, take_all, take_more}
use Rattle.std.proofs.lemmas.List.Elements.{All-nil, All-push}
use Rattle.std.proofs.lemmas.List.Sorted.{IsPermutation-append_comm, IsPermutation-append_left, IsPermutation-append_right, IsPermutation-refl, IsPermutation-trans, ranks_by, sorted_far}
use Rattle.std.specs.Borrow.{Bor}
use Rattle.std.specs.Cmp.{IsStrictWeakOrder, IsTotalOrder}
use Rattle.std.specs.Fn.{Called, ComparesAs, Mut}
use Rattle.std.specs.List.{All, AllWithin}
use Rattle.std.specs.List.Sorted.{IsPermutation, IsSortedBy}
use Rattle.std.specs.Ordering.{is_gt, is_lt, ordering_reverse}
use Rattle.std.specs.declared.cmp.Ordering.{Ordering}
use Rattle.std.specs.declared.cmp.Ordering.TheVariants.{Less, Equal, Greater}
use Rattle.feed_kbart.specs.RowValue.{RowValue}
use Rattle.cmd_report.specs.Pairing.{ArePaired, AreSorted, IsAt, IsBefore, IsPairing, firsts, order, seconds}
use Rattle.cmd_report.specs.declared.comparison.RowChange.{RowChange}
use Rattle.cmd_report.specs.declared.order.By.{By}
use Rattle.cmd_report.specs.declared.pairing.Pairing.{Pairing}
use Rattle.cmd_report.proofs.Alike.{order_total}

-- rows that were sorted by a closure that compares them
pub sorted_by : {F : Type 0} {g : Mut F (Bor (Bor RowValue) × (Bor (Bor RowValue) × Unit {0})) Ordering} {f : F} (by : By) (rows : List (Bor RowValue))
    → ((lt : Bor RowValue → Bor RowValue → Bool) → IsStrictWeakOrder lt → ComparesAs g lt f → IsSortedBy lt rows)
    → ((a : Bor (Bor RowValue) × (Bor (Bor RowValue) × Unit {0})) (o : Ordering) (f' : F) → Called g f a o f' → (o ≡ order by a.0.now a.1.0.now) × (f' ≡ f))
    → AreSorted by rows
sorted_by {g = g} {f = f} by rows up calls =
    up (λ r s. is_lt (order by r s)) (ranks_by (order_total by) (λ (r : Bor RowValue). r))
    (always_returns_same g (λ a o. is_lt o ≡ is_lt (order by a.0.now a.1.0.now)) f (λ a o f' k. (ap is_lt (calls a o f' k).0, (calls a o f' k).1)))

-- what comes before the first of some sorted rows comes before all of them
module _ {X : Type 0} (R : X → X → Ordering) (o : IsTotalOrder R) where
  less_upto : (x y z : X) (r : Ordering) → R y z ≡ r → R x y ≡ Less → is_gt r ≡ false → R x z ≡ Less
  less_upto x y z Less q p n = o.trans x y z p q
  less_upto x y z Equal q p n = sym (alike_right o y z x q) ∙ p
  less_upto x y z Greater q p n = absurd (cc)

  pub less_then_upto : (x y z : X) → R x y ≡ Less → is_gt (R y z) ≡ false → R x z ≡ Less
  less_then_upto x y z p n = less_upto x y z (R y z) refl p n

  upto_less : (x y z : X) (r : Ordering) → R x y ≡ r → is_gt r ≡ false → R y z ≡ Less → R x z ≡ Less
  upto_less x y z Less q n p = o.trans x y z q p
  upto_less x y z Equal q n p = o.congr x y z q ∙ p
  upto_less x y z Greater q n p = absurd (cc)

  pub upto_then_less : (x y z : X) → is_gt (R x y) ≡ false → R y z ≡ Less → R x z ≡ Less
  upto_then_less x y z n p = upto_less x y z (R x y) refl n p

  pub turned_greater : (x y : X) → R x y ≡ Greater → R y x ≡ Less
  turned_greater x y p = o.antisymm y x ∙ ap ordering_reverse p

  turned : (r : Ordering) → is_gt (ordering_reverse r) ≡ is_lt r
  turned Less = refl
  turned Equal = refl
  turned Greater = refl

  pub not_above : (x y : X) → is_lt (R y x) ≡ false → is_gt (R x y) ≡ false
  not_above x y n = ap is_gt (o.antisymm x y) ∙ turned (R y x) ∙ n

  pub sorted_upto : (xs : List X) (i k : ℕ) (d : X) → IsSortedBy (λ a b. is_lt (R a b)) xs → i ≤ k → k < length xs → is_gt (R (get_or xs i d) (get_or xs k d)) ≡ false
  sorted_upto xs i k d up low high =
      not_above (get_or xs i d) (get_or xs k d) (sorted_far (λ a b. is_lt (R a b)) (ranks_by o (λ (x : X). x)) xs up i k d low high)

  pub before_all : (xs : List X) (i : ℕ) (x y : X) → IsSortedBy (λ a b. is_lt (R a b)) xs → i < length xs → y ≡ get_or xs i y → R x y ≡ Less
      → AllWithin (λ z. R x z ≡ Less) xs i (length xs)
  before_all xs i x y up within at less k d low high =
      let first : y ≡ get_or xs i d = get_or_read xs i y within at d in
      let next : is_gt (R y (get_or xs k d)) ≡ false = subst (λ z. is_gt (R z (get_or xs k d)) ≡ false) (sym first) (sorted_upto xs i k d up low high) in
      less_then_upto x y (get_or xs k d) less next

-- a list of some more
left_more : {X : Type 0} (xs ys zs more : List X) → IsPermutation xs (ys ++ zs) → IsPermutation (xs ++ more) ((ys ++ more) ++ zs)
left_more xs ys zs more same =
    let behind : IsPermutation (xs ++ more) (ys ++ (zs ++ more)) =
    subst (IsPermutation (xs ++ more)) (append_assoc ys zs more) (IsPermutation-append_left more xs (ys ++ zs) same) in
    let moved : IsPermutation (ys ++ (zs ++ more)) ((ys ++ more) ++ zs) =
    subst (IsPermutation (ys ++ (zs ++ more))) (sym (append_assoc ys more zs)) (IsPermutation-append_right ys (zs ++ more) (more ++ zs) (IsPermutation-append_comm zs more)) in
    IsPermutation-trans (xs ++ more) (ys ++ (zs ++ more)) ((ys ++ more) ++ zs) behind moved

pair_more : {X : Type 0} (xs ys zs : List X) (x : X) → IsPermutation xs (ys ++ zs) → IsPermutation (xs ++ x ∷ []) (ys ++ (zs ++ x ∷ []))
pair_more xs ys zs x same =
    subst (IsPermutation (xs ++ x ∷ [])) (append_assoc ys zs (x ∷ [])) (IsPermutation-append_left (x ∷ []) xs (ys ++ zs) same)

-- one more element is taken of a list
pub taken : {X : Type 0} (xs : List X) (i : ℕ) (x : X) → i < length xs → x ≡ get_or xs i x → take i xs ++ x ∷ [] ≡ take (i + 1) xs
taken xs i x within at = ap (λ y. take i xs ++ y ∷ []) at ∙ sym (take_more xs i x within)

-- some more elements are taken of a list
pub parts_taken : {X : Type 0} (xs : List X) (i k : ℕ) → i ≤ k → take i xs ++ take (k - i) (drop i xs) ≡ take k xs
parts_taken xs i k up =
    let whole : i + (k - i) ≡ k = omega (arith, up) in
    let front : take i (take k xs) ≡ take i xs = take-take i k xs up in
    let back : drop i (take k xs) ≡ take (k - i) (drop i xs) = rw whole at (drop-take i (k - i) xs) in
    (λ p. sym front p ++ sym back p) ∙ take-append-drop i (take k xs)

-- some rows of two lists are in pairs, and the others are left
pub record ArePairedSoFar (by : By) (olds news : List (Bor RowValue)) (pairs : List RowChange) (left_old left_new : List (Bor RowValue)) : Type 0 where
  pub old_rows : IsPermutation olds (left_old ++ firsts pairs)
  pub new_rows : IsPermutation news (left_new ++ seconds pairs)
  pub alike : All (λ pair. order by pair.old pair.new ≡ Equal) pairs

pub none_paired : (by : By) (olds news : List (Bor RowValue)) → ArePairedSoFar by olds news [] olds news
none_paired by olds news = record {
  old_rows = subst (IsPermutation olds) (sym (append-nil olds)) (IsPermutation-refl olds);
  new_rows = subst (IsPermutation news) (sym (append-nil news)) (IsPermutation-refl news);
  alike = All-nil (λ pair. order by pair.old pair.new ≡ Equal);
}

module _ (by : By) (olds news : List (Bor RowValue)) (pairs : List RowChange) (left_old left_new : List (Bor RowValue)) (m : ArePairedSoFar by olds news pairs left_old left_new) where
  -- the next rows of a list are left
  pub olds_left : (rows next : List (Bor RowValue)) → olds ++ rows ≡ next → ArePairedSoFar by next news pairs (left_old ++ rows) left_new
  olds_left rows next is = record {
    old_rows = subst (λ l. IsPermutation l ((left_old ++ rows) ++ firsts pairs)) is (left_more olds left_old (firsts pairs) rows m.old_rows);
    new_rows = m.new_rows;
    alike = m.alike;
  }

  pub news_left : (rows next : List (Bor RowValue)) → news ++ rows ≡ next → ArePairedSoFar by olds next pairs left_old (left_new ++ rows)
  news_left rows next is = record {
    old_rows = m.old_rows;
    new_rows = subst (λ l. IsPermutation l ((left_new ++ rows) ++ seconds pairs)) is (left_more news left_new (seconds pairs) rows m.new_rows);
    alike = m.alike;
  }

  pub both_paired : (pair : RowChange) (next_old next_new : List (Bor RowValue)) → olds ++ pair.old ∷ [] ≡ next_old → news ++ pair.new ∷ [] ≡ next_new
      → order by pair.old pair.new ≡ Equal → ArePairedSoFar by next_old next_new (pairs ++ pair ∷ []) left_old left_new
  both_paired pair next_old next_new is_old is_new same = record {
    old_rows = subst (λ rows. IsPermutation rows (left_old ++ firsts (pairs ++ pair ∷ []))) is_old
        (subst (λ rows. IsPermutation (olds ++ pair.old ∷ []) (left_old ++ rows)) (sym (map-append (λ (p : RowChange). p.old) pairs (pair ∷ [])))
        (pair_more olds left_old (firsts pairs) pair.old m.old_rows));
    new_rows = subst (λ rows. IsPermutation rows (left_new ++ seconds (pairs ++ pair ∷ []))) is_new
        (subst (λ rows. IsPermutation (news ++ pair.new ∷ []) (left_new ++ rows)) (sym (map-append (λ (p : RowChange). p.new) pairs (pair ∷ [])))
        (pair_more news left_new (seconds pairs) pair.new m.new_rows));
    alike = All-push (λ p. order by p.old p.new ≡ Equal) pairs pair m.alike same;
  }

  pub all_paired : (old new : List (Bor RowValue)) → olds ≡ old → news ≡ new → (pairing : Pairing) → pairing.pairs.items ≡ pairs → pairing.old.items ≡ left_old
      → pairing.new.items ≡ left_new → ArePaired by old new pairing
  all_paired old new is_old is_new pairing p q r = record {
    old_rows = rw (p, q) (subst (λ rows. IsPermutation rows (left_old ++ firsts pairs)) is_old m.old_rows);
    new_rows = rw (p, r) (subst (λ rows. IsPermutation rows (left_new ++ seconds pairs)) is_new m.new_rows);
    alike = rw p m.alike;
  }

-- the same of sorted lists, where what is left of each comes before what is not reached of the other
pub record IsMerging (by : By) (old : List (Bor RowValue)) (i : ℕ) (new : List (Bor RowValue)) (j : ℕ) (pairs : List RowChange) (left_old left_new : List (Bor RowValue)) : Type 0 where
  pub paired : ArePairedSoFar by (take i old) (take j new) pairs left_old left_new
  pub apart : All (λ one. All (λ other. order by one other ≡ Equal → ⊥) left_new) left_old
  pub old_before : All (λ one. IsBefore by one new j) left_old
  pub new_before : All (λ other. IsBefore by other old i) left_new

pub begun : (by : By) (old new : List (Bor RowValue)) → IsMerging by old 0 new 0 [] [] []
begun by old new = record {
  paired = none_paired by [] [];
  apart = All-nil (λ one. All (λ other. order by one other ≡ Equal → ⊥) []);
  old_before = All-nil (λ one. IsBefore by one new 0);
  new_before = All-nil (λ other. IsBefore by other old 0);
}

later : (by : By) (row : Bor RowValue) (rows : List (Bor RowValue)) (i : ℕ) → IsBefore by row rows i → IsBefore by row rows (i + 1)
later by row rows i before k d low high = before k d (omega arith) high

all_later : (by : By) (left rows : List (Bor RowValue)) (i : ℕ) → All (λ row. IsBefore by row rows i) left → All (λ row. IsBefore by row rows (i + 1)) left
all_later by left rows i before k d within = later by (get_or left k d) rows i (before k d within)

-- a row that comes before one is not alike it
not_alike : (by : By) (row one : Bor RowValue) → order by one row ≡ Less → order by one row ≡ Equal → ⊥
not_alike by row one less same = let no : Less ≡ Equal = sym less ∙ same in absurd (cc)

module _ (by : By) (old new : List (Bor RowValue)) (i j : ℕ) (pairs : List RowChange) (left_old left_new : List (Bor RowValue))
    (m : IsMerging by old i new j pairs left_old left_new) where
  pub old_more : (row : Bor RowValue) → IsAt old i row → IsBefore by row new j → IsMerging by old (i + 1) new j pairs (left_old ++ row ∷ []) left_new
  old_more row at before = record {
    paired = olds_left by (take i old) (take j new) pairs left_old left_new m.paired (row ∷ []) (take (i + 1) old) (taken old i row at.0 at.1);
    apart = All-push (λ one. All (λ other. order by one other ≡ Equal → ⊥) left_new) left_old row m.apart no;
    old_before = All-push (λ one. IsBefore by one new j) left_old row m.old_before before;
    new_before = all_later by left_new old i m.new_before;
  }
    where
      no : All (λ other. order by row other ≡ Equal → ⊥) left_new
      no k d within same =
          let other : Bor RowValue = get_or left_new k d in
          let less : order by other row ≡ Less = subst (λ z. order by other z ≡ Less) (sym at.1) (m.new_before k d within i row (omega arith) at.0) in
          not_alike by row other less (tied_back (order_total by) row other same)

  pub new_more : (row : Bor RowValue) → IsAt new j row → IsBefore by row old i → IsMerging by old i new (j + 1) pairs left_old (left_new ++ row ∷ [])
  new_more row at before = record {
    paired = news_left by (take i old) (take j new) pairs left_old left_new m.paired (row ∷ []) (take (j + 1) new) (taken new j row at.0 at.1);
    apart = λ k d within. All-push (λ other. order by (get_or left_old k d) other ≡ Equal → ⊥) left_new row (m.apart k d within) (no k d within);
    old_before = all_later by left_old new j m.old_before;
    new_before = All-push (λ other. IsBefore by other old i) left_new row m.new_before before;
  }
    where
      no : (k : ℕ) (d : Bor RowValue) → k < length left_old → order by (get_or left_old k d) row ≡ Equal → ⊥
      no k d within same =
          let one : Bor RowValue = get_or left_old k d in
          let less : order by one row ≡ Less = subst (λ z. order by one z ≡ Less) (sym at.1) (m.old_before k d within j row (omega arith) at.0) in
          not_alike by row one less same

  pub both_more : (pair : RowChange) → IsAt old i pair.old → IsAt new j pair.new → order by pair.old pair.new ≡ Equal
      → IsMerging by old (i + 1) new (j + 1) (pairs ++ pair ∷ []) left_old left_new
  both_more pair at_old at_new same = record {
    paired =
        both_paired by (take i old) (take j new) pairs left_old left_new m.paired pair (take (i + 1) old) (take (j + 1) new) (taken old i pair.old at_old.0 at_old.1)
        (taken new j pair.new at_new.0 at_new.1) same;
    apart = m.apart;
    old_before = all_later by left_old new j m.old_before;
    new_before = all_later by left_new old i m.new_before;
  }

  pub merged : length old ≤ i → length new ≤ j → (pairing : Pairing) → pairing.pairs.items ≡ pairs → pairing.old.items ≡ left_old → pairing.new.items ≡ left_new
      → IsPairing by old new pairing
  merged past_old past_new pairing p q r = record {
    paired =
        all_paired by (take i old) (take j new) pairs left_old left_new m.paired old new (take_all i old past_old) (take_all j new past_new) pairing p q r;
    apart = rw (q, r) m.apart;
  }

-- the lists in another order
pub resorted : (by : By) (old new old_sorted new_sorted : List (Bor RowValue)) → IsPermutation old old_sorted → IsPermutation new new_sorted → (pairing : Pairing)
    → IsPairing by old_sorted new_sorted pairing → IsPairing by old new pairing
resorted by old new old_sorted new_sorted same_old same_new pairing p = record {
  paired = record {
    old_rows = IsPermutation-trans old old_sorted (pairing.old.items ++ firsts pairing.pairs.items) same_old p.paired.old_rows;
    new_rows = IsPermutation-trans new new_sorted (pairing.new.items ++ seconds pairing.pairs.items) same_new p.paired.new_rows;
    alike = p.paired.alike;
  };
  apart = p.apart;
}

-- the rows of a pairing with those of its first pairs
abbrev pub olds_upto : Pairing → ℕ → List (Bor RowValue)
olds_upto first n = first.old.items ++ firsts (take n first.pairs.items)

abbrev pub news_upto : Pairing → ℕ → List (Bor RowValue)
news_upto first n = first.new.items ++ seconds (take n first.pairs.items)

module _ (first : Pairing) (i : ℕ) (pair : RowChange) (within : i < length first.pairs.items) (at : pair ≡ get_or first.pairs.items i pair) where
  next_pairs : take (i + 1) first.pairs.items ≡ take i first.pairs.items ++ pair ∷ []
  next_pairs = sym (taken first.pairs.items i pair within at)

  pub next_old : olds_upto first i ++ pair.old ∷ [] ≡ olds_upto first (i + 1)
  next_old = rw (next_pairs, map-append (λ (p : RowChange). p.old) (take i first.pairs.items) (pair ∷ []))
      (append_assoc first.old.items (firsts (take i first.pairs.items)) (pair.old ∷ []))

  pub next_new : news_upto first i ++ pair.new ∷ [] ≡ news_upto first (i + 1)
  next_new = rw (next_pairs, map-append (λ (p : RowChange). p.new) (take i first.pairs.items) (pair ∷ []))
      (append_assoc first.new.items (seconds (take i first.pairs.items)) (pair.new ∷ []))

-- what is in pairs of the rows of a pairing is in pairs of the lists of that pairing
pub paired_again : (by : By) (old new : List (Bor RowValue)) (first kept : Pairing) → ArePaired by old new first
    → ArePaired by (first.old.items ++ firsts first.pairs.items) (first.new.items ++ seconds first.pairs.items) kept → ArePaired by old new kept
paired_again by old new first kept p q = record {
  old_rows = IsPermutation-trans old (first.old.items ++ firsts first.pairs.items) (kept.old.items ++ firsts kept.pairs.items) p.old_rows q.old_rows;
  new_rows = IsPermutation-trans new (first.new.items ++ seconds first.pairs.items) (kept.new.items ++ seconds kept.pairs.items) p.new_rows q.new_rows;
  alike = q.alike;
}
