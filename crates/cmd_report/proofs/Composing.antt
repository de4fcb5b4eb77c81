-- The steps of a comparison make a comparison.
use Rattle.std.proofs.Common.{◌≡◌, ◌∙◌, ◌<◌, ◌≤◌, ◌+◌, ◌⊎◌, inl, inr, ℕ, Bool, true, false, cond, List, [], ◌∷◌, ◌++◌, length, map, get_or}
use Rattle.std.proofs.Common.{refl, sym, ap, subst, arith}
use Rattle.std.proofs.lemmas.Bool.{leb-true, le-leb}
use Rattle.std.proofs.lemmas.List.{append_assoc, get_or-map, length-map, map-append}
use Rattle.std.proofs.lemmas.List.Elements.{All-append, All-map, All-weaker}
use Rattle.std.proofs.lemmas.List.Sorted.{All-permutation, IsPermutation-append, IsPermutation-append_comm, IsPermutation-append_left}
use Rattle.std.proofs.lemmas.List.Sorted.{IsPermutation-append_right, IsPermutation-map, IsPermutation-trans, sum_by-IsPermutation}
use Rattle.std.proofs.lemmas.List.Sums.{sum_by-cons, sum_by-le-sum_by}
use Rattle.std.specs.Borrow.{Bor}
use Rattle.std.specs.List.{All, count_by}
use Rattle.std.specs.List.Sorted.{IsNonDecreasingBy, IsPermutation}
use Rattle.std.specs.Ordering.{is_eq}
use Rattle.std.specs.declared.cmp.Ordering.{Ordering}
use Rattle.std.specs.declared.cmp.Ordering.TheVariants.{Less, Equal, Greater}
use Rattle.feed_kbart.specs.RowValue.{RowValue, content}
use Rattle.cmd_report.specs.Comparison.{ComparisonValue, HasSameUrl, IsComparison, IsOnlyTitle, IsTitlePair}
use Rattle.cmd_report.specs.Comparison.{mentioned_new, mentioned_old, news, olds}
use Rattle.cmd_report.specs.Pairing.{ArePaired, ArePairedChanges, IsContinued, IsPairing, IsSinglePair, IsSinglePairing, change_of, firsts, is_single, order, row_of, seconds}
use Rattle.cmd_report.specs.Ranking.{ranking}
use Rattle.cmd_report.specs.declared.comparison.RowChange.{RowChange}
use Rattle.cmd_report.specs.declared.order.By.{By}
use Rattle.cmd_report.specs.declared.order.By.TheVariants.{Content, TitleId, Url}
use Rattle.cmd_report.specs.declared.pairing.Pairing.{Pairing}
use Rattle.cmd_report.proofs.Alike.{content_tied, tied_content, tied_title, tied_url, title_tied, url_tied}
use Rattle.cmd_report.proofs.Alone.{all_left}

-- ---- pairs of two steps

-- lists that are split twice
twice : {X : Type 0} (old left more firsts seconds : List X) → IsPermutation old (left ++ firsts) → IsPermutation left (more ++ seconds)
    → IsPermutation old (more ++ (firsts ++ seconds))
twice old left more firsts seconds first second =
    IsPermutation-trans old (left ++ firsts) (more ++ (firsts ++ seconds)) first
    (IsPermutation-trans (left ++ firsts) ((more ++ seconds) ++ firsts) (more ++ (firsts ++ seconds)) (IsPermutation-append_left firsts left (more ++ seconds) second)
    (subst (λ l. IsPermutation l (more ++ (firsts ++ seconds))) (sym (append_assoc more seconds firsts))
    (IsPermutation-append_right more (seconds ++ firsts) (firsts ++ seconds) (IsPermutation-append_comm seconds firsts))))

-- the pairs of both steps
module _ (by : By) (old new : List (Bor RowValue)) (first whole : Pairing) (w : IsContinued by first whole) where
  both_old : IsPermutation old (first.old.items ++ firsts first.pairs.items) → IsPermutation old (whole.old.items ++ firsts whole.pairs.items)
  both_old split = rw (w.pairs, w.old_left)
      (subst (λ l. IsPermutation old (w.rest.old.items ++ l)) (sym (map-append (λ (p : RowChange). p.old) first.pairs.items w.rest.pairs.items))
      (twice old first.old.items w.rest.old.items (firsts first.pairs.items) (firsts w.rest.pairs.items) split w.rest_paired.paired.old_rows))

  both_new : IsPermutation new (first.new.items ++ seconds first.pairs.items) → IsPermutation new (whole.new.items ++ seconds whole.pairs.items)
  both_new split = rw (w.pairs, w.new_left)
      (subst (λ l. IsPermutation new (w.rest.new.items ++ l)) (sym (map-append (λ (p : RowChange). p.new) first.pairs.items w.rest.pairs.items))
      (twice new first.new.items w.rest.new.items (seconds first.pairs.items) (seconds w.rest.pairs.items) split w.rest_paired.paired.new_rows))

  -- equal rows, first those in the same order and then the others
  pub paired_equal : ArePaired by old new first → IsPairing by old new whole
  paired_equal p = record {
    paired = record {
      old_rows = both_old p.old_rows;
      new_rows = both_new p.new_rows;
      alike = rw w.pairs (All-append (λ pair. order by pair.old pair.new ≡ Equal) first.pairs.items w.rest.pairs.items p.alike w.rest_paired.paired.alike);
    };
    apart = rw (w.old_left, w.new_left) w.rest_paired.apart;
  }

pub paired_changes : (old new : List (Bor RowValue)) (titles whole : Pairing) → IsSinglePairing TitleId old new titles → IsContinued Url titles whole
    → ArePairedChanges old new whole
paired_changes old new titles whole t w = record {
  old_rows = both_old Url old new titles whole w t.old_rows;
  new_rows = both_new Url old new titles whole w t.new_rows;
  paired = rw w.pairs
      (All-append (λ pair. IsSinglePair TitleId old new pair.old pair.new ⊎ (order Url pair.old pair.new ≡ Equal)) titles.pairs.items w.rest.pairs.items
      (λ k d within. inl (t.single k d within)) (λ k d within. inr (w.rest_paired.paired.alike k d within)));
  unpaired = rw (w.old_left, w.new_left) (λ k d within i c low. (w.rest_paired.apart k d within i c low, not_single k d within i c low));
}
  where
    -- what is left of the second step was left of the first one
    left_new : (one : Bor RowValue) → All (λ other. IsSinglePair TitleId old new one other → ⊥) titles.new.items
        → All (λ other. IsSinglePair TitleId old new one other → ⊥) w.rest.new.items
    left_new one all =
        all_left (λ other. IsSinglePair TitleId old new one other → ⊥) w.rest.new.items (seconds w.rest.pairs.items)
        (All-permutation (λ other. IsSinglePair TitleId old new one other → ⊥) titles.new.items (w.rest.new.items ++ seconds w.rest.pairs.items) w.rest_paired.paired.new_rows all)

    not_single : All (λ one. All (λ other. IsSinglePair TitleId old new one other → ⊥) w.rest.new.items) w.rest.old.items
    not_single =
        all_left (λ one. All (λ other. IsSinglePair TitleId old new one other → ⊥) w.rest.new.items) w.rest.old.items (firsts w.rest.pairs.items)
        (All-permutation (λ one. All (λ other. IsSinglePair TitleId old new one other → ⊥) w.rest.new.items) titles.old.items (w.rest.old.items ++ firsts w.rest.pairs.items)
        w.rest_paired.paired.old_rows
        (All-weaker (λ one. All (λ other. IsSinglePair TitleId old new one other → ⊥) titles.new.items)
        (λ one. All (λ other. IsSinglePair TitleId old new one other → ⊥) w.rest.new.items) left_new titles.old.items t.apart))

-- ---- the whole comparison, first with references

-- lists of references, with what is sorted by number
module _ (left more result_left : List (Bor RowValue)) (pairs result_pairs : List (Bor RowValue)) (split : IsPermutation left (more ++ pairs))
    (same_left : IsPermutation more result_left) (same_pairs : IsPermutation pairs result_pairs) where
  pub mentioned : IsPermutation left (result_left ++ result_pairs)
  mentioned =
      IsPermutation-trans left (more ++ pairs) (result_left ++ result_pairs) split
      (IsPermutation-append more result_left pairs result_pairs same_left same_pairs)

-- lists without addresses
module _ {X Y : Type 0} (f : X → Y) where
  map_map : {Z : Type 0} (g : Y → Z) (xs : List X) → map g (map f xs) ≡ map (λ x. g (f x)) xs
  map_map g [] = refl
  map_map g (x ∷ xs) = ap (λ l. g (f x) ∷ l) (map_map g xs)

  pub count_map : (p : Y → Bool) (xs : List X) → count_by p (map f xs) ≡ count_by (λ x. p (f x)) xs
  count_map p [] = refl
  count_map p (x ∷ xs) =
      sum_by-cons (λ y. cond (p y) 1 0) (f x) (map f xs) ∙ ap (λ n. cond (p (f x)) 1 0 + n) (count_map p xs) ∙ sym (sum_by-cons (λ y. cond (p (f y)) 1 0) x xs)

pub olds_of : (changes : List RowChange) → olds (map change_of changes) ≡ map row_of (firsts changes)
olds_of [] = refl
olds_of (c ∷ changes) = ap (λ l. c.old.now ∷ l) (olds_of changes)

pub news_of : (changes : List RowChange) → news (map change_of changes) ≡ map row_of (seconds changes)
news_of [] = refl
news_of (c ∷ changes) = ap (λ l. c.new.now ∷ l) (news_of changes)

-- numbers that do not fall
pub mapped_order : {X Y : Type 0} (n : Y → ℕ) (f : X → Y) (xs : List X) → IsNonDecreasingBy (λ x. n (f x)) xs → IsNonDecreasingBy n (map f xs)
mapped_order n f [] up i j d low high = absurd (omega arith)
mapped_order n f (x ∷ xs) up i j d low high =
    let count : length (map f (x ∷ xs)) ≡ length (x ∷ xs) = length-map (x ∷ xs) f in
    let room : j < length (x ∷ xs) = omega (arith, count) in
    rw (get_or-map f (x ∷ xs) i x d (omega arith), get_or-map f (x ∷ xs) j x d room) (up i j x low room)

-- the rows of one list
side : (rows : List RowValue) (list left mentioned same : List (Bor RowValue)) (m s : List RowValue) → map row_of list ≡ rows → IsPermutation list (left ++ same)
    → IsPermutation left mentioned → m ≡ map row_of mentioned → s ≡ map row_of same → IsPermutation rows (m ++ s)
side rows list left mentioned same m s shown split moved e f =
    let all : IsPermutation list (mentioned ++ same) =
    IsPermutation-trans list (left ++ same) (mentioned ++ same) split (IsPermutation-append_left same left mentioned moved) in
    let mapped : IsPermutation (map row_of list) (map row_of (mentioned ++ same)) = IsPermutation-map row_of list (mentioned ++ same) all in
    let parts : map row_of (mentioned ++ same) ≡ m ++ s = map-append row_of mentioned same ∙ (λ i. sym e i ++ sym f i) in
    subst (λ l. IsPermutation l (m ++ s)) shown (subst (IsPermutation (map row_of list)) parts mapped)

-- what holds of each pair of two lists
moved_pairs : {X : Type 0} (P : X → X → Type 0) (xs ys us vs : List X) → IsPermutation xs us → IsPermutation ys vs → All (λ x. All (P x) ys) xs → All (λ x. All (P x) vs) us
moved_pairs P xs ys us vs p q all =
    All-permutation (λ x. All (P x) vs) xs us p (All-weaker (λ x. All (P x) ys) (λ x. All (P x) vs) (λ x each. All-permutation (P x) ys vs q each) xs all)

-- ---- single rows

is_equal : (r : Ordering) → is_eq r ≡ true → r ≡ Equal
is_equal Less e = absurd (cc)
is_equal Equal e = refl
is_equal Greater e = absurd (cc)

counted_below : (b : Bool) (r : Ordering) → (b ≡ true → r ≡ Equal) → cond b 1 0 ≤ cond (is_eq r) 1 0
counted_below true r h = subst (λ s. 1 ≤ cond (is_eq s) 1 0) (sym (h refl)) (omega arith)
counted_below false r h = omega arith

module _ (left mentioned : List (Bor RowValue)) (rows : List RowValue) (moved : IsPermutation left mentioned) (shown : rows ≡ map row_of mentioned) where
  counts : (test : RowValue → Bool) → count_by test rows ≡ count_by (λ (row : Bor RowValue). test row.now) left
  counts test =
      ap (count_by test) shown ∙ count_map row_of test mentioned ∙ sum_by-IsPermutation (λ (row : Bor RowValue). cond (test row.now) 1 0) left mentioned moved

  pub only : (row : Bor RowValue) → is_single TitleId left row ≡ true → IsOnlyTitle row.now rows
  only row e test says =
      let few : count_by (λ other. is_eq (order TitleId row other)) left ≤ 1 = leb-true (count_by (λ other. is_eq (order TitleId row other)) left) 1 e in
      let below : count_by (λ (other : Bor RowValue). test other.now) left ≤ count_by (λ other. is_eq (order TitleId row other)) left =
      sum_by-le-sum_by (λ (other : Bor RowValue). cond (test other.now) 1 0) (λ other. cond (is_eq (order TitleId row other)) 1 0) left
      (λ other. counted_below (test other.now) (order TitleId row other) (λ t. tied_title row.now other.now (says other.now t))) in
      omega (arith, counts test)

  pub single_again : (row : Bor RowValue) → IsOnlyTitle row.now rows → is_single TitleId left row ≡ true
  single_again row h =
      let few : count_by (λ other. is_eq (ranking TitleId row.now other)) rows ≤ 1 =
      h (λ other. is_eq (ranking TitleId row.now other)) (λ other t. title_tied row.now other (is_equal (ranking TitleId row.now other) t)) in
      le-leb (count_by (λ other. is_eq (order TitleId row other)) left) 1 (omega (arith, counts (λ other. is_eq (ranking TitleId row.now other))))

-- ---- the whole comparison

abbrev pub value_of : List (Bor RowValue) → List RowChange → List (Bor RowValue) → ComparisonValue
value_of removed changed added = record {
  removed = map row_of removed;
  changed = map change_of changed;
  added = map row_of added;
}

-- what a comparison is made of
pub record IsMade (old new : List RowValue) (removed : List (Bor RowValue)) (changed : List RowChange) (added : List (Bor RowValue)) : Type 0 where
  pub old_list : List (Bor RowValue)
  pub new_list : List (Bor RowValue)
  pub equal : Pairing
  pub changes : Pairing
  pub old_shown : map row_of old_list ≡ old
  pub new_shown : map row_of new_list ≡ new
  pub equal_is : IsPairing Content old_list new_list equal
  pub changes_are : ArePairedChanges equal.old.items equal.new.items changes
  pub removed_moved : IsPermutation changes.old.items removed
  pub changed_moved : IsPermutation changes.pairs.items changed
  pub added_moved : IsPermutation changes.new.items added
  pub removed_up : IsNonDecreasingBy (λ (row : Bor RowValue). row.now.number) removed
  pub changed_up : IsNonDecreasingBy (λ (change : RowChange). change.old.now.number) changed
  pub added_up : IsNonDecreasingBy (λ (row : Bor RowValue). row.now.number) added

module _ (old new : List RowValue) (removed : List (Bor RowValue)) (changed : List RowChange) (added : List (Bor RowValue)) (m : IsMade old new removed changed added) where
  abbrev mention_old : List (Bor RowValue)
  mention_old = removed ++ firsts changed

  abbrev mention_new : List (Bor RowValue)
  mention_new = added ++ seconds changed

  old_moved : IsPermutation m.equal.old.items (removed ++ firsts changed)
  old_moved =
      mentioned m.equal.old.items m.changes.old.items removed (firsts m.changes.pairs.items) (firsts changed) m.changes_are.old_rows m.removed_moved
      (IsPermutation-map (λ (p : RowChange). p.old) m.changes.pairs.items changed m.changed_moved)

  new_moved : IsPermutation m.equal.new.items (added ++ seconds changed)
  new_moved =
      mentioned m.equal.new.items m.changes.new.items added (seconds m.changes.pairs.items) (seconds changed) m.changes_are.new_rows m.added_moved
      (IsPermutation-map (λ (p : RowChange). p.new) m.changes.pairs.items changed m.changed_moved)

  old_is : mentioned_old (value_of removed changed added) ≡ map row_of (removed ++ firsts changed)
  old_is = ap (λ l. map row_of removed ++ l) (olds_of changed) ∙ sym (map-append row_of removed (firsts changed))

  new_is : mentioned_new (value_of removed changed added) ≡ map row_of (added ++ seconds changed)
  new_is = ap (λ l. map row_of added ++ l) (news_of changed) ∙ sym (map-append row_of added (seconds changed))

  title_pair : (one other : Bor RowValue) → IsSinglePair TitleId m.equal.old.items m.equal.new.items one other → IsTitlePair (value_of removed changed added) one.now other.now
  title_pair one other s = (
    title_tied one.now other.now s.0,
    only m.equal.old.items mention_old (mentioned_old (value_of removed changed added)) old_moved old_is one s.1,
    only m.equal.new.items mention_new (mentioned_new (value_of removed changed added)) new_moved new_is other s.2,
  )

  single_pair : (one other : Bor RowValue) → IsTitlePair (value_of removed changed added) one.now other.now → IsSinglePair TitleId m.equal.old.items m.equal.new.items one other
  single_pair one other s = (
    tied_title one.now other.now s.0,
    single_again m.equal.old.items mention_old (mentioned_old (value_of removed changed added)) old_moved old_is one s.1,
    single_again m.equal.new.items mention_new (mentioned_new (value_of removed changed added)) new_moved new_is other s.2,
  )

  all_apart : All (λ one. All (λ other. content one ≡ content other → ⊥) (mentioned_new (value_of removed changed added))) (mentioned_old (value_of removed changed added))
  all_apart = rw (old_is, new_is)
      (All-map (λ one. All (λ other. content one ≡ content other → ⊥) (map row_of mention_new)) row_of mention_old
      (λ k d within. All-map (λ other. content (get_or mention_old k d).now ≡ content other → ⊥) row_of mention_new
      (λ i e low same. refs k d within i e low (tied_content (get_or mention_old k d).now (get_or mention_new i e).now same))))
    where
      refs : All (λ one. All (λ other. order Content one other ≡ Equal → ⊥) mention_new) mention_old
      refs =
          moved_pairs (λ one other. order Content one other ≡ Equal → ⊥) m.equal.old.items m.equal.new.items mention_old mention_new old_moved new_moved m.equal_is.apart

  all_paired : All (λ change. IsTitlePair (value_of removed changed added) change.old change.new ⊎ HasSameUrl change.old change.new) (map change_of changed)
  all_paired =
      All-map (λ change. IsTitlePair (value_of removed changed added) change.old change.new ⊎ HasSameUrl change.old change.new) change_of changed
      (All-weaker (λ pair. IsSinglePair TitleId m.equal.old.items m.equal.new.items pair.old pair.new ⊎ (order Url pair.old pair.new ≡ Equal))
      (λ pair. IsTitlePair (value_of removed changed added) pair.old.now pair.new.now ⊎ HasSameUrl pair.old.now pair.new.now) each changed
      (All-permutation (λ pair. IsSinglePair TitleId m.equal.old.items m.equal.new.items pair.old pair.new ⊎ (order Url pair.old pair.new ≡ Equal)) m.changes.pairs.items changed
      m.changed_moved m.changes_are.paired))
    where
      each : (pair : RowChange) → IsSinglePair TitleId m.equal.old.items m.equal.new.items pair.old pair.new ⊎ (order Url pair.old pair.new ≡ Equal)
          → IsTitlePair (value_of removed changed added) pair.old.now pair.new.now ⊎ HasSameUrl pair.old.now pair.new.now
      each pair (inl s) = inl (title_pair pair.old pair.new s)
      each pair (inr u) = inr (url_tied pair.old.now pair.new.now u)

  all_unpaired : All (λ one. All (λ other. (HasSameUrl one other → ⊥) × (IsTitlePair (value_of removed changed added) one other → ⊥)) (map row_of added)) (map row_of removed)
  all_unpaired =
      All-map (λ one. All (λ other. (HasSameUrl one other → ⊥) × (IsTitlePair (value_of removed changed added) one other → ⊥)) (map row_of added)) row_of removed
      (λ k d within. All-map (λ other. (HasSameUrl (get_or removed k d).now other → ⊥) × (IsTitlePair (value_of removed changed added) (get_or removed k d).now other → ⊥)) row_of added
      (λ i e low. (
        λ same. (refs k d within i e low).0 (tied_url (get_or removed k d).now (get_or added i e).now same),
        λ same. (refs k d within i e low).1 (single_pair (get_or removed k d) (get_or added i e) same),
      )))
    where
      refs : All (λ one. All (λ other. (order Url one other ≡ Equal → ⊥) × (IsSinglePair TitleId m.equal.old.items m.equal.new.items one other → ⊥)) added) removed
      refs =
          moved_pairs (λ one other. (order Url one other ≡ Equal → ⊥) × (IsSinglePair TitleId m.equal.old.items m.equal.new.items one other → ⊥)) m.changes.old.items m.changes.new.items
          removed added m.removed_moved m.added_moved m.changes_are.unpaired

  pub compared : IsComparison old new (value_of removed changed added)
  compared = record {
    same = map change_of m.equal.pairs.items;
    old_rows =
        side old m.old_list m.equal.old.items mention_old (firsts m.equal.pairs.items) (mentioned_old (value_of removed changed added)) (olds (map change_of m.equal.pairs.items))
        m.old_shown m.equal_is.paired.old_rows old_moved old_is (olds_of m.equal.pairs.items);
    new_rows =
        side new m.new_list m.equal.new.items mention_new (seconds m.equal.pairs.items) (mentioned_new (value_of removed changed added)) (news (map change_of m.equal.pairs.items))
        m.new_shown m.equal_is.paired.new_rows new_moved new_is (news_of m.equal.pairs.items);
    equal =
        All-map (λ change. content change.old ≡ content change.new) change_of m.equal.pairs.items
        (λ k d within. content_tied (get_or m.equal.pairs.items k d).old.now (get_or m.equal.pairs.items k d).new.now (m.equal_is.paired.alike k d within));
    apart = all_apart;
    paired = all_paired;
    unpaired = all_unpaired;
    removed_order = mapped_order (λ row. row.number) row_of removed m.removed_up;
    changed_order = mapped_order (λ change. change.old.number) change_of changed m.changed_up;
    added_order = mapped_order (λ row. row.number) row_of added m.added_up;
  }
