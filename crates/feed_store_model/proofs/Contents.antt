-- The content of rows that are left, put or changed.
use Rattle.std.proofs.Common.{◌≡◌, ◌==◌, ◌&&◌, inl, inr, ℤ, List, [], ◌∷◌, map, filter, Bool, true, false, cond, not, refl, sym, ap, ◌∙◌, int_lt}
use Rattle.std.specs.List.{AllByRecursion, IsDistinct}
use Rattle.std.specs.Ordering.{is_lt, int_cmp}
use Rattle.std.specs.declared.cmp.Ordering.TheVariants.{Less, Equal, Greater}
use Rattle.std.specs.Cmp.Lexicographic.{pointwise, bytes_decides}
use Rattle.std.proofs.lemmas.Map.Text.{is_eq-slice_cmp}
use Rattle.std.proofs.lemmas.Map.Keys.{IsDistinct-head, IsDistinct-tail}
use Rattle.sqlite_value.specs.declared.value.Value.TheVariants.{Int, Text}
use Rattle.sqlite_value.specs.Order.{Row, column}
use Rattle.sqlite_trees.specs.Tree.{rowid}
use Rattle.sqlite_trees.proofs.ListLemmas.{filter-filter, filter-map}
use Rattle.sqlite_rules.specs.Lists.{Has}
use Rattle.sqlite_rules.proofs.ListLemmas.{all_has, all_from, some_has, has_filtered}
use Rattle.feed_names.specs.ReleaseName.{Name, text_of}
use Rattle.feed_model.specs.Content.{Part, Record}
use Rattle.feed_model.specs.Change.{is_earlier, without_earlier}
use Rattle.feed_store_model.proofs.Insertion.{filter_sort}
use Rattle.feed_store_model.specs.Tables.{IsReleaseRow, IsPieceRow, IsReasonRow, AreRows, AreReasons, text_in, name_in, part_in, is_of, record_in, sorted, sorted_parts, content_in}
use Rattle.feed_store_model.proofs.Order.{same_text, record_stops, record_laws, records_sort}
use Rattle.feed_store_model.proofs.Rows.{IsKeyed, text_equal, int_less}
use Rattle.feed_store_model.proofs.Gone.{IsTexted, AreTexted, is_child, same_filter}
use Rattle.feed_store_model.proofs.Unique.{same_texts, distinct_some}
use Rattle.feed_store_model.proofs.Conditions.{goes}

pub release_keyed : (r : Row) → IsReleaseRow r → IsKeyed r
release_keyed r h = ap rowid h.is

pub release_text : (r : Row) → IsReleaseRow r → text_in r ≡ text_of (name_in r)
release_text r h = ap text_in h.is

pub release_texted : (r : Row) → IsReleaseRow r → IsTexted r
release_texted r h = ap (λ row. column row 1) h.is ∙ ap Text (sym (release_text r h))

pub piece_keyed : (r : Row) → IsPieceRow r → IsKeyed r
piece_keyed r h = ap rowid h

pub piece_texted : (r : Row) → IsPieceRow r → IsTexted r
piece_texted r h = ap (λ row. column row 1) h

less_is : (m n : ℤ) → is_lt (int_cmp m n) ≡ int_lt m n
less_is m n = by (int_lt m n) (int_lt n m)
  where
    by : (b c : Bool) → is_lt (cond b Less (cond c Greater Equal)) ≡ b
    by true c = refl
    by false true = refl
    by false false = refl

-- the condition of the statement is that the release is of the package, and earlier
pub goes_is : (n : Name) (r : Row) → IsReleaseRow r → goes n.package_name n.day r ≡ is_earlier (name_in r) n
goes_is n r h =
    let one : column r 2 ≡ Text (name_in r).package_name = ap (λ row. column row 2) h.is in
    let two : column r 3 ≡ Int (name_in r).day = ap (λ row. column row 3) h.is in
    rw (one, two, text_equal (name_in r).package_name n.package_name, int_less (name_in r).day n.day, less_is (name_in r).day n.day)
    (last (pointwise ◌==◌ (name_in r).package_name n.package_name) (int_lt (name_in r).day n.day))
  where
    last : (a b : Bool) → (a && (b && true)) ≡ (a && b)
    last true true = refl
    last true false = refl
    last false b = refl

-- no two records have one text
pub distinct_records : (pieces rows : List Row) → AllByRecursion IsReleaseRow rows → IsDistinct same_texts rows → IsDistinct same_text (map (record_in pieces) rows)
unfolding IsDistinct
distinct_records pieces [] all d = tt
distinct_records pieces (r ∷ rows) all d = (others r rows all.0 all.1 d.0, distinct_records pieces rows all.1 d.1)
  where
    others : (r : Row) (xs : List Row) → IsReleaseRow r → AllByRecursion IsReleaseRow xs → AllByRecursion (λ y. same_texts r y ≡ false) xs
        → AllByRecursion (λ y. same_text (record_in pieces r) y ≡ false) (map (record_in pieces) xs)
    others r [] h all apart = tt
    others r (x ∷ xs) h all apart = (
      is_eq-slice_cmp (text_of (name_in r)) (text_of (name_in x)) ∙ rw (← release_text r h, ← release_text x all.0) apart.0,
      others r xs h all.1 apart.1,
    )

-- one row of a text
pub one_text : (rows : List Row) (a b : Row) → IsDistinct same_texts rows → Has rows a → Has rows b → text_in a ≡ text_in b → a ≡ b
one_text [] a b d h k same = absurd h
one_text (r ∷ rows) a b d (inl p) (inl q) same = p ∙ sym q
one_text (r ∷ rows) a b d (inl p) (inr k) same =
    let apart = all_has (λ y. same_texts r y ≡ false) rows b (IsDistinct-head same_texts r rows d) k in
    let tie : same_texts r b ≡ true = (bytes_decides (text_in r) (text_in b)).1 (ap text_in (sym p) ∙ same) in
    absurd (let g : true ≡ false = sym tie ∙ apart in cc)
one_text (r ∷ rows) a b d (inr h) (inl q) same =
    let apart = all_has (λ y. same_texts r y ≡ false) rows a (IsDistinct-head same_texts r rows d) h in
    let tie : same_texts r a ≡ true = (bytes_decides (text_in r) (text_in a)).1 (ap text_in (sym q) ∙ sym same) in
    absurd (let g : true ≡ false = sym tie ∙ apart in cc)
one_text (r ∷ rows) a b d (inr h) (inr k) same = one_text rows a b (IsDistinct-tail same_texts r rows d) h k same

pub map_same : {X Y : Type 0} (f g : X → Y) (xs : List X) → AllByRecursion (λ x. f x ≡ g x) xs → map f xs ≡ map g xs
map_same f g [] all = refl
map_same f g (x ∷ xs) all = ap (λ y. y ∷ map f xs) all.0 ∙ ap (λ l. g x ∷ l) (map_same f g xs all.1)

parts_left : (p : Row → Bool) (rows pieces : List Row) → IsDistinct same_texts rows → (r : Row) → Has rows r → p r ≡ false
    → record_in (filter (λ x. not (is_child p rows x)) pieces) r ≡ record_in pieces r
parts_left p rows pieces d r h out =
    ap (λ (ps : List Part). let x : Record = record (record_in pieces r) { parts = ps } in x)
    (ap (λ l. sorted_parts (map part_in l)) (filter-filter (is_of (text_in r)) (λ x. not (is_child p rows x)) mine pieces))
  where
    mine : (x : Row) → is_of (text_in r) x ≡ true → not (is_child p rows x) ≡ true
    mine x is = by (is_child p rows x) refl
      where
        by : (b : Bool) → is_child p rows x ≡ b → not b ≡ true
        by false e = refl
        by true e =
            let it = some_has (λ o. is_of (text_in o) x) (filter p rows) e in
            let was = has_filtered p rows it.0 it.1 in
            let same : text_in it.0 ≡ text_in r = sym ((bytes_decides (text_in x) (text_in it.0)).0 it.2) ∙ (bytes_decides (text_in x) (text_in r)).0 is in
            absurd (let g : true ≡ false = sym was.1 ∙ ap p (one_text rows it.0 r d was.0 h same) ∙ out in cc)

pub dropped : (n : Name) (rows pieces : List Row) → AreRows rows pieces → IsDistinct same_texts rows
    → content_in (filter (λ r. not (goes n.package_name n.day r)) rows) (filter (λ x. not (is_child (goes n.package_name n.day) rows x)) pieces) ≡ without_earlier n (content_in rows pieces)
dropped n rows pieces are d =
    let p = goes n.package_name n.day in
    let test : Record → Bool = λ r. not (is_earlier r.name n) in
    let records = map (record_in pieces) rows in
    let apart = distinct_records pieces rows are.are_releases d in
    let first : map (record_in (filter (λ x. not (is_child p rows x)) pieces)) (filter (λ r. not (p r)) rows) ≡ map (record_in pieces) (filter (λ r. not (p r)) rows) =
    map_same _ _ (filter (λ r. not (p r)) rows) (all_from _ (filter (λ r. not (p r)) rows) (λ r h.
    let was = has_filtered (λ r. not (p r)) rows r h in
    parts_left p rows pieces d r was.0 (turned (p r) was.1))) in
    let second : map (record_in pieces) (filter (λ r. not (p r)) rows) ≡ filter test records =
    ap (map (record_in pieces)) (same_filter (λ r. not (p r)) (λ r. test (record_in pieces r)) rows (all_from _ rows (λ r h. ap not (goes_is n r (all_has IsReleaseRow rows r are.are_releases h)))))
    ∙ sym (filter-map test (record_in pieces) rows) in
    ap sorted (first ∙ second) ∙ records_sort (filter test records) ∙ sym (filter_sort same_text record_stops record_laws test records apart) ∙ ap (filter test) (sym (records_sort records))
  where
    turned : (b : Bool) → not b ≡ true → b ≡ false
    turned false e = refl
    turned true e = absurd (let g : false ≡ true = e in cc)

-- ---- the rows that are left are still such rows

all_left : (P : Row → Type 0) (p : Row → Bool) (rows : List Row) → AllByRecursion P rows → AllByRecursion P (filter p rows)
all_left P p rows all = all_from P (filter p rows) (λ r h. all_has P rows r all (has_filtered p rows r h).0)

pub are_left : (p q : Row → Bool) (rows pieces : List Row) → AreRows rows pieces → AreRows (filter p rows) (filter q pieces)
are_left p q rows pieces are = record {
  are_releases = all_left IsReleaseRow p rows are.are_releases;
  are_pieces = all_left IsPieceRow q pieces are.are_pieces;
  ids = distinct_some p rows are.ids;
  piece_ids = distinct_some q pieces are.piece_ids;
}

-- ---- rows that this product writes have numbers and texts

pub texted_releases : (rows pieces : List Row) → AreRows rows pieces → AreTexted rows
texted_releases rows pieces are = record {
  keyed = all_from IsKeyed rows (λ r h. release_keyed r (all_has IsReleaseRow rows r are.are_releases h));
  ids = are.ids;
  texted = all_from IsTexted rows (λ r h. release_texted r (all_has IsReleaseRow rows r are.are_releases h));
}

pub texted_pieces : (rows pieces : List Row) → AreRows rows pieces → AreTexted pieces
texted_pieces rows pieces are = record {
  keyed = all_from IsKeyed pieces (λ r h. piece_keyed r (all_has IsPieceRow pieces r are.are_pieces h));
  ids = are.piece_ids;
  texted = all_from IsTexted pieces (λ r h. piece_texted r (all_has IsPieceRow pieces r are.are_pieces h));
}

pub texted_reasons : (reasons : List Row) → AreReasons reasons → AreTexted reasons
texted_reasons reasons are = record {
  keyed = all_from IsKeyed reasons (λ r h. ap rowid (all_has IsReasonRow reasons r are.are h).is);
  ids = are.ids;
  texted = all_from IsTexted reasons (λ r h. ap (λ row. column row 1) (all_has IsReasonRow reasons r are.are h).is);
}

pub reasons_left : (p : Row → Bool) (reasons : List Row) → AreReasons reasons → AreReasons (filter p reasons)
reasons_left p reasons are = record { are = all_left IsReasonRow p reasons are.are; ids = distinct_some p reasons are.ids }
