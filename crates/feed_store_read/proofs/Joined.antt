-- The content of a database, from what the selections show.
use Rattle.std.proofs.Common.{◌≡◌, ◌==◌, ◌+◌, ℕ, ℤ, Bool, true, false, cond, not, List, [], ◌∷◌, map, filter, get_or, All, IsPermutation, nat_lt, refl, sym, ap, subst}
use Rattle.std.proofs.Common.{◌∙◌, arith}
use Rattle.std.specs.List.{AllByRecursion, IsDistinct}
use Rattle.std.specs.List.Sorted.{IsSorted, IsStrictlySortedBy}
use Rattle.std.specs.Cmp.{IsTotalOrder}
use Rattle.std.specs.Cmp.Lexicographic.{bytes_decides}
use Rattle.std.specs.Ordering.{eq_by_cmp, int_eq, is_eq, is_lt, nat_cmp, on, ordering_reverse, ordering_then, then_cmp}
use Rattle.std.specs.declared.cmp.Ordering.{Ordering}
use Rattle.std.specs.declared.cmp.Ordering.TheVariants.{Less, Equal, Greater}
use Rattle.std.proofs.lemmas.Bool.Decides.{nat_tests}
use Rattle.std.proofs.lemmas.Cmp.{nat_cmp_total, nat_list_cmp_total, on_total, then_total}
use Rattle.std.proofs.lemmas.List.Kept.{IsSortedBy-filter}
use Rattle.std.proofs.lemmas.List.MinMax.{ranks_by}
use Rattle.std.proofs.lemmas.List.Sorted.{IsPermutation-map, IsPermutation-sym}
use Rattle.std.proofs.lemmas.Map.Text.{is_eq-slice_cmp}
use Rattle.sqlite_value.specs.declared.value.Value.TheVariants.{Int}
use Rattle.sqlite_value.specs.Order.{Row, value_cmp}
use Rattle.sqlite_value.proofs.OrderLemmas.{value_cmp-Int, value_cmp_total}
use Rattle.sqlite_trees.specs.Tree.{rowid}
use Rattle.sqlite_trees.proofs.ListLemmas.{IsPermutation-filter, all-permutation}
use Rattle.sqlite.specs.Effect.{Database}
use Rattle.feed_model.specs.Content.{Content, Part, Record, names}
use Rattle.feed_parts.specs.Shown.{shown_parts}
use Rattle.feed_keep.specs.declared.record.Record as code
use Rattle.feed_keep.specs.Shown.{shown}
use Rattle.feed_names.specs.ReleaseName.{text_of}
use Rattle.feed_store_model.specs.Tables.{HasTables, HoldsReleases, IsPieceRow, IsReleaseRow, content_in, content_without_reasons, is_of, name_in, part_in, parts_in, record_in, same_id, text_in}
use Rattle.feed_store_model.proofs.AddedPart.{placed_pieces}
use Rattle.feed_store_model.proofs.AnyOrder.{any_rows}
use Rattle.feed_store_model.proofs.Contents.{release_text, texted_pieces, texted_releases}
use Rattle.feed_store_model.proofs.Insertion.{IsUp, sort_same}
use Rattle.feed_store_model.proofs.Order.{part_laws, part_stops, parts_sort, record_laws, record_stops, records_sort, same_first, same_text}
use Rattle.feed_store_model.proofs.Unique.{distinct_places, distinct_texts}
use Rattle.feed_store_read.specs.declared.releases.Releases.{Releases}
use Rattle.feed_keep.specs.CheckOrder.{AreNamesAscending, ArePartsAscending}
use Rattle.feed_store_read.specs.Pieces.{ArePlacesInOrder, with_rows}
use Rattle.feed_store_read.specs.Releases.{AreReleases}
use Rattle.feed_store_read.specs.Selected.{AreSelected}
use Rattle.feed_keep.proofs.Ascending.{name_cmp, name_total, text_cmp}
use Rattle.feed_store_read.proofs.Ascending.{text_itself}
use Rattle.feed_keep.proofs.Strict.{all_by, apart_moved, strict_map, strict_of}

-- ---- lists without ties, and their maps

pub distinct_map : {X Y : Type 0} (f : X → Y) (e : Y → Y → Bool) (xs : List X) → IsDistinct (λ x y. e (f x) (f y)) xs → IsDistinct e (map f xs)
unfolding IsDistinct
distinct_map f e [] d = tt
distinct_map f e (x ∷ xs) d = (others xs d.0, distinct_map f e xs d.1)
  where
    others : (ys : List _) → AllByRecursion (λ y. e (f x) (f y) ≡ false) ys → AllByRecursion (λ y. e (f x) y ≡ false) (map f ys)
    others [] all = tt
    others (y ∷ ys) all = (all.0, others ys all.1)

pub distinct_unmap : {X Y : Type 0} (f : X → Y) (e : Y → Y → Bool) (xs : List X) → IsDistinct e (map f xs) → IsDistinct (λ x y. e (f x) (f y)) xs
unfolding IsDistinct
distinct_unmap f e [] d = tt
distinct_unmap f e (x ∷ xs) d = (others xs d.0, distinct_unmap f e xs d.1)
  where
    others : (ys : List _) → AllByRecursion (λ y. e (f x) y ≡ false) (map f ys) → AllByRecursion (λ y. e (f x) (f y) ≡ false) ys
    others [] all = tt
    others (y ∷ ys) all = (all.0, others ys all.1)

-- ---- numbers of rows

abbrev pub id_cmp : Row → Row → Ordering
id_cmp = on rowid value_cmp

pub id_total : IsTotalOrder id_cmp
id_total = on_total rowid value_cmp_total

int_ties : (λ m n. is_eq (value_cmp (Int m) (Int n))) ≡ int_eq
int_ties = λ i m n. is_eq (value_cmp-Int m n i)

pub rows_apart : (rows : List Row) (ids : List ℤ) → map rowid rows ≡ map Int ids → IsDistinct int_eq ids → IsDistinct same_id rows
rows_apart rows ids same d =
    let e = eq_by_cmp value_cmp in
    distinct_unmap rowid e rows (subst (IsDistinct e) (sym same) (distinct_map Int e ids (subst (λ t. IsDistinct t ids) (sym int_ties) d)))

pub ids_apart : (rows : List Row) (ids : List ℤ) → map rowid rows ≡ map Int ids → IsDistinct same_id rows → IsDistinct int_eq ids
ids_apart rows ids same d =
    let e = eq_by_cmp value_cmp in
    subst (λ t. IsDistinct t ids) int_ties (distinct_unmap Int e ids (subst (IsDistinct e) same (distinct_map rowid e rows d)))

-- ---- the tables hold a list of records

pub now_listed : (db : Database) (found : Releases) (ids : List ℤ) → AreSelected db found ids → IsDistinct int_eq found.ids.items → IsDistinct int_eq ids → HoldsReleases db
now_listed db found ids it one two =
    let releases = it.releases in
    let pieces = it.pieces in
    let mine = rows_apart releases.rows _ releases.show.numbers (subst (IsDistinct int_eq) it.numbers one) in
    let parts = rows_apart pieces.rows ids pieces.show.numbers two in record {
      are_releases = all-permutation IsReleaseRow _ _ (IsPermutation-sym _ _ releases.moved) releases.show.proper;
      are_pieces = all-permutation IsPieceRow _ _ (IsPermutation-sym _ _ pieces.moved) pieces.show.proper;
      ids = apart_moved id_cmp id_total releases.rows (db.trees 1) (IsPermutation-sym _ _ releases.moved) mine;
      piece_ids = apart_moved id_cmp id_total pieces.rows (db.trees 3) (IsPermutation-sym _ _ pieces.moved) parts;
    }

pub release_ids_apart : (db : Database) (found : Releases) (ids : List ℤ) → AreSelected db found ids → HoldsReleases db → IsDistinct int_eq found.ids.items
release_ids_apart db found ids it are =
    subst (IsDistinct int_eq) (sym it.numbers) (ids_apart it.releases.rows _ it.releases.show.numbers (apart_moved id_cmp id_total (db.trees 1) it.releases.rows it.releases.moved are.ids))

pub piece_ids_apart : (db : Database) (found : Releases) (ids : List ℤ) → AreSelected db found ids → HoldsReleases db → IsDistinct int_eq ids
piece_ids_apart db found ids it are =
    ids_apart it.pieces.rows ids it.pieces.show.numbers (apart_moved id_cmp id_total (db.trees 3) it.pieces.rows it.pieces.moved are.piece_ids)

-- ---- the names ascend

text_total : IsTotalOrder (on text_in text_cmp)
text_total = on_total text_in nat_list_cmp_total

others_named : (r : Row) (rows : List Row) → IsReleaseRow r → AllByRecursion IsReleaseRow rows → AllByRecursion (λ x. text_cmp (text_in r) (text_in x) ≡ Less) rows
    → AllByRecursion (λ n. name_cmp (name_in r) n ≡ Less) (names (map (record_in []) rows))
others_named r [] is all up = tt
others_named r (x ∷ xs) is all up = ((λ i. text_cmp (sym (release_text r is) i) (sym (release_text x all.0) i)) ∙ up.0, others_named r xs is all.1 up.1)

named_up : (rows : List Row) → AllByRecursion IsReleaseRow rows → IsStrictlySortedBy (on text_in text_cmp) rows → AreNamesAscending (names (map (record_in []) rows))
unfolding IsStrictlySortedBy
named_up [] all up = tt
named_up (r ∷ rows) all up = (others_named r rows all.0 all.1 up.0, named_up rows all.1 up.1)

pub names_up : (db : Database) (found : Releases) → HasTables db → HoldsReleases db → AreReleases db found → AreNamesAscending (names (shown found.records.items))
names_up db found ours are it =
    let apart = distinct_texts db ours (texted_releases _ _ are) in
    let tied = subst (λ e. IsDistinct e (db.trees 1)) (λ i a b. sym (is_eq-slice_cmp (text_in a) (text_in b)) i) apart in
    let mine = apart_moved (on text_in text_cmp) text_total (db.trees 1) it.rows it.moved tied in
    let up = strict_of (on text_in text_cmp) text_total it.rows it.order mine in
    subst (λ (c : Content). AreNamesAscending (names c)) (sym it.show.shows) (named_up it.rows it.show.proper up)

-- ---- the places of a name's parts ascend

abbrev place_of : Row → ℕ
place_of row = (part_in row).first

abbrev row_cmp : Row → Row → Ordering
row_cmp = then_cmp (on text_in text_cmp) (on place_of nat_cmp)

row_total : IsTotalOrder row_cmp
row_total = then_total text_total (on_total place_of nat_cmp_total)

first_ties : (m n : ℕ) → (m == n) ≡ is_eq (nat_cmp m n)
first_ties m n = grind (arith, nat_tests)

all_of : (text : List ℕ) (rows : List Row) → AllByRecursion (λ row. text_in row ≡ text) (filter (is_of text) rows)
all_of text [] = tt
all_of text (r ∷ rows) = by (is_of text r) refl (all_of text rows)
  where
    by : (b : Bool) → is_of text r ≡ b → AllByRecursion (λ row. text_in row ≡ text) (filter (is_of text) rows)
        → AllByRecursion (λ row. text_in row ≡ text) (cond b (r ∷ filter (is_of text) rows) (filter (is_of text) rows))
    by true e rest = ((bytes_decides (text_in r) text).0 e, rest)
    by false e rest = rest

same_then : (o p : Ordering) → o ≡ Equal → ordering_then o p ≡ p
same_then o p e = rw e

pub places_up : (db : Database) (rows : List Row) (text : List ℕ) → HasTables db → HoldsReleases db → IsPermutation (db.trees 3) rows → ArePlacesInOrder rows
    → ArePartsAscending (map part_in (filter (is_of text) rows))
places_up db rows text ours are moved order =
    let mine = filter (is_of text) rows in
    let kept : IsSorted row_cmp mine = IsSortedBy-filter (λ x y. is_lt (row_cmp x y)) (ranks_by row_total (λ r. r)) (is_of text) rows order in
    let named = all_by _ mine (all_of text rows) in
    let up : IsSorted (on place_of nat_cmp) mine = λ k d low high.
    let a = get_or mine (k + 1) d in
    let b = get_or mine k d in
    let tie : text_cmp (text_in a) (text_in b) ≡ Equal = (λ i. text_cmp (named (k + 1) d high i) (named k d (omega arith) i)) ∙ text_itself text in
    ap is_lt (sym (same_then _ (nat_cmp (place_of a) (place_of b)) tie)) ∙ kept k d low high in
    let apart = distinct_places db ours (texted_pieces _ _ are) (placed_pieces _ _ are) text in
    let tied = subst (λ e. IsDistinct e (map part_in (filter (is_of text) (db.trees 3)))) (λ i p q. first_ties p.first q.first i) apart in
    let first : Part → ℕ = λ p. p.first in
    let parts_moved = IsPermutation-map part_in _ _ (IsPermutation-filter (is_of text) (db.trees 3) rows moved) in
    let placed = apart_moved (on first nat_cmp) (on_total first nat_cmp_total) _ (map part_in mine) parts_moved tied in
    strict_map part_in (on first nat_cmp) mine (strict_of (on place_of nat_cmp) (on_total place_of nat_cmp_total) mine up (distinct_unmap part_in (eq_by_cmp (on first nat_cmp)) mine placed))

each_up : (rows releases : List Row) → ((text : List ℕ) → ArePartsAscending (map part_in (filter (is_of text) rows)))
    → AllByRecursion (λ r. ArePartsAscending r.parts) (map (with_rows rows) (map (record_in []) releases))
each_up rows [] up = tt
each_up rows (r ∷ rs) up = (up (text_of (name_in r)), each_up rows rs up)

from_shown : (rs : List code.Record) → AllByRecursion (λ r. ArePartsAscending r.parts) (shown rs) → AllByRecursion (λ r. ArePartsAscending (shown_parts r.parts.items)) rs
from_shown [] all = tt
from_shown (r ∷ rs) all = (all.0, from_shown rs all.1)

pub all_parts_up : (db : Database) (found : Releases) (ids : List ℤ) → HasTables db → HoldsReleases db → AreSelected db found ids
    → All (λ r. ArePartsAscending (shown_parts r.parts.items)) found.records.items
all_parts_up db found ids ours are it =
    let rows = it.pieces.rows in
    let up = each_up rows it.releases.rows (λ text. places_up db rows text ours are it.pieces.moved it.pieces.order) in
    let is : shown found.records.items ≡ map (with_rows rows) (map (record_in []) it.releases.rows) = it.pieces.show.shows ∙ ap (map (with_rows rows)) it.releases.show.shows in
    all_by _ _ (from_shown found.records.items (subst (AllByRecursion (λ r. ArePartsAscending r.parts)) (sym is) up))

-- ---- the content

part_up : (p : Part) (qs : List Part) → AllByRecursion (λ q. nat_cmp p.first q.first ≡ Less) qs → AllByRecursion (λ q. part_stops p q ≡ true) qs
part_up p [] all = tt
part_up p (q ∷ qs) all = (less (nat_lt p.first q.first) refl all.0, part_up p qs all.1)
  where
    less : (b : Bool) → nat_lt p.first q.first ≡ b → nat_cmp p.first q.first ≡ Less → b ≡ true
    less true e h = refl
    less false e h = by (p.first == q.first) (rw e at h)
      where
        by : (b : Bool) → cond b Equal Greater ≡ Less → false ≡ true
        by true h = absurd cc
        by false h = absurd cc

parts_are_up : (ps : List Part) → ArePartsAscending ps → IsUp part_stops ps
unfolding IsStrictlySortedBy
parts_are_up [] up = tt
parts_are_up (p ∷ ps) up = (part_up p ps up.0, parts_are_up ps up.1)

turned : (x y : Ordering) → x ≡ ordering_reverse y → y ≡ Less → not (is_lt x) ≡ true
turned x y e h = ap (λ o. not (is_lt o)) (e ∙ ap ordering_reverse h)

record_up : (r : Record) (rs : List Record) → AllByRecursion (λ n. name_cmp r.name n ≡ Less) (names rs) → AllByRecursion (λ x. record_stops r x ≡ true) rs
record_up r [] all = tt
record_up r (x ∷ xs) all = (turned (name_cmp x.name r.name) (name_cmp r.name x.name) (name_total.antisymm x.name r.name) all.0, record_up r xs all.1)

records_are_up : (rs : List Record) → AreNamesAscending (names rs) → IsUp record_stops rs
unfolding IsStrictlySortedBy
records_are_up [] up = tt
records_are_up (r ∷ rs) up = (record_up r rs up.0, records_are_up rs up.1)

each_joined : (rows releases : List Row) → AllByRecursion IsReleaseRow releases → ((text : List ℕ) → ArePartsAscending (map part_in (filter (is_of text) rows)))
    → map (with_rows rows) (map (record_in []) releases) ≡ map (record_in rows) releases
each_joined rows [] all up = refl
each_joined rows (r ∷ rs) all up = λ i. (let x : Record = record (record_in [] r) { parts = parts i } in x) ∷ each_joined rows rs all.1 up i
  where
    mine : List ℕ → List Part
    mine text = map part_in (filter (is_of text) rows)

    parts : mine (text_of (name_in r)) ≡ parts_in rows (text_in r)
    parts = ap mine (sym (release_text r all.0))
        ∙ sym (parts_sort (mine (text_in r)) ∙ sort_same same_first part_stops part_laws (mine (text_in r)) (parts_are_up (mine (text_in r)) (up (text_in r))))

-- the records that were read, with their parts, are the content
pub joined : (db : Database) (found : Releases) (ids : List ℤ) → HasTables db → HoldsReleases db → AreSelected db found ids → AreNamesAscending (names (shown found.records.items))
    → shown found.records.items ≡ content_without_reasons db
joined db found ids ours are it up =
    let rows = it.pieces.rows in
    let releases = it.releases.rows in
    let other : Database = record { schema = db.schema; trees = λ tree. cond (tree == 1) releases rows } in
    let any : content_without_reasons db ≡ content_in releases rows = any_rows db other ours are it.releases.moved it.pieces.moved in
    let is : shown found.records.items ≡ map (record_in rows) releases =
    it.pieces.show.shows ∙ ap (map (with_rows rows)) it.releases.show.shows
    ∙ each_joined rows releases it.releases.show.proper (λ text. places_up db rows text ours are it.pieces.moved it.pieces.order) in
    let stays = sort_same same_text record_stops record_laws (map (record_in rows) releases) (records_are_up _ (subst (λ (c : Content). AreNamesAscending (names c)) is up)) in
    is ∙ sym (any ∙ records_sort (map (record_in rows) releases) ∙ stays)
