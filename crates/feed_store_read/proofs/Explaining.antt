-- The content with its reasons, from what the selection of the reasons shows.
use Rattle.std.proofs.Common.{◌≡◌, ℤ, List, [], ◌∷◌, map, Option, Some, None, Result, Ok, Err, IfOk, IfSome, MatchOption, All, refl, sym, ap, subst, ◌∙◌}
use Rattle.std.specs.Prelude.{Vec}
use Rattle.std.specs.declared.alloc.Global.{Global}
use Rattle.std.proofs.lemmas.List.Elements.{All-cons, All-head, All-nil, All-tail}
use Rattle.sqlite.specs.declared.error.Error.{Error}
use Rattle.std.specs.List.{AllByRecursion, IsDistinct}
use Rattle.std.specs.Ordering.{int_eq}
use Rattle.std.specs.Option.{option_or}
use Rattle.std.proofs.lemmas.List.Sorted.{IsPermutation-sym}
use Rattle.sqlite_value.specs.Order.{Row}
use Rattle.sqlite_trees.proofs.ListLemmas.{all-permutation}
use Rattle.sqlite.specs.Effect.{Database}
use Rattle.feed_kbart.specs.declared.fault.BadFile.{BadFile}
use Rattle.feed_names.specs.ReleaseName.{text_of}
use Rattle.feed_model.specs.Content.{Content, Part, Record, names}
use Rattle.feed_keep.specs.declared.record.Record as code
use Rattle.feed_keep.specs.Shown.{shown}
use Rattle.feed_keep.specs.Order.{AreNamesInOrder, ArePartsInOrder, IsInOrder}
use Rattle.feed_store_read.specs.Selected.{AreRecordsOf}
use Rattle.feed_store_model.specs.Tables.{AreReasons, HoldsRecords, HoldsReleases, IsLayout2, IsReasonRow, stored_content, content_without_reasons, explained, reason_in}
use Rattle.feed_store_model.proofs.Contents.{texted_reasons}
use Rattle.feed_store_model.proofs.Explained.{all_records, explained_same, reason_moved}
use Rattle.feed_store_model.proofs.Unique.{distinct_reasons}
use Rattle.feed_store_read.specs.Reasons.{AreReasonsOf, with_row_reason}
use Rattle.feed_store_read.proofs.Joined.{id_cmp, id_total, ids_apart, rows_apart}
use Rattle.feed_keep.proofs.Strict.{apart_moved}

pub are_proper : (db : Database) (ids : List ℤ) (old new : Content) → AreReasonsOf db ids old new → IsDistinct int_eq ids → AreReasons (db.trees 5)
are_proper db ids old new it apart = record {
  are = all-permutation IsReasonRow _ _ (IsPermutation-sym _ _ it.moved) it.show.proper;
  ids = apart_moved id_cmp id_total it.rows (db.trees 5) (IsPermutation-sym _ _ it.moved) (rows_apart it.rows ids it.show.numbers apart);
}

pub reason_ids_apart : (db : Database) (ids : List ℤ) (old new : Content) → AreReasonsOf db ids old new → AreReasons (db.trees 5) → IsDistinct int_eq ids
reason_ids_apart db ids old new it are = ids_apart it.rows ids it.show.numbers (apart_moved id_cmp id_total (db.trees 5) it.rows it.moved are.ids)

-- records without reasons get those of the rows
with_all : (rows : List Row) (c : Content) → AllByRecursion (λ r. r.reason ≡ None) c → map (with_row_reason rows) c ≡ explained rows c
with_all rows [] all = refl
with_all rows (r ∷ rs) all =
    ap (λ (o : Option BadFile). let x : Record = record r { reason = option_or o (reason_in rows (text_of r.name)) } in x ∷ map (with_row_reason rows) rs) all.0
    ∙ ap (λ (l : Content). (let x : Record = record r { reason = reason_in rows (text_of r.name) } in x) ∷ l) (with_all rows rs all.1)

pub all_explained : (db : Database) (ids : List ℤ) (new : Content) → IsLayout2 db → HoldsRecords db → AreReasonsOf db ids (content_without_reasons db) new → new ≡ stored_content db
all_explained db ids new ours are it =
    let texts = distinct_reasons db ours.schema ours.obeyed (texted_reasons _ are.reasons) in
    it.show.shows
    ∙ with_all it.rows (content_without_reasons db) (all_records (λ r. r.reason ≡ None) (db.trees 3) (db.trees 1) (λ r h. refl))
    ∙ sym (explained_same (db.trees 5) it.rows (λ t. reason_moved (db.trees 5) it.rows t texts it.moved) (content_without_reasons db))

-- ---- what the records are

abbrev Told : Database → Result (Option (Vec code.Record Global)) Error → Type 0
Told db r = IfOk r (λ found. MatchOption found (¬ (HoldsRecords db)) (AreRecordsOf db))

pub told_records : (db : Database) (r : Result (Option (Vec code.Record Global)) Error) → Told db r → IfOk r (λ found. IfSome found (λ records. shown records.items ≡ stored_content db))
told_records db (Ok (Some records)) told = told.content
told_records db (Ok None) told = tt
told_records db (Err e) told = tt

pub told_listed : (db : Database) (r : Result (Option (Vec code.Record Global)) Error) → Told db r → IfOk r (λ found. MatchOption found (¬ (HoldsRecords db)) (λ records. HoldsRecords db))
told_listed db (Ok (Some records)) told = told.listed
told_listed db (Ok None) told = told
told_listed db (Err e) told = tt

-- the database is as it was, so what is read of it now is read of it as it was
pub told_before : (db now : Database) (c : Content) (r : Result (Option (Vec code.Record Global)) Error) → now ≡ db → IsLayout2 db → HoldsReleases db → c ≡ content_without_reasons db
    → (IsLayout2 now → HoldsReleases now → c ≡ content_without_reasons now → Told now r) → Told db r
told_before db now c r same ours rows content told =
    subst (λ (d : Database). Told d r) same (told (subst IsLayout2 (sym same) ours) (subst HoldsReleases (sym same) rows) (content ∙ ap content_without_reasons (sym same)))

abbrev parts_of : Content → List (List Part)
parts_of c = map (λ r. r.parts) c

parts_order : (c d : Content) → parts_of d ≡ parts_of c → All (λ r. ArePartsInOrder r.parts) c → All (λ r. ArePartsInOrder r.parts) d
parts_order [] [] same all = All-nil (λ r. ArePartsInOrder r.parts)
parts_order [] (s ∷ ss) same all = absurd (cc)
parts_order (r ∷ rs) [] same all = absurd (cc)
parts_order (r ∷ rs) (s ∷ ss) same all =
    let head : s.parts ≡ r.parts = (let e = same in cc) in
    let tail : parts_of ss ≡ parts_of rs = (let e = same in cc) in
    All-cons (λ r. ArePartsInOrder r.parts) s ss (subst ArePartsInOrder (sym head) (All-head (λ r. ArePartsInOrder r.parts) r rs all))
    (parts_order rs ss tail (All-tail (λ r. ArePartsInOrder r.parts) r rs all))

pub told_order : (c : Content) (r : Result (Option (Vec code.Record Global)) Error) → IsInOrder c → IfOk r (λ found. IfSome found (λ told. names (shown told.items) ≡ names c))
    → IfOk r (λ found. IfSome found (λ told. parts_of (shown told.items) ≡ parts_of c)) → IfOk r (λ found. IfSome found (λ records. IsInOrder (shown records.items)))
told_order c (Ok (Some records)) order named parted =
    record { records = subst AreNamesInOrder (sym named) order.records; parts = parts_order c (shown records.items) parted order.parts }
told_order c (Ok None) order named parted = tt
told_order c (Err e) order named parted = tt
