-- The content with one more release, and with one more part.
use Rattle.std.proofs.Common.{◌≡◌, ◌||◌, List, [], ◌∷◌, map, Bool, true, false, IsPermutation, refl, sym, ap, ◌∙◌}
use Rattle.std.specs.List.{AllByRecursion, IsDistinct}
use Rattle.std.specs.Ordering.{is_eq, match_ordering}
use Rattle.std.specs.declared.cmp.Ordering.{Ordering}
use Rattle.std.specs.declared.cmp.Ordering.TheVariants.{Less, Equal, Greater}
use Rattle.std.proofs.lemmas.Cmp.{tied_back}
use Rattle.std.proofs.lemmas.List.Sorted.{IsPermutation-refl, IsPermutation-cons, IsPermutation-middle, IsPermutation-trans, IsPermutation-sym, IsPermutation-map}
use Rattle.std.proofs.lemmas.Map.Keys.{IsDistinct-IsPermutation, IsDistinct-cons}
use Rattle.sqlite_value.specs.Order.{Row, value_cmp}
use Rattle.sqlite_value.proofs.OrderLemmas.{value_cmp_total}
use Rattle.sqlite_trees.specs.Tree.{rowid, put_row}
use Rattle.sqlite_rules.specs.Edit.{is_taken}
use Rattle.feed_model.specs.Change.{insert_record}
use Rattle.feed_store_model.specs.Tables.{IsReleaseRow, same_id, record_in, content_in}
use Rattle.feed_store_model.proofs.Insertion.{sort, sort_moved}
use Rattle.feed_store_model.proofs.Order.{same_text, record_stops, record_laws, records_sort, inserted_record}
use Rattle.feed_store_model.proofs.Unique.{same_texts}
use Rattle.feed_store_model.proofs.Contents.{distinct_records}

-- a row that is put at a free rowid is one more
pub put_moved : (new : Row) (rows : List Row) → is_taken rows new ≡ false → IsPermutation (new ∷ rows) (put_row new rows)
put_moved new [] free = IsPermutation-refl (new ∷ [])
put_moved new (r ∷ rows) free = by (value_cmp (rowid r) (rowid new)) free (put_moved new rows)
  where
    by : (o : Ordering) → (is_eq o || is_taken rows new) ≡ false → (is_taken rows new ≡ false → IsPermutation (new ∷ rows) (put_row new rows))
        → IsPermutation (new ∷ r ∷ rows) (match_ordering o (r ∷ put_row new rows) (new ∷ rows) (new ∷ r ∷ rows))
    by Less e later = IsPermutation-trans _ _ _ (IsPermutation-middle (new ∷ []) r rows) (IsPermutation-cons r (new ∷ rows) (put_row new rows) (later e))
    by Equal e later = absurd (let g : true ≡ false = e in cc)
    by Greater e later = IsPermutation-refl (new ∷ r ∷ rows)

flips : (a b : Row) → same_id a b ≡ same_id b a
flips a b = by (value_cmp (rowid a) (rowid b)) (value_cmp (rowid b) (rowid a)) refl refl
  where
    by : (x y : Ordering) → value_cmp (rowid a) (rowid b) ≡ x → value_cmp (rowid b) (rowid a) ≡ y → is_eq x ≡ is_eq y
    by Equal Equal e f = refl
    by Less Less e f = refl
    by Less Greater e f = refl
    by Greater Less e f = refl
    by Greater Greater e f = refl
    by Equal Less e f = absurd (let g : Equal ≡ Less = sym (tied_back value_cmp_total (rowid a) (rowid b) e) ∙ f in cc)
    by Equal Greater e f = absurd (let g : Equal ≡ Greater = sym (tied_back value_cmp_total (rowid a) (rowid b) e) ∙ f in cc)
    by Less Equal e f = absurd (let g : Equal ≡ Less = sym (tied_back value_cmp_total (rowid b) (rowid a) f) ∙ e in cc)
    by Greater Equal e f = absurd (let g : Equal ≡ Greater = sym (tied_back value_cmp_total (rowid b) (rowid a) f) ∙ e in cc)

none_taken : (new : Row) (rows : List Row) → is_taken rows new ≡ false → AllByRecursion (λ r. same_id new r ≡ false) rows
none_taken new [] free = tt
none_taken new (r ∷ rows) free = by (same_id r new) refl free (none_taken new rows)
  where
    by : (b : Bool) → same_id r new ≡ b → (b || is_taken rows new) ≡ false → (is_taken rows new ≡ false → AllByRecursion (λ r. same_id new r ≡ false) rows)
        → AllByRecursion (λ r. same_id new r ≡ false) (r ∷ rows)
    by true e f more = absurd (let g : true ≡ false = f in cc)
    by false e f more = (flips new r ∙ e, more f)

pub put_distinct : (new : Row) (rows : List Row) → is_taken rows new ≡ false → IsDistinct same_id rows → IsDistinct same_id (put_row new rows)
put_distinct new rows free d = IsDistinct-IsPermutation same_id flips (new ∷ rows) (put_row new rows) (put_moved new rows free) (IsDistinct-cons same_id new rows (none_taken new rows free) d)

-- the content with one more release
pub put_content : (new : Row) (rows pieces : List Row) → is_taken rows new ≡ false → AllByRecursion IsReleaseRow (put_row new rows) → IsDistinct same_texts (put_row new rows)
    → content_in (put_row new rows) pieces ≡ insert_record (record_in pieces new) (content_in rows pieces)
put_content new rows pieces free are d =
    let f = record_in pieces in
    let moved = IsPermutation-map f (put_row new rows) (new ∷ rows) (IsPermutation-sym (new ∷ rows) (put_row new rows) (put_moved new rows free)) in
    records_sort (map f (put_row new rows))
    ∙ sort_moved same_text record_stops record_laws (map f (put_row new rows)) (map f (new ∷ rows)) moved (distinct_records pieces (put_row new rows) are d)
    ∙ sym (inserted_record (f new) (sort record_stops (map f rows)))
    ∙ ap (insert_record (f new)) (sym (records_sort (map f rows)))
