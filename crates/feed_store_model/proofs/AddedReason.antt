-- The effect of inserting a reason on the content.
use Rattle.std.proofs.Common.{◌≡◌, ℕ, List, [], ◌∷◌, map, Bool, true, false, Option, Some, IsSome, if◌then◌else◌, refl, sym, ap, subst, ◌∙◌}
use Rattle.std.specs.List.{AllByRecursion, IsDistinct}
use Rattle.std.specs.Cmp.Lexicographic.{bytes_decides}
use Rattle.std.proofs.lemmas.List.Sorted.{IsPermutation-sym}
use Rattle.sqlite_value.specs.Order.{Row}
use Rattle.sqlite_trees.specs.Tree.{put_row}
use Rattle.sqlite_trees.proofs.ListLemmas.{map-map}
use Rattle.sqlite_trees.proofs.TreeLemmas.{all-put_row}
use Rattle.sqlite_rules.specs.Edit.{next_rowid}
use Rattle.sqlite_rules.proofs.ListLemmas.{all_has}
use Rattle.sqlite.specs.Effect.{Database}
use Rattle.feed_names.specs.ReleaseName.{Name, IsName, text_of, name_eq}
use Rattle.feed_kbart.specs.declared.fault.BadFile.{BadFile}
use Rattle.feed_model.specs.Content.{Record, Content}
use Rattle.feed_model.specs.Change.{changed}
use Rattle.feed_model.proofs.Names.{name_is, name_self}
use Rattle.feed_store_model.specs.Layout.{reason}
use Rattle.feed_store_model.specs.Records.{with_reason}
use Rattle.feed_store_model.specs.Tables.{reason_row, IsReleaseRow, IsReasonRow, AreReasons, IsChanged, HoldsReleases, HoldsRecords, IsLayout2, is_of, record_in}
use Rattle.feed_store_model.specs.Tables.{reason_at, reason_in, explained_by, explained, content_without_reasons, stored_content}
use Rattle.feed_store_model.proofs.Basics.{same_test, zero_five, one_five, three_five}
use Rattle.feed_store_model.proofs.Unique.{same_texts, distinct_texts, distinct_reasons}
use Rattle.feed_store_model.proofs.Ours.{still_ours, tables_of_ours}
use Rattle.feed_store_model.proofs.Contents.{distinct_records, map_same, texted_releases, texted_reasons}
use Rattle.feed_store_model.proofs.Explained.{all_records, explained_names, reason_moved}
use Rattle.feed_store_model.proofs.Each.{each, changed_map, one_name, sorted_names}
use Rattle.feed_store_model.proofs.Inserted.{Puts}
use Rattle.feed_store_model.proofs.Puts.{put_moved, put_distinct}

-- the row of a reason, under the next rowid
abbrev pub said_row : Name → ℕ → ℕ → Database → Row
said_row n number place db = reason_row (next_rowid (db.trees 5)) (text_of n) number place

-- a row has the text of a name exactly if it has this name
is_text_of : (m n : Name) → IsName (text_of m) m → IsName (text_of n) n → (row : Row) → (text : is_of (text_of n) row ≡ true) → is_of (text_of m) row ≡ name_eq m n
is_text_of m n hm hn row text = same_test (is_of (text_of m) row) (name_eq m n) there back
  where
    there : is_of (text_of m) row ≡ true → name_eq m n ≡ true
    there e =
        let texts : text_of m ≡ text_of n = sym ((bytes_decides _ (text_of m)).0 e) ∙ (bytes_decides _ (text_of n)).0 text in
        subst (λ (k : Name). name_eq k n ≡ true) (sym (one_name m n hm hn texts)) (name_self n)

    back : name_eq m n ≡ true → is_of (text_of m) row ≡ true
    back e = subst (λ (k : Name). is_of (text_of k) row ≡ true) (sym (name_is m n e)) text

module _ (n : Name) (number place : ℕ) (why : BadFile) (named : IsName (text_of n) n) (says : reason_at number place ≡ Some why)
    (old new : Database) (ours : IsLayout2 old) (it : Puts reason (said_row n number place old) old new) (are : HoldsRecords old) where
  abbrev row : Row
  row = said_row n number place old

  same_releases : new.trees 1 ≡ old.trees 1
  same_releases = it.others.1.0 one_five

  same_pieces : new.trees 3 ≡ old.trees 3
  same_pieces = it.others.1.1.0 three_five

  rows : HoldsReleases new
  rows = rw (same_releases, same_pieces) are.rows

  reasons : AreReasons (put_row row (old.trees 5))
  reasons = record {
    are = all-put_row IsReasonRow row (old.trees 5) (record { is = refl; said = subst IsSome (sym says) refl }) are.reasons.are;
    ids = put_distinct row (old.trees 5) it.free are.reasons.ids;
  }

  listed : HoldsRecords new
  listed = record { rows = rows; reasons = subst AreReasons (sym it.rows) reasons }

  mine : is_of (text_of n) row ≡ true
  mine = (bytes_decides (text_of n) (text_of n)).1 refl

  -- the reason of the name is the new one, and of any other what it was
  reason_put : (t : List ℕ) → reason_in (put_row row (old.trees 5)) t ≡ (if is_of t row then Some why else reason_in (old.trees 5) t)
  reason_put t =
      let texts = subst (λ l. IsDistinct same_texts l) it.rows (distinct_reasons new it.schema it.sound (texted_reasons _ listed.reasons)) in
      reason_moved (put_row row (old.trees 5)) (row ∷ old.trees 5) t texts (IsPermutation-sym _ _ (put_moved row (old.trees 5) it.free))
      ∙ ap (λ (o : Option BadFile). if is_of t row then o else reason_in (old.trees 5) t) says

  one : (r : Record) → IsName (text_of r.name) r.name → explained_by (put_row row (old.trees 5)) r ≡ each n (with_reason why) (explained_by (old.trees 5) r)
  one r name =
      ap (λ (o : Option BadFile). let x : Record = record r { reason = o } in x) (reason_put (text_of r.name))
      ∙ by (is_of (text_of r.name) row) (name_eq r.name n) (is_text_of r.name n name named row mine)
    where
      by : (a b : Bool) → a ≡ b → (let x : Record = record r { reason = if a then Some why else reason_in (old.trees 5) (text_of r.name) } in x)
          ≡ (if b then with_reason why (explained_by (old.trees 5) r) else explained_by (old.trees 5) r)
      by true true e = refl
      by false false e = refl
      by true false e = absurd (let g : true ≡ false = e in cc)
      by false true e = absurd (let g : false ≡ true = e in cc)

  explained_put : explained (put_row row (old.trees 5)) (content_without_reasons old) ≡ changed n (with_reason why) (stored_content old)
  explained_put =
      let texts = distinct_texts old (tables_of_ours old ours) (texted_releases _ _ are.rows) in
      let apart = sorted_names (map (record_in (old.trees 3)) (old.trees 1)) (distinct_records (old.trees 3) (old.trees 1) are.rows.are_releases texts) in
      let are_named = all_records (λ r. IsName (text_of r.name) r.name) (old.trees 3) (old.trees 1) (λ r h. (all_has IsReleaseRow (old.trees 1) r are.rows.are_releases h).named) in
      map_same _ (λ r. each n (with_reason why) (explained_by (old.trees 5) r)) (content_without_reasons old) (each_one (content_without_reasons old) are_named)
      ∙ sym (map-map (each n (with_reason why)) (explained_by (old.trees 5)) (content_without_reasons old))
      ∙ changed_map n (with_reason why) (stored_content old) (subst (λ ns. IsDistinct name_eq ns) (sym (explained_names (old.trees 5) (content_without_reasons old))) apart)
    where
      each_one : (c : Content) → AllByRecursion (λ r. IsName (text_of r.name) r.name) c
          → AllByRecursion (λ r. explained_by (put_row row (old.trees 5)) r ≡ each n (with_reason why) (explained_by (old.trees 5) r)) c
      each_one (r ∷ rs) all = (one r all.0, each_one rs all.1)
      each_one [] all = tt

  content : stored_content new ≡ changed n (with_reason why) (stored_content old)
  content = rw (same_releases, same_pieces, it.rows) explained_put

pub adds_reason : (n : Name) (number place : ℕ) (why : BadFile) (old new : Database) → IsName (text_of n) n → reason_at number place ≡ Some why → IsLayout2 old
    → Puts reason (said_row n number place old) old new → IsChanged (changed n (with_reason why)) old new
adds_reason n number place why old new named says ours it = record {
  ours = still_ours old new ours (record { schema = it.schema; sound = it.sound; layout = it.others.0 zero_five });
  listed = listed n number place why named says old new ours it;
  content = content n number place why named says old new ours it;
}
