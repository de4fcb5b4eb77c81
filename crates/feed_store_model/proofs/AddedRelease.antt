-- The effect of inserting a release on the content.
use Rattle.std.proofs.Common.{◌≡◌, ◌≤◌, ◌&&◌, ℕ, List, [], ◌∷◌, map, filter, Option, None, Bool, true, false}
use Rattle.std.proofs.Common.{refl, sym, ap, subst, ◌∙◌}
use Rattle.std.specs.List.{AllByRecursion, IsDistinct, list_any}
use Rattle.std.specs.Cmp.Lexicographic.{bytes_decides}
use Rattle.std.proofs.lemmas.List.Sorted.{IsPermutation-sym}
use Rattle.std.proofs.lemmas.Map.Keys.{IsDistinct-IsPermutation, IsDistinct-head}
use Rattle.sqlite_value.specs.Order.{Row}
use Rattle.sqlite_value.specs.Keys.{plain}
use Rattle.sqlite_trees.specs.Tree.{Trees, put_row, rowid}
use Rattle.sqlite_trees.proofs.TreeLemmas.{all-put_row}
use Rattle.sqlite_schema.specs.declared.schema.Constraint.TheVariants.{ForeignKey}
use Rattle.sqlite_schema.specs.Rules.{passes, agree}
use Rattle.sqlite_rules.specs.Edit.{is_taken, id_in, next_rowid}
use Rattle.sqlite_rules.proofs.ListLemmas.{all_has, all_from, some_has}
use Rattle.sqlite_catalog.specs.Listing.{IsSound}
use Rattle.sqlite.specs.Effect.{Database}
use Rattle.feed_names.specs.ReleaseName.{Name, IsName, text_of}
use Rattle.feed_kbart.specs.declared.fault.BadFile.{BadFile}
use Rattle.feed_model.specs.declared.state.State.{State}
use Rattle.feed_model.specs.Reply.{max_file}
use Rattle.feed_model.specs.Content.{Part, Record}
use Rattle.feed_model.specs.Change.{insert_record}
use Rattle.feed_store_model.specs.Layout.{layout_2_schema, piece, release, reason}
use Rattle.feed_store_model.specs.Tables.{IsReleaseRow, AreRows, AreReasons, IsChanged, HoldsReleases, HoldsRecords, IsLayout2, release_row, text_in, part_in, is_of}
use Rattle.feed_store_model.specs.Tables.{parts_in, reason_in, record_in, sorted_parts, content_without_reasons, stored_content}
use Rattle.feed_store_model.specs.Records.{bare}
use Rattle.feed_store_model.proofs.Basics.{three_one, zero_one, five_one}
use Rattle.feed_store_model.proofs.Cascade.{key_is}
use Rattle.feed_store_model.proofs.Gone.{IsTexted, equal_texts}
use Rattle.feed_store_model.proofs.Unique.{same_texts, distinct_texts}
use Rattle.feed_store_model.proofs.Ours.{still_ours, tables_of}
use Rattle.feed_store_model.proofs.Contents.{texted_releases, texted_pieces, texted_reasons}
use Rattle.feed_store_model.proofs.Explained.{explained_insert, first_said, reason_is}
use Rattle.feed_store_model.proofs.Inserted.{Puts}
use Rattle.feed_store_model.proofs.Puts.{put_moved, put_distinct, put_content}
use Rattle.feed_store_model.proofs.SetState.{state_back}

-- some release has the text of this row
abbrev pub HasOwner : Trees → Row → Type 0
HasOwner db row = list_any (λ parent. agree plain (1 ∷ []) parent (1 ∷ []) row) (db 1) ≡ true

last_true : (b : Bool) → (b && true) ≡ true → b ≡ true
last_true true e = refl
last_true false e = absurd (let g : false ≡ true = e in cc)

-- each part has a release of its text, and each reason
owned_part : (db : Trees) (row : Row) → IsTexted row → passes ForeignKey layout_2_schema db piece row ≡ true → HasOwner db row
owned_part db row texted h = last_true (list_any (λ parent. agree plain (1 ∷ []) parent (1 ∷ []) row) (db 1)) (rw (texted, key_is) at h)

pub owned_reason : (db : Trees) (row : Row) → IsTexted row → passes ForeignKey layout_2_schema db reason row ≡ true → HasOwner db row
owned_reason db row texted h = last_true (list_any (λ parent. agree plain (1 ∷ []) parent (1 ∷ []) row) (db 1)) (rw (texted, key_is) at h)

flips : (a b : Row) → same_texts a b ≡ same_texts b a
flips a b = by (same_texts a b) (same_texts b a) refl refl
  where
    by : (x y : Bool) → same_texts a b ≡ x → same_texts b a ≡ y → x ≡ y
    by true true e f = refl
    by false false e f = refl
    by true false e f = absurd (let g : true ≡ false = sym ((bytes_decides (text_in b) (text_in a)).1 (sym ((bytes_decides (text_in a) (text_in b)).0 e))) ∙ f in cc)
    by false true e f = absurd (let g : true ≡ false = sym ((bytes_decides (text_in a) (text_in b)).1 (sym ((bytes_decides (text_in b) (text_in a)).0 f))) ∙ e in cc)

-- a name without a release has no parts and no reason
module _ (old : Database) (new : Row) (ours : IsLayout2 old) (are : HoldsRecords old) (texted : IsTexted new) (free : is_taken (old.trees 1) new ≡ false)
    (d : IsDistinct same_texts (put_row new (old.trees 1))) where
  apart : AllByRecursion (λ r. same_texts new r ≡ false) (old.trees 1)
  apart = IsDistinct-head same_texts new (old.trees 1)
      (IsDistinct-IsPermutation same_texts flips (put_row new (old.trees 1)) (new ∷ old.trees 1) (IsPermutation-sym _ _ (put_moved new (old.trees 1) free)) d)

  sound : IsSound layout_2_schema old.trees
  sound = subst (λ s. IsSound s old.trees) ours.schema ours.obeyed

  out : (x : Row) → IsTexted x → HasOwner old.trees x → (b : Bool) → is_of (text_in new) x ≡ b → b ≡ false
  out x tx owned false e = refl
  out x tx owned true e =
      let it = some_has (λ parent. agree plain (1 ∷ []) parent (1 ∷ []) x) (old.trees 1) owned in
      let same : text_in it.0 ≡ text_in x = (bytes_decides (text_in it.0) (text_in x)).0
      (sym (equal_texts it.0 x (all_has IsTexted (old.trees 1) it.0 (texted_releases _ _ are.rows).texted it.1) tx) ∙ it.2) in
      let tie : same_texts new it.0 ≡ true = (bytes_decides (text_in new) (text_in it.0)).1 (sym ((bytes_decides (text_in x) (text_in new)).0 e) ∙ sym same) in
      absurd (let g : true ≡ false = sym tie ∙ all_has (λ r. same_texts new r ≡ false) (old.trees 1) it.0 apart it.1 in cc)

  none : (xs : List Row) → AllByRecursion (λ x. is_of (text_in new) x ≡ false) xs → filter (is_of (text_in new)) xs ≡ []
  none [] all = refl
  none (x ∷ xs) all = rw (all.0, none xs all.1)

  no_parts : filter (is_of (text_in new)) (old.trees 3) ≡ []
  no_parts = none (old.trees 3) (all_from _ (old.trees 3) (λ x h.
      let tx = all_has IsTexted (old.trees 3) x (texted_pieces _ _ are.rows).texted h in
      let rules = (sound.obeys.rules ForeignKey).1.1.0 in
      out x tx (owned_part old.trees x tx (all_has (λ row. passes ForeignKey layout_2_schema old.trees piece row ≡ true) (old.trees 3) x rules h)) (is_of (text_in new) x) refl))

  no_reason : reason_in (old.trees 5) (text_in new) ≡ None
  no_reason = reason_is (old.trees 5) (text_in new) ∙ ap first_said (none (old.trees 5) (all_from _ (old.trees 5) (λ x h.
      let tx = all_has IsTexted (old.trees 5) x (texted_reasons _ are.reasons).texted h in
      let rules = (sound.obeys.rules ForeignKey).1.1.1.0 in
      out x tx (owned_reason old.trees x tx (all_has (λ row. passes ForeignKey layout_2_schema old.trees reason row ≡ true) (old.trees 5) x rules h)) (is_of (text_in new) x) refl)))

-- the row of a release, under the next rowid
abbrev pub new_row : Name → ℕ → State → Database → Row
new_row n size s db = release_row (next_rowid (db.trees 1)) n size s

module _ (n : Name) (size : ℕ) (s : State) (old new : Database) (named : IsName (text_of n) n) (limit : size ≤ max_file)
    (it : Puts release (new_row n size s old) old new) (are : HoldsRecords old) where
  abbrev row : Row
  row = new_row n size s old

  same_pieces : new.trees 3 ≡ old.trees 3
  same_pieces = it.others.1.1.0 three_one

  same_reasons : new.trees 5 ≡ old.trees 5
  same_reasons = it.others.1.1.1.0 five_one

  all : AllByRecursion IsReleaseRow (put_row row (old.trees 1))
  all =
      let is_row : IsReleaseRow row = record {
        is = ap (λ (st : State). release_row (id_in (rowid row)) n size st) (sym (state_back s));
        named = named;
        limit = limit;
      } in
      all-put_row IsReleaseRow row (old.trees 1) is_row are.rows.are_releases

  rows : HoldsReleases new
  rows =
      let now : AreRows (put_row row (old.trees 1)) (old.trees 3) = record {
        are_releases = all;
        are_pieces = are.rows.are_pieces;
        ids = put_distinct row (old.trees 1) it.free are.rows.ids;
        piece_ids = are.rows.piece_ids;
      } in
      rw (it.rows, same_pieces) now

  listed : HoldsRecords new
  listed = record { rows = rows; reasons = subst AreReasons (sym same_reasons) are.reasons }

  record_is : IsLayout2 old → IsDistinct same_texts (put_row row (old.trees 1)) → record_in (old.trees 3) row ≡ bare n size s
  record_is ours apart =
      let none : parts_in (old.trees 3) (text_of n) ≡ [] = ap (λ l. sorted_parts (map part_in l)) (no_parts old row ours are refl it.free apart) in
      ap (λ (st : State). let x : Record = record { name = n; size = size; state = st; reason = None; parts = parts_in (old.trees 3) (text_of n) } in x)
      (state_back s)
      ∙ ap (λ (ps : List Part). let x : Record = record { name = n; size = size; state = s; reason = None; parts = ps } in x) none

  content : IsLayout2 old → stored_content new ≡ insert_record (bare n size s) (stored_content old)
  content ours =
      let apart : IsDistinct same_texts (put_row row (old.trees 1)) = subst (IsDistinct same_texts) it.rows
      (distinct_texts new (tables_of new it.schema it.sound) (texted_releases _ _ rows)) in
      let plain_content : content_without_reasons new ≡ insert_record (bare n size s) (content_without_reasons old) = rw (it.rows, same_pieces)
      (put_content row (old.trees 1) (old.trees 3) it.free all apart ∙ ap (λ r. insert_record r (content_without_reasons old)) (record_is ours apart)) in
      rw (same_reasons, plain_content) (explained_insert (old.trees 5) (bare n size s) (content_without_reasons old)
      ∙ ap (λ (o : Option BadFile). let x : Record = record (bare n size s) { reason = o } in insert_record x (stored_content old)) (no_reason old row ours are refl it.free apart))

pub adds_release : (n : Name) (size : ℕ) (s : State) (old new : Database) → IsName (text_of n) n → size ≤ max_file → IsLayout2 old
    → Puts release (new_row n size s old) old new → IsChanged (insert_record (bare n size s)) old new
adds_release n size s old new named limit ours it = record {
  ours = still_ours old new ours (record { schema = it.schema; sound = it.sound; layout = it.others.0 zero_one });
  listed = listed n size s old new named limit it;
  content = λ are. content n size s old new named limit it are ours;
}
