-- The effect of inserting a part on the content.
use Rattle.std.proofs.Common.{◌≡◌, ℕ, List, map, filter, refl, sym, ap, subst}
use Rattle.std.specs.List.{AllByRecursion, IsDistinct}
use Rattle.sqlite_value.specs.Order.{Row, column}
use Rattle.sqlite_trees.specs.Tree.{put_row}
use Rattle.sqlite_trees.proofs.TreeLemmas.{all-put_row}
use Rattle.sqlite_rules.specs.Edit.{next_rowid}
use Rattle.sqlite_rules.proofs.ListLemmas.{all_has, all_from}
use Rattle.sqlite.specs.Effect.{Database}
use Rattle.feed_names.specs.ReleaseName.{Name, IsName, text_of}
use Rattle.feed_model.specs.Content.{Part}
use Rattle.feed_model.specs.Change.{changed}
use Rattle.feed_store_model.specs.Layout.{piece}
use Rattle.feed_store_model.specs.Records.{with_part}
use Rattle.feed_store_model.specs.Tables.{piece_row, IsPieceRow, AreRows, AreReasons, IsChanged, HoldsReleases, HoldsRecords, IsLayout2, part_in, is_of, content_without_reasons, stored_content}
use Rattle.feed_store_model.proofs.Basics.{one_three, zero_three, five_three}
use Rattle.feed_store_model.proofs.Order.{same_first}
use Rattle.feed_store_model.proofs.Unique.{distinct_texts, distinct_places, IsPlaced}
use Rattle.feed_store_model.proofs.Ours.{still_ours, tables_of, tables_of_ours}
use Rattle.feed_store_model.proofs.Contents.{texted_releases, texted_pieces}
use Rattle.feed_store_model.proofs.Puts.{put_distinct}
use Rattle.feed_store_model.proofs.Each.{part_content}
use Rattle.feed_store_model.proofs.Inserted.{Puts}
use Rattle.feed_store_model.proofs.Explained.{explained_changed}

pub placed_pieces : (rows pieces : List Row) → AreRows rows pieces → AllByRecursion IsPlaced pieces
placed_pieces rows pieces are = all_from IsPlaced pieces (λ r h. ap (λ (row : Row). column row 2) (all_has IsPieceRow pieces r are.are_pieces h))

-- the row of a part, under the next rowid
abbrev pub part_row : Name → Part → Database → Row
part_row n p db = piece_row (next_rowid (db.trees 3)) (text_of n) p

module _ (n : Name) (p : Part) (old new : Database) (ours : IsLayout2 old) (it : Puts piece (part_row n p old) old new) (are : HoldsRecords old) where
  abbrev row : Row
  row = part_row n p old

  same_releases : new.trees 1 ≡ old.trees 1
  same_releases = it.others.1.0 one_three

  same_reasons : new.trees 5 ≡ old.trees 5
  same_reasons = it.others.1.1.1.0 five_three

  rows : HoldsReleases new
  rows =
      let now : AreRows (old.trees 1) (put_row row (old.trees 3)) = record {
        are_releases = are.rows.are_releases;
        are_pieces = all-put_row IsPieceRow row (old.trees 3) refl are.rows.are_pieces;
        ids = are.rows.ids;
        piece_ids = put_distinct row (old.trees 3) it.free are.rows.piece_ids;
      } in
      rw (same_releases, it.rows) now

  listed : HoldsRecords new
  listed = record { rows = rows; reasons = subst AreReasons (sym same_reasons) are.reasons }

  content : IsName (text_of n) n → stored_content new ≡ changed n (with_part p) (stored_content old)
  content named =
      let places = distinct_places new (tables_of new it.schema it.sound) (texted_pieces _ _ rows) (placed_pieces _ _ rows) in
      let apart = distinct_texts old (tables_of_ours old ours) (texted_releases _ _ are.rows) in
      let bare : content_without_reasons new ≡ changed n (with_part p) (content_without_reasons old) = rw (same_releases, it.rows)
      (part_content n row (old.trees 1) (old.trees 3) named refl are.rows.are_releases apart it.free
      (subst (λ (l : List Row). (t : List ℕ) → IsDistinct same_first (map part_in (filter (is_of t) l))) it.rows places)) in
      rw (same_reasons, bare) (explained_changed (old.trees 5) n (with_part p) (λ r. refl) (λ r. refl) (content_without_reasons old))

pub adds_part : (n : Name) (p : Part) (old new : Database) → IsName (text_of n) n → IsLayout2 old → Puts piece (part_row n p old) old new
    → IsChanged (changed n (with_part p)) old new
adds_part n p old new named ours it = record {
  ours = still_ours old new ours (record { schema = it.schema; sound = it.sound; layout = it.others.0 zero_three });
  listed = listed n p old new ours it;
  content = λ are. content n p old new ours it are named;
}
