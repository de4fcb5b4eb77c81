-- The effect of deleting releases on the tables and on the content.
use Rattle.std.proofs.Common.{◌≡◌, ℤ, ℕ, List, [], ◌∷◌, filter, Bool, not, IsPermutation, refl, sym, subst}
use Rattle.std.proofs.lemmas.List.Sorted.{IsPermutation-map}
use Rattle.sqlite_value.specs.declared.value.Value.TheVariants.{Int, Text}
use Rattle.sqlite_value.specs.Order.{Row}
use Rattle.sqlite_trees.specs.Tree.{rowid}
use Rattle.sqlite_trees.proofs.ListLemmas.{map-map}
use Rattle.sqlite_rules.specs.Edit.{id_in}
use Rattle.sqlite_rules.specs.Calls.{ids_of}
use Rattle.sqlite.specs.Effect.{Database}
use Rattle.sqlite.specs.Query.{IsAnswer}
use Rattle.sqlite.specs.Program.{overlay}
use Rattle.feed_names.specs.ReleaseName.{Name}
use Rattle.feed_model.specs.Change.{without_earlier}
use Rattle.feed_store_model.specs.Tables.{AreReasons, IsChanged, HoldsRecords, IsLayout2, content_without_reasons, stored_content}
use Rattle.feed_store_model.proofs.Rows.{answered}
use Rattle.feed_store_model.proofs.Conditions.{earlier, goes}
use Rattle.feed_store_model.proofs.Cascade.{Cascade}
use Rattle.feed_store_model.proofs.Gone.{AreLeft, is_child, removed}
use Rattle.feed_store_model.proofs.Unique.{distinct_texts}
use Rattle.feed_store_model.proofs.Ours.{KeepsLayout, still_ours, tables_of_ours}
use Rattle.feed_store_model.proofs.Explained.{explained_dropped}
use Rattle.feed_store_model.proofs.Contents.{dropped, are_left, reasons_left, texted_releases, texted_pieces, texted_reasons}

-- the rows that the condition picks, and what their removal makes
pub record Deletes (package_name : List ℕ) (day : ℤ) (old new : Database) : Type 0 where
  pub keeps : KeepsLayout old new
  pub rows : List Row
  pub picked : IsAnswer earlier (overlay old.trees []) (Text package_name ∷ Int day ∷ []) rows
  pub cascade : Cascade old.trees new.trees (ids_of rows)

module _ (n : Name) (old new : Database) (ours : IsLayout2 old) (it : Deletes n.package_name n.day old new) (are : HoldsRecords old) where
  abbrev gone : Row → Bool
  gone = goes n.package_name n.day

  left : AreLeft gone old.trees new.trees
  left =
      let picked = answered 1 earlier.filter earlier.project [] (Text n.package_name ∷ Int n.day ∷ []) old.trees it.rows refl it.picked in
      let ids = IsPermutation-map (λ r. id_in (rowid r)) _ it.rows picked in
      removed gone old.trees new.trees (ids_of it.rows) (texted_releases _ _ are.rows) (texted_pieces _ _ are.rows) (texted_reasons _ are.reasons)
      (subst (λ xs. IsPermutation xs (ids_of it.rows)) (map-map (λ r. id_in (rowid r)) _ (filter gone (old.trees 1))) ids)
      it.cascade

  listed : HoldsRecords new
  listed = record {
    rows = rw (left.releases, left.pieces) (are_left (λ r. not (gone r)) (λ r. not (is_child gone (old.trees 1) r)) _ _ are.rows);
    reasons = subst AreReasons (sym left.reasons) (reasons_left (λ r. not (is_child gone (old.trees 1) r)) _ are.reasons);
  }

  content : stored_content new ≡ without_earlier n (stored_content old)
  content =
      let apart = distinct_texts old (tables_of_ours old ours) (texted_releases _ _ are.rows) in
      let bare : content_without_reasons new ≡ without_earlier n (content_without_reasons old) =
      rw (left.releases, left.pieces) (dropped n (old.trees 1) (old.trees 3) are.rows apart) in
      rw (left.reasons, bare) (explained_dropped n (old.trees 1) (old.trees 3) (old.trees 5) are.rows apart)

pub deletes_earlier : (n : Name) (old new : Database) → IsLayout2 old → Deletes n.package_name n.day old new → IsChanged (without_earlier n) old new
deletes_earlier n old new ours it = record {
  ours = still_ours old new ours it.keeps;
  listed = listed n old new ours it;
  content = content n old new ours it;
}
