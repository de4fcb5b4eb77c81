-- The content does not depend on the order of the rows.
use Rattle.std.proofs.Common.{◌≡◌, ℕ, List, map, filter, IsPermutation, sym, ap, ◌∙◌}
use Rattle.std.proofs.lemmas.List.Sorted.{IsPermutation-map}
use Rattle.sqlite_value.specs.Order.{Row}
use Rattle.sqlite_trees.proofs.ListLemmas.{IsPermutation-filter}
use Rattle.sqlite_rules.proofs.ListLemmas.{all_from}
use Rattle.sqlite.specs.Effect.{Database}
use Rattle.feed_model.specs.Content.{Part, Record}
use Rattle.feed_store_model.specs.Tables.{HasTables, HoldsReleases, HoldsRecords, IsLayout2, content_without_reasons, stored_content, explained, is_of, part_in, parts_in, record_in, sorted, text_in}
use Rattle.feed_store_model.proofs.Insertion.{sort_moved}
use Rattle.feed_store_model.proofs.Order.{same_first, part_stops, part_laws, parts_sort, same_text, record_stops, record_laws, records_sort}
use Rattle.feed_store_model.proofs.Unique.{distinct_texts, distinct_places, distinct_reasons}
use Rattle.feed_store_model.proofs.Contents.{distinct_records, map_same, texted_releases, texted_pieces, texted_reasons}
use Rattle.feed_store_model.proofs.Ours.{tables_of_ours}
use Rattle.feed_store_model.proofs.Explained.{explained_same, reason_moved}
use Rattle.feed_store_model.proofs.AddedPart.{placed_pieces}

module _ (one other : Database) (has : HasTables one) (are : HoldsReleases one) (moved : IsPermutation (one.trees 1) (other.trees 1))
    (parts_moved : IsPermutation (one.trees 3) (other.trees 3)) where
  same_parts : (text : List ℕ) → parts_in (one.trees 3) text ≡ parts_in (other.trees 3) text
  same_parts text =
      let mine : (pieces : List Row) → List Part = λ pieces. map part_in (filter (is_of text) pieces) in
      let places = distinct_places one has (texted_pieces _ _ are) (placed_pieces _ _ are) text in
      parts_sort (mine (one.trees 3))
      ∙ sort_moved same_first part_stops part_laws (mine (one.trees 3)) (mine (other.trees 3))
      (IsPermutation-map part_in _ _ (IsPermutation-filter (is_of text) (one.trees 3) (other.trees 3) parts_moved)) places
      ∙ sym (parts_sort (mine (other.trees 3)))

  same_record : (row : Row) → record_in (one.trees 3) row ≡ record_in (other.trees 3) row
  same_record row = ap (λ (ps : List Part). let x : Record = record (record_in (one.trees 3) row) { parts = ps } in x) (same_parts (text_in row))

  -- without reasons
  pub any_rows : content_without_reasons one ≡ content_without_reasons other
  any_rows =
      let texts = distinct_texts one has (texted_releases _ _ are) in
      let f = record_in (one.trees 3) in
      records_sort (map f (one.trees 1))
      ∙ sort_moved same_text record_stops record_laws (map f (one.trees 1)) (map f (other.trees 1))
      (IsPermutation-map f (one.trees 1) (other.trees 1) moved) (distinct_records (one.trees 3) (one.trees 1) are.are_releases texts)
      ∙ sym (records_sort (map f (other.trees 1)))
      ∙ ap sorted (map_same f (record_in (other.trees 3)) (other.trees 1) (all_from _ (other.trees 1) (λ r h. same_record r)))

pub any_order : (one other : Database) → IsLayout2 one → HoldsRecords one → IsPermutation (one.trees 1) (other.trees 1) → IsPermutation (one.trees 3) (other.trees 3)
    → IsPermutation (one.trees 5) (other.trees 5) → stored_content one ≡ stored_content other
any_order one other ours are moved parts_moved reasons_moved =
    let texts = distinct_reasons one ours.schema ours.obeyed (texted_reasons _ are.reasons) in
    ap (explained (one.trees 5)) (any_rows one other (tables_of_ours one ours) are.rows moved parts_moved)
    ∙ explained_same (one.trees 5) (other.trees 5) (λ t. reason_moved (one.trees 5) (other.trees 5) t texts reasons_moved) (content_without_reasons other)
