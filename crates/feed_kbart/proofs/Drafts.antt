-- The rows of a store stay as they are, whatever is added.
use Rattle.std.proofs.Common.{◌≡◌, ◌<◌, ◌+◌, ◌∙◌, ℕ, Bool, true, false, List, [], ◌∷◌, ◌++◌, length, take, drop, get_or, map, Option, None, sym, ap, append_assoc}
use Rattle.std.specs.List.{All, flat_map}
use Rattle.std.proofs.lemmas.List.{append-nil, drop_more, map-append}
use Rattle.std.proofs.lemmas.List.Concat.{flat_map-append}
use Rattle.std.proofs.lemmas.List.Elements.{All-append, All-map}
use Rattle.feed_kbart.specs.Columns.{cell}
use Rattle.feed_kbart.specs.RowValue.{RowValue}
use Rattle.feed_kbart.specs.Rows.{row_of}
use Rattle.feed_kbart.specs.Store.{AreStored, row_in, stored_rows}
use Rattle.feed_kbart.specs.Stored.{IsShort, cells_of, in_order, kept_cells, kept_text, parsed_count, text_bytes}
use Rattle.feed_kbart.specs.declared.header.Columns.{Columns}
use Rattle.feed_kbart.specs.declared.row_store.Draft.{Draft}
use Rattle.feed_kbart.specs.declared.row_store.RowStore.{RowStore}
use Rattle.feed_kbart.proofs.Stored.{row_stored}

-- the drafts become rows
pub sealed : (rows : List RowValue) (old new : RowStore) → new.rows.items ≡ stored_rows old → new.block.items ≡ [] → new.drafts.items ≡ []
    → AreStored rows old → AreStored rows new
sealed rows old new made emptied none are more =
    rw (none, made, append-nil (stored_rows old)) (rw (append-nil old.block.items) at (are []))

-- the text of the next column comes after the others
pub put_next : (text : Option ℕ → List ℕ) (columns : List (Option ℕ)) (i : ℕ) (old block next : List ℕ) → i < length columns
    → block ++ flat_map text_bytes (map text (drop i columns)) ≡ old ++ flat_map text_bytes (map text columns)
    → next ≡ block ++ text_bytes (text (get_or columns i None))
    → next ++ flat_map text_bytes (map text (drop (i + 1) columns)) ≡ old ++ flat_map text_bytes (map text columns)
put_next text columns i old block next within all added =
    let own = text_bytes (text (get_or columns i None)) in
    let rest = flat_map text_bytes (map text (drop (i + 1) columns)) in
    rw added (append_assoc block own rest ∙ rw (drop_more columns i None within) at all)

-- the cells in these columns as they are kept
abbrev pub kept_in : Bool → List (List ℕ) → List (Option ℕ) → List (List ℕ)
kept_in is_parsed fields columns = map (λ column. kept_text is_parsed (cell column fields)) columns

-- first the cells that are only parsed, and then the others
pub put_both : (columns : Columns) (fields : List (List ℕ)) (old front new : List ℕ)
    → front ≡ old ++ flat_map text_bytes (kept_in true fields (take parsed_count (in_order columns)))
    → new ≡ front ++ flat_map text_bytes (kept_in false fields (drop parsed_count (in_order columns)))
    → new ≡ old ++ flat_map text_bytes (kept_cells (cells_of columns fields))
put_both columns fields old front new first others =
    let parsed = kept_in true fields (take parsed_count (in_order columns)) in
    let shown = kept_in false fields (drop parsed_count (in_order columns)) in
    others ∙ ap (λ l. l ++ flat_map text_bytes shown) first ∙ append_assoc old (flat_map text_bytes parsed) (flat_map text_bytes shown)
    ∙ ap (λ l. old ++ l) (sym (flat_map-append text_bytes parsed shown))

-- and each is short
pub short_both : (columns : Columns) (fields : List (List ℕ))
    → All (λ column. IsShort (kept_text true (cell column fields))) (take parsed_count (in_order columns))
    → All (λ column. IsShort (kept_text false (cell column fields))) (drop parsed_count (in_order columns))
    → All IsShort (kept_cells (cells_of columns fields))
short_both columns fields first others =
    let parsed = take parsed_count (in_order columns) in
    let shown = drop parsed_count (in_order columns) in
    All-append IsShort (kept_in true fields parsed) (kept_in false fields shown)
    (All-map IsShort (λ column. kept_text true (cell column fields)) parsed first) (All-map IsShort (λ column. kept_text false (cell column fields)) shown others)

-- a draft is the next row
pub drafted : (rows : List RowValue) (store : RowStore) (start : ℕ) (columns : Columns) (number : ℕ) (fields : List (List ℕ)) → start ≡ length store.block.items
    → AreStored rows store
    → All IsShort (kept_cells (cells_of columns fields)) → (more : List ℕ)
    → store.rows.items ++ map (row_in ((store.block.items ++ flat_map text_bytes (kept_cells (cells_of columns fields))) ++ more))
    (store.drafts.items ++ record { start = start; number = number } ∷ []) ≡ rows ++ row_of columns number fields ∷ []
drafted rows store start columns number fields from are short more =
    let cells = flat_map text_bytes (kept_cells (cells_of columns fields)) in
    let block = store.block.items in
    let own = row_in ((block ++ cells) ++ more) in
    let draft : Draft = record { start = start; number = number } in
    ap (λ added. store.rows.items ++ added) (map-append own store.drafts.items (draft ∷ []))
    ∙ sym (append_assoc store.rows.items (map own store.drafts.items) (own draft ∷ []))
    ∙ ap (λ before. before ++ own draft ∷ []) (rw (← append_assoc block cells more) at (are (cells ++ more)))
    ∙ ap (λ row. rows ++ row ∷ []) (ap (λ place. row_in ((block ++ cells) ++ more) (record { start = place; number = number })) from ∙ row_stored block more columns number fields short)
