-- The answers of the selections.
use Rattle.std.proofs.Common.{◌≡◌, ℕ, List, [], ◌∷◌, map, filter, length, false, IfOk, IsPermutation, refl, ap, subst, ◌∙◌, codes, arith}
use Rattle.std.specs.List.{AllByRecursion}
use Rattle.std.specs.List.Sorted.{IsSorted}
use Rattle.std.specs.Ordering.{on}
use Rattle.sqlite_value.specs.declared.value.Value.TheVariants.{Null}
use Rattle.sqlite_value.specs.declared.keys.Key.{Key}
use Rattle.sqlite_value.specs.Order.{Row}
use Rattle.sqlite_tied.specs.Compute.{everything}
use Rattle.sqlite_sql.specs.Query.{IsAnswer, key_cmp}
use Rattle.sqlite_sql.specs.Program.{overlay}
use Rattle.sqlite_sql.specs.Term.{Term, col, eval_all}
use Rattle.sqlite_schema.specs.declared.command.Command.TheVariants.{Select}
use Rattle.sqlite_resolve.specs.Compile.{first}
use Rattle.sqlite.specs.Listing.{understood, reads_listing}
use Rattle.sqlite.specs.State.{State, Shown}
use Rattle.sqlite.proofs.Callers.{IsPlain, command_of, reads_as}
use Rattle.sqlite.specs.Table.{Table}
use Rattle.sqlite_schema.specs.declared.schema.Index.{Index}
use Rattle.feed_store_model.specs.Layout.{schema_with}
use Rattle.feed_store_model.specs.Tables.{HasTables}
use Rattle.feed_store_model.proofs.ReadOnly.{IsRead}
use Rattle.feed_store_model.proofs.Rows.{table_query, passes, answered}
use Rattle.feed_store_read.specs.Texts.{releases_text, pieces_text}
use Rattle.feed_store_read.proofs.InOrder.{in_order, key, name_key, place_key}
use Rattle.feed_store_read.proofs.Widths.{release_widths, piece_widths}

releases_plain : (more : List Table) (keys : List Index) → IsPlain (understood (schema_with more keys) releases_text)
unfolding understood everything
releases_plain more keys = (refl, refl)

pieces_plain : (more : List Table) (keys : List Index) → IsPlain (understood (schema_with more keys) pieces_text)
unfolding understood everything
pieces_plain more keys = (refl, refl)

-- no selection changes a row, whatever tables there are
pub releases_read : IfOk (first releases_text) IsRead
unfolding everything
releases_read = λ schema. (refl, λ base. refl)

pub pieces_read : IfOk (first pieces_text) IsRead
unfolding everything
pieces_read = λ schema. (refl, λ base. refl)

abbrev pub release_terms : List Term
release_terms = col 1 0 ∷ col 1 1 ∷ col 1 2 ∷ col 1 3 ∷ col 1 4 ∷ col 1 5 ∷ []

abbrev pub by_name : List (Term × Key)
by_name = (col 1 1, key) ∷ []

abbrev pub release_heads : List (List ℕ)
release_heads = codes "rowid" ∷ codes "name" ∷ codes "package" ∷ codes "day" ∷ codes "size" ∷ codes "state" ∷ []

pub releases_select : (more : List Table) (keys : List Index)
    → (command_of (understood (schema_with more keys) releases_text) ≡ Select (record { lets = []; body = table_query 1 [] release_terms by_name }) release_heads)
    × (reads_listing (schema_with more keys) releases_text ≡ false)
unfolding understood everything
releases_select more keys = (refl, refl)

abbrev pub piece_terms : List Term
piece_terms = col 1 0 ∷ col 1 1 ∷ col 1 2 ∷ col 1 3 ∷ []

abbrev pub by_place : List (Term × Key)
by_place = (col 1 1, key) ∷ (col 1 2, key) ∷ []

abbrev pub piece_heads : List (List ℕ)
piece_heads = codes "rowid" ∷ codes "name" ∷ codes "place" ∷ codes "bytes" ∷ []

pub pieces_select : (more : List Table) (keys : List Index)
    → (command_of (understood (schema_with more keys) pieces_text) ≡ Select (record { lets = []; body = table_query 3 [] piece_terms by_place }) piece_heads)
    × (reads_listing (schema_with more keys) pieces_text ≡ false)
unfolding understood everything
pieces_select more keys = (refl, refl)

pub all_kept : (rows : List Row) → filter (passes [] []) rows ≡ rows
all_kept [] = refl
all_kept (r ∷ rows) = ap (λ l. r ∷ l) (all_kept rows)

-- ---- rows of a known width are their columns

six : (row : Row) → length row ≡ 6 → eval_all release_terms ([] ∷ row ∷ []) ≡ row
six [] n = absurd (omega arith)
six (a ∷ []) n = absurd (omega arith)
six (a ∷ b ∷ []) n = absurd (omega arith)
six (a ∷ b ∷ c ∷ []) n = absurd (omega arith)
six (a ∷ b ∷ c ∷ d ∷ []) n = absurd (omega arith)
six (a ∷ b ∷ c ∷ d ∷ e ∷ []) n = absurd (omega arith)
six (a ∷ b ∷ c ∷ d ∷ e ∷ f ∷ []) n = refl
six (a ∷ b ∷ c ∷ d ∷ e ∷ f ∷ g ∷ more) n = absurd (omega arith)

pub four : (row : Row) → length row ≡ 4 → eval_all piece_terms ([] ∷ row ∷ []) ≡ row
four [] n = absurd (omega arith)
four (a ∷ []) n = absurd (omega arith)
four (a ∷ b ∷ []) n = absurd (omega arith)
four (a ∷ b ∷ c ∷ []) n = absurd (omega arith)
four (a ∷ b ∷ c ∷ d ∷ []) n = refl
four (a ∷ b ∷ c ∷ d ∷ e ∷ more) n = absurd (omega arith)

pub all_same : (f : Row → Row) (n : ℕ) → ((row : Row) → length row ≡ n → f row ≡ row) → (rows : List Row) → AllByRecursion (λ row. length row ≡ n) rows → map f rows ≡ rows
all_same f n same [] all = refl
all_same f n same (r ∷ rows) all = ap (λ (x : Row). x ∷ map f rows) (same r all.0) ∙ ap (λ l. r ∷ l) (all_same f n same rows all.1)

-- ---- the rows of the answers are those of the tables

pub releases_shown : (old new : State) (rows : List Row) → HasTables old.now → Shown releases_text [] old new rows → IsPermutation (old.now.trees 1) rows
releases_shown old new rows has h =
    let is = releases_select has.more has.keys in
    let got = reads_as releases_text [] old new (schema_with has.more has.keys) has.schema _ is.0 (releases_plain has.more has.keys) is.1 rows h in
    let a : IsAnswer (table_query 1 [] release_terms by_name) (overlay old.now.trees []) [] rows = got.answer Null in
    let moved = answered 1 [] release_terms by_name [] old.now.trees rows refl a in
    let show : Row → Row = λ r. eval_all release_terms ([] ∷ r ∷ []) in
    subst (λ l. IsPermutation l rows) (ap (map show) (all_kept (old.now.trees 1)) ∙ all_same show 6 six (old.now.trees 1) (release_widths old.now has)) moved

-- and they are in the order of their names
pub releases_order : (old new : State) (rows : List Row) → HasTables old.now → Shown releases_text [] old new rows → IsSorted (on name_key (key_cmp 0 (key ∷ []))) rows
releases_order old new rows has h =
    let is = releases_select has.more has.keys in
    let got = reads_as releases_text [] old new (schema_with has.more has.keys) has.schema _ is.0 (releases_plain has.more has.keys) is.1 rows h in
    in_order 1 release_terms by_name name_key (λ r. refl) old.now.trees rows (got.answer Null)

pub pieces_shown : (old new : State) (rows : List Row) → HasTables old.now → Shown pieces_text [] old new rows → IsPermutation (old.now.trees 3) rows
pieces_shown old new rows has h =
    let is = pieces_select has.more has.keys in
    let got = reads_as pieces_text [] old new (schema_with has.more has.keys) has.schema _ is.0 (pieces_plain has.more has.keys) is.1 rows h in
    let a : IsAnswer (table_query 3 [] piece_terms by_place) (overlay old.now.trees []) [] rows = got.answer Null in
    let moved = answered 3 [] piece_terms by_place [] old.now.trees rows refl a in
    let show : Row → Row = λ r. eval_all piece_terms ([] ∷ r ∷ []) in
    subst (λ l. IsPermutation l rows) (ap (map show) (all_kept (old.now.trees 3)) ∙ all_same show 4 four (old.now.trees 3) (piece_widths old.now has)) moved

-- and they are in the order of their names and places
pub pieces_order : (old new : State) (rows : List Row) → HasTables old.now → Shown pieces_text [] old new rows → IsSorted (on place_key (key_cmp 0 (key ∷ key ∷ []))) rows
pieces_order old new rows has h =
    let is = pieces_select has.more has.keys in
    let got = reads_as pieces_text [] old new (schema_with has.more has.keys) has.schema _ is.0 (pieces_plain has.more has.keys) is.1 rows h in
    in_order 3 piece_terms by_place place_key (λ r. refl) old.now.trees rows (got.answer Null)
