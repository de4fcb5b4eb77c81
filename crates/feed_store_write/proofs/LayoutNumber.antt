-- The selection of the layout's number shows its table.
use Rattle.std.proofs.Common.{◌≡◌, ◌↔◌, ◌∙◌, ℕ, List, [], ◌∷◌, map, filter, codes, false, pos, length, IsPermutation, refl, sym, ap, subst, arith}
use Rattle.std.specs.List.{AllByRecursion}
use Rattle.std.proofs.lemmas.List.Sorted.{IsPermutation-sym, length_permutation}
use Rattle.sqlite_value.specs.declared.value.Value.TheVariants.{Int, Null}
use Rattle.sqlite_value.specs.Order.{Row}
use Rattle.sqlite_tied.specs.Compute.{everything}
use Rattle.sqlite_trees.specs.Tree.{rowid}
use Rattle.sqlite_trees.proofs.ListLemmas.{all-permutation}
use Rattle.sqlite_sql.specs.Program.{overlay}
use Rattle.sqlite_sql.specs.Query.{IsAnswer}
use Rattle.sqlite_sql.specs.Term.{col}
use Rattle.sqlite_schema.specs.declared.command.Command.TheVariants.{Select}
use Rattle.sqlite.specs.Listing.{understood, reads_listing}
use Rattle.sqlite.specs.State.{State, IsUnchanged, Shown}
use Rattle.sqlite.proofs.Callers.{IsPlain, command_of, reads_as}
use Rattle.sqlite.specs.Table.{Table}
use Rattle.sqlite_schema.specs.declared.schema.Index.{Index}
use Rattle.feed_store_model.specs.Layout.{schema_with}
use Rattle.feed_store_model.proofs.Rows.{table_query, passes, answered}
use Rattle.feed_store_write.specs.Texts.{select_version_text}

number_select : (more : List Table) (keys : List Index)
    → (command_of (understood (schema_with more keys) select_version_text) ≡ Select (record { lets = []; body = table_query 0 [] (col 1 0 ∷ []) [] }) (codes "version" ∷ []))
    × (reads_listing (schema_with more keys) select_version_text ≡ false)
unfolding understood everything
number_select more keys = (refl, refl)

number_plain : (more : List Table) (keys : List Index) → IsPlain (understood (schema_with more keys) select_version_text)
unfolding understood everything
number_plain more keys = (refl, refl)

-- a row of the answer is the number of a row alone
abbrev numbers : List Row → List Row
numbers rows = map (λ r. rowid r ∷ []) rows

numbered : (rows : List Row) → map (λ r. rowid r ∷ []) (filter (passes [] []) rows) ≡ numbers rows
numbered [] = refl
numbered (r ∷ rows) = ap (λ l. (rowid r ∷ []) ∷ l) (numbered rows)

shown_numbers : (more : List Table) (keys : List Index) (old new : State) (rows : List Row) → old.now.schema ≡ schema_with more keys
    → Shown select_version_text [] old new rows → IsPermutation (numbers (old.now.trees 0)) rows
shown_numbers more keys old new rows has h =
    let got = reads_as select_version_text [] old new (schema_with more keys) has _ (number_select more keys).0 (number_plain more keys) (number_select more keys).1 rows h in
    let a : IsAnswer (table_query 0 [] (col 1 0 ∷ []) []) (overlay old.now.trees []) [] rows = got.answer Null in
    subst (λ l. IsPermutation l rows) (numbered (old.now.trees 0)) (answered 0 [] (col 1 0 ∷ []) [] [] old.now.trees rows refl a)

-- a selection leaves the database as it was
unchanged : (more : List Table) (keys : List Index) (old new : State) (rows : List Row) → old.now.schema ≡ schema_with more keys → Shown select_version_text [] old new rows → IsUnchanged old new
unfolding Shown
unchanged more keys old new rows has h =
    let known = sym h.1.is ∙ ap (λ s. understood s select_version_text) has in
    let bare = subst IsPlain (sym known) (number_plain more keys) in
    (rw bare.0 at h.2).3

single : {X : Type 0} (xs : List X) (y : X) → length xs ≡ 1 → AllByRecursion (λ x. x ≡ y) xs → xs ≡ y ∷ []
single [] y n all = absurd (omega (arith, n))
single (x ∷ []) y n all = ap (λ z. z ∷ []) all.0
single (x ∷ z ∷ xs) y n all = absurd (omega (arith, n))

only : {X : Type 0} (xs : List X) (y : X) → IsPermutation xs (y ∷ []) → xs ≡ y ∷ []
only {X} xs y moved = single xs y (sym (length_permutation xs (y ∷ []) moved)) (all-permutation (λ x. x ≡ y) _ _ (IsPermutation-sym xs (y ∷ []) moved) (refl, tt))

ids_of : (k : ℕ) (rows : List Row) → numbers rows ≡ (Int (pos k) ∷ []) ∷ [] → map rowid rows ≡ Int (pos k) ∷ []
ids_of k [] e = cc
ids_of k (r ∷ []) e = cc
ids_of k (r ∷ s ∷ rows) e = cc

rows_of : (k : ℕ) (rows : List Row) → map rowid rows ≡ Int (pos k) ∷ [] → numbers rows ≡ (Int (pos k) ∷ []) ∷ []
rows_of k [] e = cc
rows_of k (r ∷ []) e = cc
rows_of k (r ∷ s ∷ rows) e = cc

pub number_told : (k : ℕ) (more : List Table) (keys : List Index) (old new : State) (rows : List Row) → Shown select_version_text [] old new rows
    → old.now.schema ≡ schema_with more keys
    → IsUnchanged old new × ((rows ≡ (Int (pos k) ∷ []) ∷ []) ↔ (map rowid (old.now.trees 0) ≡ Int (pos k) ∷ []))
number_told k more keys old new rows h has =
    let ids = old.now.trees 0 in
    let moved = shown_numbers more keys old new rows has h in
    let one : (rows ≡ (Int (pos k) ∷ []) ∷ []) → map rowid ids ≡ Int (pos k) ∷ [] =
    λ e. ids_of k ids (only (numbers ids) (Int (pos k) ∷ []) (subst (IsPermutation (numbers ids)) e moved)) in
    let row : map rowid ids ≡ Int (pos k) ∷ [] → rows ≡ (Int (pos k) ∷ []) ∷ [] =
    λ e. only rows (Int (pos k) ∷ []) (subst (IsPermutation rows) (rows_of k ids e) (IsPermutation-sym _ _ moved)) in
    (unchanged more keys old new rows has h, (one, row))
