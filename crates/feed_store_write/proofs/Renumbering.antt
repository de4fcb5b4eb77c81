-- The effect of the statement that sets the layout's number.
use Rattle.std.proofs.Common.{◌≡◌, ◌==◌, cond, not, ℕ, List, [], ◌∷◌, map, filter, length, Bool, true, false, None, Ok, pos, IsPermutation, refl, sym, ap, subst, ◌∙◌}
use Rattle.sqlite_value.specs.declared.value.Value.TheVariants.{Null, Int}
use Rattle.sqlite_value.specs.Order.{Row}
use Rattle.sqlite_schema.specs.declared.schema.Keys.TheVariants.{Enforced}
use Rattle.sqlite_trees.specs.Tree.{Trees, rowid, put_row}
use Rattle.sqlite_rules.specs.declared.error.Rowids.TheVariants.{Given}
use Rattle.sqlite_rules.specs.Cast.{cast_row}
use Rattle.sqlite_rules.specs.Edit.{Edit, edit_of, edited, id_in, taken_by, without_all}
use Rattle.sqlite_rules.specs.Action.{works}
use Rattle.sqlite_rules.specs.Calls.{ids_of}
use Rattle.sqlite_sql.specs.Term.{eval_all}
use Rattle.sqlite.specs.Command.TheVariants as command
use Rattle.sqlite_tied.specs.Compute.{everything}
use Rattle.sqlite.specs.Listing.{understood}
use Rattle.sqlite.specs.Query.{Query, IsAnswer}
use Rattle.sqlite.specs.Program.{overlay}
use Rattle.sqlite.specs.Term.{col, lit}
use Rattle.sqlite.specs.Does.{Does}
use Rattle.sqlite.specs.Effect.{Database, IsDatabase}
use Rattle.sqlite.specs.State.{State, mode_of, Executes}
use Rattle.sqlite.proofs.Callers.{IsPlain, command_of, statement_of, runs_as, one_step, one_permutation}
use Rattle.feed_store_write.specs.Texts.{set_version_text}
use Rattle.feed_store_write.specs.Effects.{IsRenumbering}
use Rattle.feed_store_write.proofs.Runs.{edited_rows, picked, task_of}
use Rattle.feed_store_model.specs.Layout.{layout_2_schema, layout}
use Rattle.feed_store_model.specs.Tables.{AreReasons, version_row}
use Rattle.feed_store_model.proofs.Basics.{one_zero, three_zero, five_zero}
use Rattle.feed_store_model.proofs.Cascade.{key_is}
use Rattle.feed_store_model.proofs.Inserted.{cast_int, cast_null}
use Rattle.feed_store_model.proofs.Ours.{no_reasons}
use Rattle.feed_store_model.proofs.Explained.{unexplained}
use Rattle.feed_store_model.proofs.Rows.{IsKeyed, has_id, id_itself, table_query, answered}

-- the row of the layout, with the number 2
abbrev pub with_number_2 : Query
with_number_2 = table_query 0 [] (col 1 0 ∷ lit (Int (pos 2)) ∷ lit Null ∷ []) []

upgrade_is : command_of (understood layout_2_schema set_version_text) ≡ command.Update 0 (record { lets = []; body = with_number_2 })
unfolding understood everything
upgrade_is = refl

upgrade_plain : IsPlain (understood layout_2_schema set_version_text)
unfolding understood everything
upgrade_plain = (refl, refl)

-- nothing belongs to a row of the layout
no_work_by : (olds news : List Row) (b : Bool) → (length news == 0) ≡ b → works layout_2_schema Enforced 0 0 olds news ≡ []
no_work_by olds news true h = rw (h, key_is) refl
no_work_by olds news false h = rw h refl

no_work : (olds news : List Row) → works layout_2_schema Enforced 0 0 olds news ≡ []
no_work olds news = no_work_by olds news (length news == 0) refl

-- the row that the statement changes, and what it leaves
pub record Numbers (old new : Database) : Type 0 where
  pub schema : new.schema ≡ layout_2_schema
  pub sound : IsDatabase new
  pub rows : List Row
  pub picked : IsAnswer with_number_2 (overlay old.trees []) [] rows
  pub layout : new.trees 0 ≡ edited old.trees (edit_of old.trees layout (ids_of rows) Given 1 rows)
  pub releases : new.trees 1 ≡ old.trees 1
  pub pieces : new.trees 3 ≡ old.trees 3
  pub reasons : new.trees 5 ≡ old.trees 5

pub numbers : (old new : State) (count : ℕ) → old.now.schema ≡ layout_2_schema → Executes set_version_text [] old new (Ok count) → Numbers old.now new.now
numbers old new count has h =
    let command = command.Update 0 (record { lets = []; body = with_number_2 }) in
    let w = runs_as set_version_text [] old new layout_2_schema has command upgrade_is upgrade_plain count h in
    let text = statement_of set_version_text (understood layout_2_schema set_version_text) in
    let done = subst (λ s. Does old.step_limit (mode_of old) [] (record old.now { schema = s }) text None command (Ok (w.tally, new.now))) has w.changed in
    let edit : List Row → Edit = λ rows. edit_of old.now.trees layout (ids_of rows) Given 1 rows in
    let picks = picked old (record { lets = []; body = with_number_2 }) [] in
    let it = edited_rows (task_of old layout []) (mode_of old) picks edit (λ rows. (edit rows).news) old.now.trees w.tally new.now done in
    let step = one_step layout_2_schema _ old.now.trees new.now.trees (edit it.1) (no_work (taken_by old.now.trees (edit it.1)) (edit it.1).news) it.3 in
    record {
      schema = it.0;
      sound = w.sound;
      rows = it.1;
      picked = it.2.answer Null;
      layout = step.rows;
      releases = step.tables.1.0 one_zero;
      pieces = step.tables.1.1.0 three_zero;
      reasons = step.tables.1.1.1.0 five_zero;
    }

-- a layout of one row of the number 1 gets one of the number 2
renumbered : (old new : Database) → Numbers old new → map rowid (old.trees 0) ≡ Int (pos 1) ∷ [] → map rowid (new.trees 0) ≡ Int (pos 2) ∷ []
renumbered old new it one = by (old.trees 0) refl one
  where
    shows : Row → Row
    shows r = eval_all with_number_2.project ([] ∷ r ∷ [])

    by : (rows : List Row) → old.trees 0 ≡ rows → map rowid rows ≡ Int (pos 1) ∷ [] → map rowid (new.trees 0) ≡ Int (pos 2) ∷ []
    by [] e is = absurd (cc)
    by (r ∷ s ∷ rows) e is = absurd (cc)
    by (r ∷ []) e is =
        let id : rowid r ≡ Int (pos 1) = cc in
        let picked : IsPermutation (map (λ r. eval_all with_number_2.project ([] ∷ r ∷ [])) (r ∷ [])) it.rows =
        subst (λ l. IsPermutation (map (λ r. eval_all with_number_2.project ([] ∷ r ∷ [])) l) it.rows) (every (old.trees 0) ∙ e)
        (answered 0 [] with_number_2.project [] [] old.trees it.rows refl it.picked) in
        let just : it.rows ≡ (rowid r ∷ Int (pos 2) ∷ Null ∷ []) ∷ [] = one_permutation (rowid r ∷ Int (pos 2) ∷ Null ∷ []) it.rows picked in
        let keyed : IsKeyed r = rw id refl in
        let gone : without_all (old.trees 0) (id_in (rowid r) ∷ []) ≡ [] =
        ap (λ l. without_all l (id_in (rowid r) ∷ [])) e ∙ ap (λ (b : Bool). cond (not b) (r ∷ []) []) (has_id r r keyed ∙ id_itself r) in
        let written : cast_row layout (Int (pos 2) ∷ Null ∷ []) ≡ version_row 2 = rw (cast_int (pos 2), cast_null) refl in
        let made : new.trees 0 ≡ version_row 2 ∷ [] = it.layout ∙ ap (λ l. edited old.trees (edit_of old.trees layout (ids_of l) Given 1 l)) just
        ∙ ap (λ x. put_row x (without_all (old.trees 0) (id_in (rowid r) ∷ []))) written ∙ ap (put_row (version_row 2)) gone in
        ap (map rowid) made
      where
        every : (rows : List Row) → filter (λ r. true) rows ≡ rows
        every [] = refl
        every (r ∷ rows) = ap (λ l. r ∷ l) (every rows)

pub renumbers : (old new : State) (count : ℕ) → Executes set_version_text [] old new (Ok count) → IsRenumbering old.now new.now
renumbers old new count h first earlier extended =
    let it = numbers old new count extended.schema h in
    let five : new.now.trees 5 ≡ [] = it.reasons ∙ extended.reasons in
    let one : new.now.trees 1 ≡ first.trees 1 = it.releases ∙ extended.releases in
    let three : new.now.trees 3 ≡ first.trees 3 = it.pieces ∙ extended.pieces in
    record {
      ours = record {
        schema = it.schema;
        obeyed = it.sound;
        version = renumbered old.now new.now it (ap (map rowid) extended.layout ∙ earlier.version);
      };
      rows = (one, three);
      listed = λ are. record { rows = rw (one, three) are; reasons = subst AreReasons (sym five) no_reasons };
      content = λ are. rw (one, three, five) (unexplained (first.trees 3) (first.trees 1));
    }
