-- The effect of the statement that sets a state.
use Rattle.std.proofs.Common.{◌≡◌, ℕ, ℤ, List, [], ◌∷◌, Bool, true, false, None}
use Rattle.std.proofs.Common.{Ok, refl, ◌==◌, length, suc, subst}
use Rattle.sqlite_value.specs.declared.value.Value.TheVariants.{Null, Int, Text}
use Rattle.sqlite_value.specs.Order.{Row}
use Rattle.sqlite_schema.specs.declared.schema.Keys.TheVariants.{Enforced}
use Rattle.sqlite_rules.specs.declared.error.Rowids.TheVariants.{Given}
use Rattle.sqlite_rules.specs.Edit.{Edit, edit_of, taken_by}
use Rattle.sqlite_rules.specs.Action.{works}
use Rattle.sqlite_rules.specs.Calls.{ids_of}
use Rattle.sqlite.specs.Command.TheVariants as command
use Rattle.sqlite.specs.Tree.{Trees}
use Rattle.sqlite.specs.Does.{Does}
use Rattle.sqlite_tied.specs.Compute.{everything}
use Rattle.sqlite.specs.Listing.{understood}
use Rattle.sqlite.specs.State.{State, mode_of, Executes}
use Rattle.sqlite.proofs.Callers.{IsPlain, command_of, statement_of, runs_as, one_step}
use Rattle.feed_store_write.specs.Texts.{set_state_text}
use Rattle.feed_store_model.specs.Layout.{layout_2_schema, release}
use Rattle.feed_store_write.proofs.Runs.{edited_rows, picked, task_of}
use Rattle.std.proofs.Math.Dec.{eqb-suc-zero}
use Rattle.feed_store_model.proofs.Basics.{zero_one, three_one, five_one}
use Rattle.feed_store_model.proofs.Cascade.{key_is}
use Rattle.feed_store_model.proofs.Conditions.{with_new_state}
use Rattle.feed_store_model.proofs.SetState.{Sets}

set_is : command_of (understood layout_2_schema set_state_text) ≡ command.Update 1 (record { lets = []; body = with_new_state })
unfolding understood everything
set_is = refl

set_plain : IsPlain (understood layout_2_schema set_state_text)
unfolding understood everything
set_plain = (refl, refl)

nonzero : (n : ℕ) → (suc n == 0) ≡ false
nonzero n = eqb-suc-zero n

no_work_by : (olds news : List Row) (b : Bool) → (length news == 0) ≡ b → (b ≡ true → olds ≡ []) → works layout_2_schema Enforced 0 1 olds news ≡ []
no_work_by olds news false h none = rw h refl
no_work_by olds news true h none = rw (h, key_is, none refl) refl

no_work : (db : Trees) (rows : List Row) → works layout_2_schema Enforced 0 1 (taken_by db (edit_of db release (ids_of rows) Given 1 rows)) (edit_of db release (ids_of rows) Given 1 rows).news ≡ []
no_work db [] = no_work_by _ (edit_of db release (ids_of []) Given 1 []).news true refl (λ _. refl)
no_work db (row ∷ rows) = no_work_by (taken_by db (edit_of db release (ids_of (row ∷ rows)) Given 1 (row ∷ rows)))
    (edit_of db release (ids_of (row ∷ rows)) Given 1 (row ∷ rows)).news false (nonzero _) (λ e. absurd (let f = e in cc))

pub sets : (old new : State) (name : List ℕ) (status : ℤ) (count : ℕ) → old.now.schema ≡ layout_2_schema → Executes set_state_text (Text name ∷ Int status ∷ []) old new (Ok count)
    → Sets name status old.now new.now
sets old new name status count has h =
    let params = Text name ∷ Int status ∷ [] in
    let command = command.Update 1 (record { lets = []; body = with_new_state }) in
    let w = runs_as set_state_text params old new layout_2_schema has command set_is set_plain count h in
    let text = statement_of set_state_text (understood layout_2_schema set_state_text) in
    let done = subst (λ s. Does old.step_limit (mode_of old) params (record old.now { schema = s }) text None command (Ok (w.tally, new.now))) has w.changed in
    let edit : List Row → Edit = λ rows. edit_of old.now.trees release (ids_of rows) Given 1 rows in
    let picks = picked old (record { lets = []; body = with_new_state }) params in
    let it = edited_rows (task_of old release params) (mode_of old) picks edit (λ rows. (edit rows).news) old.now.trees w.tally new.now done in
    let step = one_step layout_2_schema _ old.now.trees new.now.trees (edit it.1) (no_work old.now.trees it.1) it.3 in
    record {
      keeps = record { schema = it.0; sound = w.sound; layout = step.tables.0 zero_one };
      fresh = step.fresh;
      rows = it.1;
      picked = it.2.answer Null;
      releases = step.rows;
      pieces = step.tables.1.1.0 three_one;
      reasons = step.tables.1.1.1.0 five_one;
    }
