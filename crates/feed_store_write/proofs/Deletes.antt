-- The effect of the statement that deletes releases.
use Rattle.std.proofs.Common.{◌≡◌, ℕ, ℤ, List, [], ◌∷◌, None, Ok, refl, subst}
use Rattle.sqlite_value.specs.declared.value.Value.TheVariants.{Null, Int, Text}
use Rattle.sqlite_value.specs.Order.{Row}
use Rattle.sqlite_rules.specs.declared.error.Rowids.TheVariants.{Given}
use Rattle.sqlite_rules.specs.Calls.{ids_of}
use Rattle.sqlite_rules.specs.Edit.{Edit, edit_of, taken_by}
use Rattle.sqlite_tied.specs.Compute.{everything}
use Rattle.sqlite.specs.Listing.{understood}
use Rattle.sqlite.specs.Command.TheVariants as command
use Rattle.sqlite.specs.Does.{Does}
use Rattle.sqlite.specs.State.{State, mode_of, Executes}
use Rattle.sqlite.proofs.Callers.{IsPlain, command_of, statement_of, runs_as}
use Rattle.feed_store_model.specs.Layout.{layout_2_schema, release}
use Rattle.feed_store_model.proofs.Cascade.{cascades, layout_left}
use Rattle.feed_store_model.proofs.Conditions.{earlier}
use Rattle.feed_store_model.proofs.DroppedReleases.{Deletes}
use Rattle.feed_store_write.specs.Texts.{delete_releases_text}
use Rattle.feed_store_write.proofs.Runs.{edited_rows, picked, task_of}

delete_is : command_of (understood layout_2_schema delete_releases_text) ≡ command.Delete 1 (record { lets = []; body = earlier })
unfolding understood everything
delete_is = refl

delete_plain : IsPlain (understood layout_2_schema delete_releases_text)
unfolding understood everything
delete_plain = (refl, refl)

pub deletes : (old new : State) (package_name : List ℕ) (day : ℤ) (count : ℕ) → old.now.schema ≡ layout_2_schema
    → Executes delete_releases_text (Text package_name ∷ Int day ∷ []) old new (Ok count) → Deletes package_name day old.now new.now
deletes old new package_name day count has h =
    let params = Text package_name ∷ Int day ∷ [] in
    let command = command.Delete 1 (record { lets = []; body = earlier }) in
    let w = runs_as delete_releases_text params old new layout_2_schema has command delete_is delete_plain count h in
    let text = statement_of delete_releases_text (understood layout_2_schema delete_releases_text) in
    let done = subst (λ s. Does old.step_limit (mode_of old) params (record old.now { schema = s }) text None command (Ok (w.tally, new.now))) has w.changed in
    let edit : List Row → Edit = λ rows. edit_of old.now.trees release (ids_of rows) Given 0 [] in
    let picks = picked old (record { lets = []; body = earlier }) params in
    let it = edited_rows (task_of old release params) (mode_of old) picks edit (λ rows. taken_by old.now.trees (edit rows)) old.now.trees w.tally new.now done in
    let cascade = cascades old.now.trees new.now.trees (ids_of it.1) it.3 in
    record {
      keeps = record { schema = it.0; sound = w.sound; layout = layout_left old.now.trees new.now.trees (ids_of it.1) cascade };
      rows = it.1;
      picked = it.2.answer Null;
      cascade = cascade;
    }
