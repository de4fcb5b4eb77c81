use Rattle.std.proofs.Common.{refl, ◌≡◌, [], ◌∷◌, w32, to_z, of_z, FitsSigned, rules}
use Rattle.std.proofs.Math.Facts.{to_z-of_z}
use Rattle.sqlite.specs.Held.{state}
use Rattle.sqlite_value.specs.declared.value.Value.TheVariants.{Int, Text}
use Rattle.feed_model.specs.Change.{without_earlier}
use Rattle.feed_store_model.proofs.DroppedReleases.{deletes_earlier}
use Rattle.feed_store_write.specs.Effects.{IsContentChange}
use Rattle.feed_store_write.specs.Texts.{delete_releases_text}
use Rattle.feed_store_write.proofs.Deletes.{deletes}
use Rattle.feed_store_write.proofs.Inside.{made_by}
use Rattle.feed_store_write.proofs.Ran.{one_run}
use Rattle.feed_store_write.specs.Statements.{DeleteEarlier, earlier_params}
use Rattle.feed_store_write.proofs.statements.delete_earlier.Goals as goal

pub returns-clause-made : goal.returns-clause-made
returns-clause-made g c clean =
    let n = c.args.name.now in
    let old = state g.S.Store c.args.tx.now.conn.now in
    let new = state g.S.Store c.run.new.tx.conn.now in
    let inv = c.day.type_inv in
    let fits : FitsSigned w32 c.day.result = search rules in
    let day : to_z w32 (of_z w32 c.day.result) ≡ c.day.result = to_z-of_z fits in
    made_by delete_releases_text (Text n.package_name ∷ Int n.day ∷ []) old new (IsContentChange (without_earlier n)) c.run.result
    (λ count ran ours. deletes_earlier n old.now new.now ours (deletes old new n.package_name n.day count ours.schema ran))
    (rw (c.as_text.ensures, c.to_sql.ensures, day, c.package.ensures.value, c.day.ensures) at (c.run.ensures.ran clean))

pub returns-clause-ran : goal.returns-clause-ran
returns-clause-ran g c clean =
    let n = c.args.name.now in
    let inv = c.day.type_inv in
    let fits : FitsSigned w32 c.day.result = search rules in
    let day : to_z w32 (of_z w32 c.day.result) ≡ c.day.result = to_z-of_z fits in
    one_run g.S.Store (DeleteEarlier n) delete_releases_text (earlier_params n) c.args.tx.now.conn.now c.run.new.tx.conn.now c.run.result (refl, refl)
    (rw (c.as_text.ensures, c.to_sql.ensures, day, c.package.ensures.value, c.day.ensures) at (c.run.ensures.ran clean))
