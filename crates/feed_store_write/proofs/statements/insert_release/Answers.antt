use Rattle.std.proofs.Common.{refl, ◌≡◌, ◌≤◌, subst, List, ℕ, w32, to_z, of_z, FitsSigned, rules}
use Rattle.std.proofs.Math.Facts.{to_z-of_z}
use Rattle.std.specs.Prelude.{OnOk}
use Rattle.sqlite.specs.Held.{state}
use Rattle.sqlite.specs.State.{HasCleanDisk}
use Rattle.feed_names.specs.ReleaseName.{IsName, text_of}
use Rattle.feed_model.specs.Change.{insert_record}
use Rattle.feed_model.specs.Reply.{max_file}
use Rattle.feed_store_model.specs.Records.{bare}
use Rattle.feed_store_model.proofs.AddedRelease.{adds_release}
use Rattle.feed_store_write.specs.Effects.{IsContentChangeIf, IsRun}
use Rattle.feed_store_write.specs.Texts.{insert_release_text}
use Rattle.feed_store_write.proofs.Inserts.{puts_release}
use Rattle.feed_store_write.proofs.Inside.{made_by}
use Rattle.feed_store_write.proofs.Ran.{one_run}
use Rattle.feed_store_write.specs.Statements.{AddRelease, release_params}
use Rattle.feed_store_write.proofs.statements.insert_release.Given.{Over}
use Rattle.feed_store_write.proofs.statements.insert_release.Goals.{After-run}
use Rattle.feed_store_write.proofs.statements.insert_release.Goals as goal

-- the statement has run with the values of the release
has_run : (g : Over) (c : After-run g) → HasCleanDisk (state g.S.Store c.run.new.tx.conn.now)
    → OnOk c.run.result (IsRun insert_release_text (release_params c.args.name.now c.args.size c.args.value) (state g.S.Store c.args.tx.now.conn.now) (state g.S.Store c.run.new.tx.conn.now))
has_run g c clean =
    let inv = c.day.type_inv in
    let fits : FitsSigned w32 c.day.result = search rules in
    let day : to_z w32 (of_z w32 c.day.result) ≡ c.day.result = to_z-of_z fits in
    rw (
      c.as_text.ensures,
      c.as_text-2.ensures,
      c.to_sql.ensures,
      c.to_sql-2.ensures,
      c.to_sql-3.ensures,
      c.number_of.ensures,
      day,
      c.text.ensures.value,
      c.package.ensures.value,
      c.day.ensures,
    ) at (c.run.ensures.ran clean)

pub returns-clause-made : goal.returns-clause-made
returns-clause-made g c clean =
    let n = c.args.name.now in
    let size = c.args.size in
    let s = c.args.value in
    let old = state g.S.Store c.args.tx.now.conn.now in
    let new = state g.S.Store c.run.new.tx.conn.now in
    let named : IsName (text_of n) n = subst (λ (u : List ℕ). IsName u n) c.text.ensures.value c.text.ensures.name in
    made_by insert_release_text (release_params n size s) old new (IsContentChangeIf (size ≤ max_file) (insert_record (bare n size s))) c.run.result
    (λ count ran limit ours. adds_release n size s old.now new.now named limit ours (puts_release n size s old new count ours.schema ran))
    (has_run g (goal.at.returns-clause-made g c).After-run clean)

pub returns-clause-ran : goal.returns-clause-ran
returns-clause-ran g c clean =
    let n = c.args.name.now in
    one_run g.S.Store (AddRelease n c.args.size c.args.value) insert_release_text (release_params n c.args.size c.args.value) c.args.tx.now.conn.now c.run.new.tx.conn.now c.run.result (refl, refl)
    (has_run g (goal.at.returns-clause-ran g c).After-run clean)
