use Rattle.std.proofs.Common.{refl, subst, pos, [], ◌∷◌, List, ℕ}
use Rattle.sqlite.specs.Held.{state}
use Rattle.sqlite_value.specs.declared.value.Value.TheVariants.{Int, Text}
use Rattle.feed_names.specs.ReleaseName.{IsName, text_of}
use Rattle.feed_model.specs.Change.{changed}
use Rattle.feed_store_model.specs.Records.{with_state}
use Rattle.feed_store_model.specs.Tables.{number_of}
use Rattle.feed_store_model.proofs.SetState.{sets_state}
use Rattle.feed_store_write.specs.Effects.{IsContentChange}
use Rattle.feed_store_write.specs.Texts.{set_state_text}
use Rattle.feed_store_write.proofs.Sets.{sets}
use Rattle.feed_store_write.proofs.Inside.{made_by}
use Rattle.feed_store_write.proofs.Ran.{one_run}
use Rattle.feed_store_write.specs.Statements.{SetState, state_params}
use Rattle.feed_store_write.proofs.statements.set_state.Goals as goal

pub returns-clause-made : goal.returns-clause-made
returns-clause-made g c clean =
    let n = c.args.name.now in
    let s = c.args.value in
    let old = state g.S.Store c.args.tx.now.conn.now in
    let new = state g.S.Store c.run.new.tx.conn.now in
    let named : IsName (text_of n) n = subst (λ (u : List ℕ). IsName u n) c.text.ensures.value c.text.ensures.name in
    made_by set_state_text (Text (text_of n) ∷ Int (pos (number_of s)) ∷ []) old new (IsContentChange (changed n (with_state s))) c.run.result
    (λ count ran ours. sets_state n s old.now new.now named ours (sets old new (text_of n) (pos (number_of s)) count ours.schema ran))
    (rw (c.as_text.ensures, c.to_sql.ensures, c.number_of.ensures, c.text.ensures.value) at (c.run.ensures.ran clean))

pub returns-clause-ran : goal.returns-clause-ran
returns-clause-ran g c clean =
    let n = c.args.name.now in
    one_run g.S.Store (SetState n c.args.value) set_state_text (state_params n c.args.value) c.args.tx.now.conn.now c.run.new.tx.conn.now c.run.result (refl, refl)
    (rw (c.as_text.ensures, c.to_sql.ensures, c.number_of.ensures, c.text.ensures.value) at (c.run.ensures.ran clean))
