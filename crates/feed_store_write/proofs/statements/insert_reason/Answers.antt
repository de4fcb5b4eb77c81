use Rattle.std.proofs.Common.{refl, subst, List, ℕ}
use Rattle.sqlite.specs.Held.{state}
use Rattle.feed_names.specs.ReleaseName.{IsName, text_of}
use Rattle.feed_model.specs.Change.{changed}
use Rattle.feed_store_model.specs.Records.{with_reason}
use Rattle.feed_store_model.specs.Tables.{IsStored}
use Rattle.feed_store_model.proofs.AddedReason.{adds_reason}
use Rattle.feed_store_model.proofs.Basics.{one_five, three_five}
use Rattle.feed_store_write.specs.Effects.{IsReasonChangeIf}
use Rattle.feed_store_write.specs.Texts.{insert_reason_text}
use Rattle.feed_store_write.proofs.Inserts.{puts_reason}
use Rattle.feed_store_write.proofs.Inside.{made_by}
use Rattle.feed_store_write.proofs.Ran.{one_run}
use Rattle.feed_store_write.specs.Statements.{AddReason, reason_params}
use Rattle.feed_store_write.proofs.statements.insert_reason.Goals as goal

pub returns-clause-made : goal.returns-clause-made
returns-clause-made g c clean =
    let n = c.args.name.now in
    let why = c.args.why in
    let number = c.numbers_of-number.result.0 in
    let place = c.numbers_of-number.result.1 in
    let old = state g.S.Store c.args.tx.now.conn.now in
    let new = state g.S.Store c.run.new.tx.conn.now in
    let named : IsName (text_of n) n = subst (λ (u : List ℕ). IsName u n) c.text.ensures.value c.text.ensures.name in
    made_by insert_reason_text (reason_params n number place) old new (IsReasonChangeIf (IsStored why) (changed n (with_reason why))) c.run.result
    (λ count ran stored ours.
    let put = puts_reason n number place old new count ours.schema ran in
    (adds_reason n number place why old.now new.now named (c.numbers_of-number.ensures stored) ours put, (put.others.1.0 one_five, put.others.1.1.0 three_five)))
    (rw (c.as_text.ensures, c.to_sql.ensures, c.to_sql-2.ensures, c.text.ensures.value) at (c.run.ensures.ran clean))

pub returns-clause-ran : goal.returns-clause-ran
returns-clause-ran g c clean =
    let n = c.args.name.now in
    let number = c.numbers_of-number.result.0 in
    let place = c.numbers_of-number.result.1 in
    one_run g.S.Store (AddReason n c.args.why) insert_reason_text (reason_params n number place) c.args.tx.now.conn.now c.run.new.tx.conn.now c.run.result
    (refl, number, place, refl, c.numbers_of-number.ensures)
    (rw (c.as_text.ensures, c.to_sql.ensures, c.to_sql-2.ensures, c.text.ensures.value) at (c.run.ensures.ran clean))
