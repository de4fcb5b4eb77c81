use Rattle.std.proofs.lemmas.Result.{on_ok_weaker}
use Rattle.sqlite.specs.Held.{state}
use Rattle.feed_keep.specs.Shown.{shown}
use Rattle.feed_store_write.specs.Upgrading.{AreStored, explained_with}
use Rattle.feed_store_write.proofs.Inside.{both_inside, clean_before}
use Rattle.feed_store_write.proofs.Steps.{upgraded}
use Rattle.std.proofs.Common.{[], ◌∷◌}
use Rattle.feed_store_write.proofs.Ran.{runs_both, runs_then}
use Rattle.feed_store_write.specs.Texts.{reason_text, set_version_text}
use Rattle.feed_store_write.specs.Statements.{Plain, reasons_of}
use Rattle.feed_store_write.proofs.upgrading.upgrade_tables.Goals as goal

pub returns-clause-made : goal.returns-clause-made
returns-clause-made g c clean =
    let records = shown c.args.records.now in
    let old = state g.S.Store c.args.tx.now.conn.now in
    let first = state g.S.Store c.create_reason.new.tx.conn.now in
    let second = state g.S.Store c.set_layout_number.new.tx.conn.now in
    let last = state g.S.Store c.insert_reasons.new.tx.conn.now in
    let late = clean_before c.insert_reasons.ensures.inside clean in
    let early = clean_before c.set_layout_number.ensures.inside late in
    on_ok_weaker c.insert_reasons.result
    (upgraded (AreStored records) (explained_with records) old first second last (c.in_ok-create_reason.ensures.made early) (c.in_ok-set_layout_number.ensures.made late))
    (c.insert_reasons.ensures.made clean)

pub returns-in_err-set_layout_number-clause-inside : goal.returns-in_err-set_layout_number-clause-inside
returns-in_err-set_layout_number-clause-inside g c = both_inside c.create_reason.ensures.inside c.set_layout_number.ensures.inside

pub returns-clause-inside : goal.returns-clause-inside
returns-clause-inside g c = both_inside (both_inside c.create_reason.ensures.inside c.set_layout_number.ensures.inside) c.insert_reasons.ensures.inside

pub returns-clause-ran : goal.returns-clause-ran
returns-clause-ran g c clean =
    let old = c.args.tx.now.conn.now in
    let late = clean_before c.insert_reasons.ensures.inside clean in
    let early = clean_before c.set_layout_number.ensures.inside late in
    let two = runs_then g.S.Store (Plain reason_text ∷ []) (Plain set_version_text ∷ []) old c.create_reason.new.tx.conn.now c.set_layout_number.new.tx.conn.now
    (c.in_ok-create_reason.ensures.ran early) (c.in_ok-set_layout_number.ensures.ran late) in
    runs_both g.S.Store (Plain reason_text ∷ Plain set_version_text ∷ []) (reasons_of (shown c.args.records.now)) old c.set_layout_number.new.tx.conn.now
    c.insert_reasons.new.tx.conn.now c.insert_reasons.result two
    (c.insert_reasons.ensures.ran clean)
