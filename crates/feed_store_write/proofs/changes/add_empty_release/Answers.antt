use Rattle.std.proofs.lemmas.Result.{on_ok_weaker}
use Rattle.std.proofs.Common.{[], ◌∷◌}
use Rattle.feed_kbart.specs.declared.fault.BadFile.TheVariants.{NoHeader}
use Rattle.feed_model.specs.declared.state.State.TheVariants.{Broken}
use Rattle.sqlite.specs.Held.{state}
use Rattle.feed_store_write.proofs.Inside.{both_inside, clean_before}
use Rattle.feed_store_write.proofs.Sequence.{empty_made}
use Rattle.feed_store_write.proofs.Ran.{runs_both}
use Rattle.feed_store_write.specs.Statements.{AddReason, AddRelease}
use Rattle.feed_store_write.proofs.changes.add_empty_release.Goals as goal

pub returns-clause-made : goal.returns-clause-made
returns-clause-made g c clean =
    let early = clean_before c.insert_reason.ensures.inside clean in
    on_ok_weaker c.insert_reason.result (empty_made c.args.name.now (state g.S.Store c.args.tx.now.conn.now) (state g.S.Store c.insert_release.new.tx.conn.now)
    (state g.S.Store c.insert_reason.new.tx.conn.now) (c.in_ok-insert_release.ensures.made early)) (c.insert_reason.ensures.made clean)

pub returns-clause-inside : goal.returns-clause-inside
returns-clause-inside g c = both_inside c.insert_release.ensures.inside c.insert_reason.ensures.inside

pub returns-clause-ran : goal.returns-clause-ran
returns-clause-ran g c clean =
    runs_both g.S.Store (AddRelease c.args.name.now 0 Broken ∷ []) (AddReason c.args.name.now NoHeader ∷ []) c.args.tx.now.conn.now
    c.insert_release.new.tx.conn.now c.insert_reason.new.tx.conn.now c.insert_reason.result
    (c.in_ok-insert_release.ensures.ran (clean_before c.insert_reason.ensures.inside clean)) (c.insert_reason.ensures.ran clean)
