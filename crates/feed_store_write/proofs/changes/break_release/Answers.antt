use Rattle.std.proofs.lemmas.Result.{on_ok_weaker}
use Rattle.sqlite.specs.Held.{state}
use Rattle.feed_parts.specs.Shown.{shown_parts}
use Rattle.feed_store_write.proofs.Inside.{both_inside, clean_before}
use Rattle.feed_store_write.proofs.Sequence.{break_made}
use Rattle.std.proofs.Common.{[], ◌∷◌, ◌++◌, map}
use Rattle.feed_model.specs.declared.state.State.TheVariants.{Broken}
use Rattle.feed_store_write.specs.Statements.{AddPart, AddReason, SetState}
use Rattle.feed_store_write.proofs.Ran.{runs_both}
use Rattle.feed_store_write.proofs.changes.break_release.Goals as goal

pub returns-clause-made : goal.returns-clause-made
returns-clause-made g c clean =
    let early = clean_before c.insert_reason.ensures.inside clean in
    on_ok_weaker c.insert_reason.result (break_made c.args.name.now (shown_parts c.args.parts.now) c.args.why (state g.S.Store c.args.tx.now.conn.now)
    (state g.S.Store c.finish.new.tx.conn.now) (state g.S.Store c.insert_reason.new.tx.conn.now)
    (c.in_ok-finish.ensures.made early)) (c.insert_reason.ensures.made clean)

pub returns-clause-inside : goal.returns-clause-inside
returns-clause-inside g c = both_inside c.finish.ensures.inside c.insert_reason.ensures.inside

pub returns-clause-ran : goal.returns-clause-ran
returns-clause-ran g c clean =
    let n = c.args.name.now in
    runs_both g.S.Store (map (AddPart n) (shown_parts c.args.parts.now) ++ SetState n Broken ∷ []) (AddReason n c.args.why ∷ []) c.args.tx.now.conn.now c.finish.new.tx.conn.now
    c.insert_reason.new.tx.conn.now c.insert_reason.result
    (c.in_ok-finish.ensures.ran (clean_before c.insert_reason.ensures.inside clean)) (c.insert_reason.ensures.ran clean)
