use Rattle.std.proofs.lemmas.Result.{on_ok_weaker}
use Rattle.sqlite.specs.Held.{state}
use Rattle.feed_parts.specs.Shown.{shown_parts}
use Rattle.feed_store_write.proofs.Inside.{both_inside, clean_before}
use Rattle.feed_store_write.proofs.Sequence.{parts_then_state}
use Rattle.std.proofs.Common.{[], ◌∷◌, map}
use Rattle.feed_store_write.specs.Statements.{AddPart, SetState}
use Rattle.feed_store_write.proofs.Ran.{runs_both}
use Rattle.feed_store_write.proofs.changes.finish.Goals as goal

pub returns-clause-made : goal.returns-clause-made
returns-clause-made g c clean =
    let early = clean_before c.set_state.ensures.inside clean in
    on_ok_weaker c.set_state.result (parts_then_state c.args.name.now (shown_parts c.args.parts.now) c.args.value (state g.S.Store c.args.tx.now.conn.now)
    (state g.S.Store c.insert_parts.new.tx.conn.now) (state g.S.Store c.set_state.new.tx.conn.now)
    (c.in_ok-insert_parts.ensures.made early)) (c.set_state.ensures.made clean)

pub returns-clause-inside : goal.returns-clause-inside
returns-clause-inside g c = both_inside c.insert_parts.ensures.inside c.set_state.ensures.inside

pub returns-clause-ran : goal.returns-clause-ran
returns-clause-ran g c clean =
    runs_both g.S.Store (map (AddPart c.args.name.now) (shown_parts c.args.parts.now)) (SetState c.args.name.now c.args.value ∷ []) c.args.tx.now.conn.now
    c.insert_parts.new.tx.conn.now c.set_state.new.tx.conn.now c.set_state.result
    (c.in_ok-insert_parts.ensures.ran (clean_before c.set_state.ensures.inside clean)) (c.set_state.ensures.ran clean)
