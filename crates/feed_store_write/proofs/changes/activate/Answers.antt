use Rattle.std.proofs.Common.{refl}
use Rattle.std.proofs.lemmas.Result.{on_ok_weaker}
use Rattle.sqlite.specs.Held.{state}
use Rattle.feed_parts.specs.Shown.{shown_parts}
use Rattle.feed_model.specs.declared.state.State.TheVariants.{Active}
use Rattle.feed_model.specs.Change.{changed, grown, without_earlier}
use Rattle.feed_store_write.proofs.Inside.{both_inside, clean_before}
use Rattle.feed_store_write.proofs.Sequence.{made_then}
use Rattle.std.proofs.Common.{[], ◌∷◌, ◌++◌, map}
use Rattle.feed_store_write.specs.Statements.{AddPart, DeleteEarlier, SetState}
use Rattle.feed_store_write.proofs.Ran.{runs_both}
use Rattle.feed_store_write.proofs.changes.activate.Goals as goal

pub returns-clause-made : goal.returns-clause-made
returns-clause-made g c clean =
    let n = c.args.name.now in
    let early = clean_before c.delete_earlier.ensures.inside clean in
    on_ok_weaker c.delete_earlier.result (made_then (changed n (grown (shown_parts c.args.parts.now) Active)) (without_earlier n) _ (state g.S.Store c.args.tx.now.conn.now)
    (state g.S.Store c.finish.new.tx.conn.now) (state g.S.Store c.delete_earlier.new.tx.conn.now) (λ k. refl)
    (c.in_ok-finish.ensures.made early)) (c.delete_earlier.ensures.made clean)

pub returns-clause-inside : goal.returns-clause-inside
returns-clause-inside g c = both_inside c.finish.ensures.inside c.delete_earlier.ensures.inside

pub returns-clause-ran : goal.returns-clause-ran
returns-clause-ran g c clean =
    let n = c.args.name.now in
    runs_both g.S.Store (map (AddPart n) (shown_parts c.args.parts.now) ++ SetState n Active ∷ []) (DeleteEarlier n ∷ []) c.args.tx.now.conn.now c.finish.new.tx.conn.now
    c.delete_earlier.new.tx.conn.now c.delete_earlier.result
    (c.in_ok-finish.ensures.ran (clean_before c.delete_earlier.ensures.inside clean)) (c.delete_earlier.ensures.ran clean)
