use Rattle.std.proofs.Common.{◌≡◌, ◌∷◌, ◌++◌, [], ◌+◌, map, take, List, refl, subst, sym, ◌∙◌, ap}
use Rattle.std.proofs.lemmas.List.{map-append, take_more, take_all}
use Rattle.sqlite.specs.Held.{state}
use Rattle.feed_model.specs.Content as model
use Rattle.feed_model.specs.Change.{changed}
use Rattle.feed_parts.specs.declared.part.Part.{Part}
use Rattle.feed_parts.specs.Shown.{shown_part, shown_parts}
use Rattle.feed_store_model.specs.Records.{with_parts}
use Rattle.feed_store_write.specs.Effects.{IsContentChange, IsMade}
use Rattle.feed_store_write.proofs.Inside.{both_inside, clean_before, nothing_done}
use Rattle.feed_store_write.proofs.Sequence.{none_added, one_more}
use Rattle.feed_store_write.proofs.Ran.{runs_then}
use Rattle.feed_store_write.specs.Statements.{AddPart, HaveRun, Statement}
use Rattle.feed_store_write.proofs.statements.insert_parts.Goals as goal

pub loop-part-init : goal.loop-part-init
loop-part-init g c = record {
  inside = nothing_done;
  ran = λ clean. refl;
  made = λ clean. none_added c.args.name.now (state g.S.Store c.args.tx.now.conn.now);
}

pub loop-part-preserved : goal.loop-part-preserved
loop-part-preserved g c =
    let n = c.args.name.now in
    let parts = c.args.parts.now in
    let at = c.loop-part.part-index in
    let old = state g.S.Store c.args.tx.now.conn.now in
    let mid = state g.S.Store c.loop-part.tx.conn.now in
    let new = state g.S.Store c.insert_part.new.tx.conn.now in
    let passed : take (at + 1) parts ≡ take at parts ++ c.part-item.result ∷ [] =
    take_more parts at c.part-item.result c.loop-part-test.true ∙ ap (λ (p : Part). take at parts ++ p ∷ []) (sym c.part-item.is) in
    let more : shown_parts (take (at + 1) parts) ≡ shown_parts (take at parts) ++ shown_part c.part-item.result ∷ [] =
    ap shown_parts passed ∙ map-append shown_part (take at parts) (c.part-item.result ∷ []) in record {
      inside = both_inside c.loop-part.invariant.inside c.insert_part.ensures.inside;
      ran = λ clean. subst (λ (l : List Statement). HaveRun g.S.Store l c.args.tx.now.conn.now c.insert_part.new.tx.conn.now) (sym (ap (map (AddPart n)) more ∙ map-append (AddPart n) _ _))
          (runs_then g.S.Store (map (AddPart n) (shown_parts (take at parts))) (AddPart n (shown_part c.part-item.result) ∷ []) c.args.tx.now.conn.now c.loop-part.tx.conn.now
          c.insert_part.new.tx.conn.now (c.loop-part.invariant.ran (clean_before c.insert_part.ensures.inside clean))
          (c.in_ok-insert_part.ensures.ran clean));
      made = λ clean. subst (λ (ps : List model.Part). IsMade (IsContentChange (changed n (with_parts ps))) old new) (sym more)
          (one_more n (shown_parts (take at parts)) (shown_part c.part-item.result) old mid new (c.loop-part.invariant.made (clean_before c.insert_part.ensures.inside clean))
          (c.in_ok-insert_part.ensures.made clean));
    }

pub returns-clause-made : goal.returns-clause-made
returns-clause-made g c clean =
    subst (λ (ps : List Part). IsMade (IsContentChange (changed c.args.name.now (with_parts (shown_parts ps)))) (state g.S.Store c.args.tx.now.conn.now) (state g.S.Store c.loop-part.tx.conn.now))
    (take_all c.loop-part.part-index c.args.parts.now c.loop-part-test.false) (c.loop-part.invariant.made clean)

pub returns-in_err-insert_part-clause-inside : goal.returns-in_err-insert_part-clause-inside
returns-in_err-insert_part-clause-inside g c = both_inside c.loop-part.invariant.inside c.insert_part.ensures.inside

pub returns-clause-ran : goal.returns-clause-ran
returns-clause-ran g c clean =
    subst (λ (ps : List Part). HaveRun g.S.Store (map (AddPart c.args.name.now) (shown_parts ps)) c.args.tx.now.conn.now c.loop-part.tx.conn.now)
    (take_all c.loop-part.part-index c.args.parts.now c.loop-part-test.false) (c.loop-part.invariant.ran clean)
