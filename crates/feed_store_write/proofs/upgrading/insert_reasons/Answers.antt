use Rattle.std.proofs.Common.{◌≡◌, ◌∷◌, ◌++◌, [], ◌+◌, take, List, refl, subst, sym, ◌∙◌, ap}
use Rattle.std.proofs.lemmas.List.{map-append, take_more, take_all}
use Rattle.sqlite.specs.Held.{state}
use Rattle.feed_model.specs.Content as model
use Rattle.feed_keep.specs.declared.record.Record.{Record}
use Rattle.feed_keep.specs.Shown.{shown, shown_record}
use Rattle.feed_store_write.specs.Effects.{IsReasonChangeIf, IsMade}
use Rattle.feed_store_write.specs.Upgrading.{AreStored, explained_with}
use Rattle.feed_store_write.proofs.Inside.{both_inside, clean_before, nothing_done}
use Rattle.feed_store_write.proofs.Steps.{none_explained, one_explained}
use Rattle.feed_store_write.proofs.Ran.{reasons_last, runs_then}
use Rattle.feed_store_write.specs.Statements.{HaveRun, Statement, reason_of, reasons_of}
use Rattle.feed_store_write.proofs.upgrading.insert_reasons.Goals as goal

pub loop-record-init : goal.loop-record-init
loop-record-init g c = record {
  inside = nothing_done;
  ran = λ clean. refl;
  made = λ clean. none_explained (state g.S.Store c.args.tx.now.conn.now);
}

pub loop-record-preserved : goal.loop-record-preserved
loop-record-preserved g c =
    let records = c.args.records.now in
    let at = c.loop-record.record-index in
    let old = state g.S.Store c.args.tx.now.conn.now in
    let mid = state g.S.Store c.loop-record.tx.conn.now in
    let new = state g.S.Store c.insert_reason_of.new.tx.conn.now in
    let passed : take (at + 1) records ≡ take at records ++ c.record-item.result ∷ [] =
    take_more records at c.record-item.result c.loop-record-test.true ∙ ap (λ (r : Record). take at records ++ r ∷ []) (sym c.record-item.is) in
    let more : shown (take (at + 1) records) ≡ shown (take at records) ++ shown_record c.record-item.result ∷ [] =
    ap shown passed ∙ map-append shown_record (take at records) (c.record-item.result ∷ []) in record {
      inside = both_inside c.loop-record.invariant.inside c.insert_reason_of.ensures.inside;
      ran = λ clean. subst (λ (l : List Statement). HaveRun g.S.Store l c.args.tx.now.conn.now c.insert_reason_of.new.tx.conn.now)
          (sym (ap reasons_of more ∙ reasons_last (shown (take at records)) (shown_record c.record-item.result)))
          (runs_then g.S.Store (reasons_of (shown (take at records))) (reason_of c.record-item.result.name c.record-item.result.reason) c.args.tx.now.conn.now c.loop-record.tx.conn.now
          c.insert_reason_of.new.tx.conn.now
          (c.loop-record.invariant.ran (clean_before c.insert_reason_of.ensures.inside clean)) (c.in_ok-insert_reason_of.ensures.ran clean));
      made = λ clean. subst (λ (rs : List model.Record). IsMade (IsReasonChangeIf (AreStored rs) (explained_with rs)) old new) (sym more)
          (one_explained (shown (take at records)) (shown_record c.record-item.result) old mid new (c.loop-record.invariant.made (clean_before c.insert_reason_of.ensures.inside clean))
          (c.in_ok-insert_reason_of.ensures.made clean));
    }

pub returns-clause-made : goal.returns-clause-made
returns-clause-made g c clean =
    subst (λ (rs : List Record). IsMade (IsReasonChangeIf (AreStored (shown rs)) (explained_with (shown rs))) (state g.S.Store c.args.tx.now.conn.now) (state g.S.Store c.loop-record.tx.conn.now))
    (take_all c.loop-record.record-index c.args.records.now c.loop-record-test.false) (c.loop-record.invariant.made clean)

pub returns-in_err-insert_reason_of-clause-inside : goal.returns-in_err-insert_reason_of-clause-inside
returns-in_err-insert_reason_of-clause-inside g c = both_inside c.loop-record.invariant.inside c.insert_reason_of.ensures.inside

pub returns-clause-ran : goal.returns-clause-ran
returns-clause-ran g c clean =
    subst (λ (rs : List Record). HaveRun g.S.Store (reasons_of (shown rs)) c.args.tx.now.conn.now c.loop-record.tx.conn.now)
    (take_all c.loop-record.record-index c.args.records.now c.loop-record-test.false) (c.loop-record.invariant.ran clean)
