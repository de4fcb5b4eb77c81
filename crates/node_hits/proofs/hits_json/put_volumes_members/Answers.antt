use Rattle.std.proofs.Common.{◌∙◌, ap}
use Rattle.std.proofs.lemmas.Result.{on_ok_weaker}
use Rattle.feed_kbart.specs.RowValue.{RowValue}
use Rattle.node_hits.specs.Coverages.{volume_text}
use Rattle.node_hits.proofs.Written.{volumes_written}
use Rattle.node_hits.proofs.hits_json.put_volumes_members.Goals as goal

pub returns : goal.returns
returns c = on_ok_weaker c.put_all.result
    (volumes_written c.args.out.now.items c.put_all.new.out.items c.deref.result.now c.deref-2.result.now c.deref-3.result.now c.args.row.now
    (c.deref.ensures.value ∙ c.in_ok-first.ensures
    ∙ ap volume_text (ap (λ volumes. volumes.0) c.volumes-first.ensures ∙ ap (λ (row : RowValue). row.first_volume) c.cells.ensures.content))
    (c.deref-2.ensures.value ∙ c.in_ok-last.ensures
    ∙ ap volume_text (ap (λ volumes. volumes.1) c.volumes-first.ensures ∙ ap (λ (row : RowValue). row.last_volume) c.cells.ensures.content))
    (c.deref-3.ensures.value ∙ c.in_ok-words.ensures))
    c.put_all.ensures
