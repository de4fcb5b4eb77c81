use Rattle.std.proofs.Common.{◌∙◌, ◌++◌, ap}
use Rattle.std.proofs.lemmas.Result.{on_ok_weaker}
use Rattle.feed_names.specs.ReleaseName.{Name}
use Rattle.node_hits.specs.EmbargoWords.{embargo_words}
use Rattle.node_hits.specs.HitsJson.{release_members}
use Rattle.node_hits.proofs.Written.{object_written}
use Rattle.node_hits.proofs.hits_json.put_object.Goals as goal

pub returns : goal.returns
returns c = on_ok_weaker c.put_access_members.result
    (object_written c.args.out.now.items c.put_release_members.new.out.items c.put_grade_members.new.out.items c.put_row_members.new.out.items c.put_access_members.new.out.items
    c.row-row.result.now c.deref.result.now c.deref-2.result.now c.deref-3.result.now c.note.result.now c.args.end.now c.args.found.now
    c.row-row.ensures (c.deref.ensures.value ∙ c.in_ok-page.ensures) (c.deref-2.ensures.value ∙ c.in_ok-words.ensures ∙ ap embargo_words c.embargo.ensures)
    (c.deref-3.ensures.value ∙ c.in_ok-article.ensures) c.note.ensures
    (c.in_ok-put_release_members.ensures ∙ ap (λ (n : Name). c.args.out.now.items ++ release_members n) c.name.ensures)
    c.in_ok-put_grade_members.ensures c.in_ok-put_row_members.ensures)
    c.put_access_members.ensures
