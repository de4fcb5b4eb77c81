use Rattle.std.proofs.lemmas.Result.{on_ok_weaker}
use Rattle.node_hits.proofs.Written.{access_written}
use Rattle.node_hits.proofs.hits_json.put_access_members.Goals as goal

pub returns : goal.returns
returns c = on_ok_weaker c.put_all.result
    (access_written c.args.out.now.items c.put_all.new.out.items c.cells-cells.result.embargo_info.now c.cells-cells.result.access_type.now c.args.row.now c.args.words.now
    c.args.article.now c.args.note.now c.args.end.now c.cells-cells.ensures.embargo c.cells-cells.ensures.access)
    c.put_all.ensures
