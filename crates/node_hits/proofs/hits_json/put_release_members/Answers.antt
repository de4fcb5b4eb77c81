use Rattle.std.proofs.lemmas.Result.{on_ok_weaker}
use Rattle.node_hits.proofs.Written.{release_named}
use Rattle.node_hits.proofs.hits_json.put_release_members.Goals as goal

pub returns : goal.returns
returns c = on_ok_weaker c.put_all.result
    (release_named c.args.out.now.items c.put_all.new.out.items c.package.result.now c.name_text.result.now c.args.name.now
    c.package.ensures.value c.name_text.ensures)
    c.put_all.ensures
