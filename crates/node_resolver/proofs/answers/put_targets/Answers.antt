use Rattle.std.proofs.lemmas.Result.{on_ok_weaker}
use Rattle.node_resolver.specs.Answers.{sited_in}
use Rattle.node_resolver.proofs.AnswersWritten.{sfx_written}
use Rattle.node_resolver.proofs.answers.put_targets.Goals as goal

pub returns : goal.returns
returns c = on_ok_weaker c.put_sfx.result
    (sfx_written c.sfx_options_in-options.result c.args.query.now.text.now c.library.result.now c.args.lookup.now (sited_in c.args.context.now) c.args.hits.now
    c.cited.result c.args.out.now.items c.put_sfx.new.out.items c.sfx_options_in-options.ensures c.library.ensures c.requires c.cited.ensures)
    c.put_sfx.ensures
