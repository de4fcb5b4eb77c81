use Rattle.std.proofs.Common.{map}
use Rattle.std.proofs.lemmas.Result.{on_ok_weaker}
use Rattle.node_hits.specs.Tallying.{tally_from}
use Rattle.node_hits.proofs.SfxWritten.{reply_steps}
use Rattle.node_hits.proofs.sfx.put_sfx.Goals as goal

pub returns : goal.returns
returns c =
    on_ok_weaker c.put_behind.result
    (reply_steps c.args.out.now.items c.put_start.new.out.items c.put_hits.new.out.items c.put_ways.new.out.items c.put_behind.new.out.items c.args.options
    c.args.site.now (tally_from c.args.tally.now) c.args.cited.now c.top.result.now c.outcome.result (map (λ name. name.now) c.partial.result.now)
    c.top.ensures c.outcome.ensures c.partial.ensures
    c.in_ok-put_start.ensures c.in_ok-put_hits.ensures c.in_ok-put_ways.ensures)
    c.put_behind.ensures
