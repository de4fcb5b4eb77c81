use Rattle.node_hits.specs.HitsText.{release_hit_line}
use Rattle.node_hits.proofs.Loops.{flat_next}
use Rattle.node_hits.proofs.hits_text.put_lines.Goals as goal

pub loop-found-preserved : goal.loop-found-preserved
loop-found-preserved c =
    flat_next release_hit_line c.args.hits.now c.loop-found.found-index c.found-item.result c.loop-found-test.true c.found-item.is
    c.args.out.now.items c.loop-found.out.items c.put_line.new.out.items c.loop-found.invariant c.in_ok-put_line.ensures
