use Rattle.node_hits.proofs.Loops.{flat_next}
use Rattle.node_resolver.specs.Status.{active_line}
use Rattle.node_resolver.proofs.status.put_lines.Goals as goal

pub loop-active-preserved : goal.loop-active-preserved
loop-active-preserved c =
    flat_next active_line c.args.actives.now c.loop-active.active-index c.active-item.result c.loop-active-test.true c.active-item.is
    c.args.out.now.items c.loop-active.out.items c.put_line.new.out.items c.loop-active.invariant c.in_ok-put_line.ensures
