use Rattle.node_monitoring.proofs.LinesWritten.{written_more}
use Rattle.node_monitoring.proofs.line_log.write_bytes.Goals as goal

pub loop-at-preserved : goal.loop-at-preserved
loop-at-preserved g c =
    written_more (g.W.Write.contents c.args.out.now) (g.W.Write.contents c.loop-at.out) (g.W.Write.contents c.write.new.self)
    c.args.bytes.now c.loop-at.at c.in-Ok.count c.loop-at.invariant.0 c.in-Ok.ensures.bound c.loop-at.invariant.1 c.in-Ok.ensures.bytes
