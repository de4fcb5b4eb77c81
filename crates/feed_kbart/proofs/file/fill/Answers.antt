use Rattle.feed_kbart.proofs.Lists.{block_fits, block_read}
use Rattle.feed_kbart.proofs.file.fill.Goals as goal

pub loop-filled-preserved : goal.loop-filled-preserved
loop-filled-preserved g c = record {
  within = block_fits c.loop-filled.filled _ c.in-Ok.count c.loop-filled.block c.read.new.buf c.loop-filled.invariant.within c.in-Ok.ensures.bound.0;
  bytes = block_read _ _ _ c.loop-filled.filled _ c.in-Ok.count c.loop-filled.block c.read.new.buf
      c.loop-filled.invariant.within c.in-Ok.ensures.bound.0 c.loop-filled.invariant.bytes c.in-Ok.ensures.bytes.0;
}
