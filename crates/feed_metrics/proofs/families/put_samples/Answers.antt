use Rattle.feed_metrics.specs.Exposition.{sample_line}
use Rattle.feed_metrics.specs.Rows.{plain_sample, sample_at}
use Rattle.feed_metrics.proofs.SamplesWritten.{sample_written}
use Rattle.feed_metrics.proofs.families.put_samples.Goals as goal

pub loop-place-preserved : goal.loop-place-preserved
loop-place-preserved g c =
    sample_written (sample_line c.args.name.now) (sample_at (g.V.Sources.values c.args.sources.now) (plain_sample c.args.row.now)) c.loop-place.place
    c.args.out.now.items c.loop-place.out.items c.put_sample.new.out.items c.loop-place.invariant c.in_ok-put_sample.ensures
