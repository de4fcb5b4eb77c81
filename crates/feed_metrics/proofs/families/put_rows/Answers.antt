use Rattle.std.proofs.Common.{◌≡◌, ◌++◌, map, subst}
use Rattle.std.specs.List.{flat_map}
use Rattle.feed_metrics.specs.Exposition.{line_text, sample_line}
use Rattle.feed_metrics.specs.Rows.{plain_sample, samples_of}
use Rattle.feed_metrics.proofs.RowsWritten.{lines_add, row_written}
use Rattle.feed_metrics.proofs.families.put_rows.Goals as goal

pub loop-row-preserved : goal.loop-row-preserved
loop-row-preserved g c =
    row_written (λ samples. flat_map line_text (map (sample_line c.args.name.now) samples)) (lines_add (sample_line c.args.name.now))
    (samples_of (g.V.Sources.values c.args.sources.now)) plain_sample
    c.args.rows.now c.loop-row.row-index c.row-item.result c.args.out.now.items c.loop-row.out.items c.put_samples.new.out.items
    c.loop-row-test.true c.loop-row.invariant
    (subst (λ row. c.put_samples.new.out.items ≡ c.loop-row.out.items
    ++ flat_map line_text (map (sample_line c.args.name.now) (samples_of (g.V.Sources.values c.args.sources.now) (plain_sample row))))
    c.row-item.is c.in_ok-put_samples.ensures)
