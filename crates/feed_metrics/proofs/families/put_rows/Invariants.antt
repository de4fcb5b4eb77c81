use Rattle.std.proofs.Common.{◌≡◌, ◌++◌, map, take}
use Rattle.std.specs.List.{flat_map}
use Rattle.feed_metrics.specs.Exposition.{line_text, sample_line}
use Rattle.feed_metrics.specs.Rows.{plain_samples, samples_from}
use Rattle.feed_metrics.proofs.families.put_rows.Given as goal

abbrev pub invariant-loop-row : goal.invariant-loop-row
invariant-loop-row g l = l.out.items ≡ l.fn.out.items ++ flat_map line_text (map (sample_line l.name) (samples_from (g.V.Sources.values l.sources) (plain_samples (take l.row-index l.rows))))
