use Rattle.std.proofs.Common.{◌≡◌, ◌++◌, map}
use Rattle.std.specs.List.{flat_map}
use Rattle.feed_metrics.specs.Exposition.{line_text, sample_line}
use Rattle.feed_metrics.specs.Rows.{below, plain_sample, sample_at}
use Rattle.feed_metrics.proofs.families.put_samples.Given as goal

abbrev pub invariant-loop-place : goal.invariant-loop-place
invariant-loop-place g l = l.out.items ≡ l.fn.out.items ++ flat_map line_text (map (sample_line l.name) (map (sample_at (g.V.Sources.values l.sources) (plain_sample l.row)) (below l.place)))
