use Rattle.std.proofs.Common.{◌≡◌, take}
use Rattle.feed_metrics.specs.Rows.{has_samples, plain_samples}
use Rattle.feed_metrics.proofs.families.has_samples.Given as goal

abbrev pub invariant-loop-row : goal.invariant-loop-row
invariant-loop-row g l = l.is_any ≡ has_samples (g.V.Sources.values l.sources) (plain_samples (take l.row-index l.rows))
