-- Laws of the metrics.
use Rattle.std.specs.Prelude.{◌≡◌, ◌<◌, ◌≤◌, ℕ, List, ◌++◌, Some, slice_index}
use Rattle.node_monitoring.specs.Counts.{Added, capped, total_at}
use Rattle.node_monitoring.specs.Histograms.{HistogramValue, HasObserved}
use Rattle.node_monitoring.specs.declared.metrics_text.Gauges.{Gauges}
use Rattle.feed_metrics.specs.Exposition.{lines_of}
use Rattle.feed_metrics.specs.ExpositionReader.{read_text}
use Rattle.node_monitoring.specs.Families.{families, metrics_text}
use Rattle.node_monitoring.specs.MetricsTexts.{MetricsValue}
use Rattle.std.specs.List.{flat_map}

-- whatever is added later, the value of a counter is not less
abbrev pub CountersNeverFall : Type 0
CountersNeverFall = (k : ℕ) (later earlier : List Added) → capped (total_at k earlier) ≤ capped (total_at k (later ++ earlier))

-- a bucket has at least what the one before it has, and at most the count
abbrev pub HistogramIsCumulative : Type 0
HistogramIsCumulative = (h : HistogramValue) (observed : List ℕ) → HasObserved h observed
    → (j k : ℕ) → j ≤ k → k < 12 → (slice_index h.buckets j ≤ slice_index h.buckets k) × (slice_index h.buckets k ≤ h.count)

-- a reader of the format reads the help and the type of each family and then its samples, in order, and nothing else
abbrev pub MetricsReadBack : Type 0
MetricsReadBack = (m : MetricsValue) (g : Gauges) → read_text (metrics_text m g) ≡ Some (flat_map lines_of (families m g))
