-- The families of a node's metrics: the rows of the table, with the values of the node.
use Rattle.std.specs.Prelude.{ℕ, ◌/◌, ◌%◌, List, [], length, map, slice_get, slice_index}
use Rattle.std.specs.Prelude.{nat_le, if◌then◌else◌, unwrap_or, option_map, Option, Some, None, Bool, ◌||◌}
use Rattle.std.specs.Fmt.{decimal}
use Rattle.feed_metrics.specs.Exposition.{Family, exposition}
use Rattle.feed_metrics.specs.Rows.{FamilyRow, Values, families_in, family_of, name_at, names_of}
use Rattle.feed_metrics.specs.Seconds.{seconds_text}
use Rattle.node_monitoring.specs.declared.histogram.TheConstants.{BOUNDS}
use Rattle.node_monitoring.specs.declared.metrics_table.LabelSource.{LabelSource}
use Rattle.node_monitoring.specs.declared.metrics_table.LabelSource.TheVariants as label
use Rattle.node_monitoring.specs.declared.metrics_table.SampleSource.{SampleSource}
use Rattle.node_monitoring.specs.declared.metrics_table.SampleSource.TheVariants as source
use Rattle.node_monitoring.specs.declared.metrics_table.TheConstants.{FAMILIES}
use Rattle.node_monitoring.specs.declared.metrics_text.Gauges.{Gauges}
use Rattle.node_monitoring.specs.declared.metrics_text.ReleaseTime.{ReleaseTime}
use Rattle.node_monitoring.specs.declared.request_kind.TheConstants.{TARGETS, CLASSES, CLASS_COUNT, REQUEST_COUNT}
use Rattle.node_monitoring.specs.Counts.{place_of}
use Rattle.node_monitoring.specs.Histograms.{times_of}
use Rattle.node_monitoring.specs.MetricsTexts.{MetricsValue}

-- the table
abbrev pub table : List (FamilyRow LabelSource SampleSource)
table = map family_of FAMILIES.now

-- ---- the values

-- the bound of a bucket
abbrev pub bound_at : ℕ → ℕ
bound_at k = slice_index BOUNDS k

-- the package of the active release at a place, and the first second of its day
abbrev pub package_at : Gauges → ℕ → List ℕ
package_at g k = unwrap_or (option_map (λ (release : ReleaseTime). release.package.now) (slice_get g.releases.now k)) []

abbrev pub seconds_at : Gauges → ℕ → ℕ
seconds_at g k = unwrap_or (option_map (λ (release : ReleaseTime). release.seconds) (slice_get g.releases.now k)) 0

-- each active release has a series: at most 256 are active, or the operator asks for the series of all
abbrev pub has_series : Gauges → Bool
has_series g = g.has_all_series || nat_le (length g.releases.now) 256

abbrev pub count_some : Option ℕ → ℕ
count_some None = 0
count_some (Some n) = 1

module _ (m : MetricsValue) (g : Gauges) where
  -- the value of a label of the sample at a place, where the row has this text
  abbrev pub label_value : LabelSource → List ℕ → ℕ → List ℕ
  label_value label.Row text k = text
  label_value label.Version text k = g.version.now
  label_value label.Target text k = name_at (names_of TARGETS) (k / CLASS_COUNT)
  label_value label.Class text k = name_at (names_of CLASSES) (k % CLASS_COUNT)
  label_value label.Site text k = name_at m.site_names k
  label_value label.Bound text k = seconds_text (bound_at k)
  label_value label.Package text k = package_at g k

  -- how many samples a source has
  abbrev pub source_count : SampleSource → ℕ
  source_count source.Requests = REQUEST_COUNT
  source_count source.Sites = length m.site_names
  source_count (source.Buckets timing) = 12
  source_count source.Releases = if has_series g then length g.releases.now else 0
  source_count source.SinceSwitch = count_some g.since_switch
  source_count other = 1

  -- the value of the sample at a place
  abbrev pub source_value : SampleSource → ℕ → List ℕ
  source_value (source.Counted c) k = decimal (slice_index m.counters (place_of c))
  source_value source.One k = decimal 1
  source_value source.Open k = decimal g.open
  source_value source.Held k = decimal g.held_bytes
  source_value source.Requests k = decimal (slice_index m.requests k)
  source_value source.Sites k = decimal (slice_index m.sites k)
  source_value (source.Buckets timing) k = decimal (slice_index (times_of m.times timing).buckets k)
  source_value (source.Times timing) k = decimal (times_of m.times timing).count
  source_value (source.TimesSum timing) k = seconds_text (times_of m.times timing).sum
  source_value source.Releases k = decimal (seconds_at g k)
  source_value source.SinceSwitch k = decimal (unwrap_or g.since_switch 0)

  -- what the sources of a node say
  abbrev pub node_values : Values LabelSource SampleSource
  node_values = record { count = source_count; value = source_value; label = label_value }

  -- the families of a node
  abbrev pub families : List Family
  families = families_in node_values table

  -- the text of the metrics
  unfoldable pub metrics_text : List ℕ
  metrics_text = exposition families
