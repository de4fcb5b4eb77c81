-- The metrics read back: the names of the table are names, and each value is a number.
use Rattle.std.proofs.Common.{◌≡◌, ℕ, true, refl}
use Rattle.std.specs.List.{list_all}
use Rattle.feed_metrics.specs.ExpositionReader.{is_number_byte}
use Rattle.feed_metrics.proofs.FamilyLines.{families_read}
use Rattle.feed_metrics.proofs.Numbers.{decimal_number, seconds_number}
use Rattle.node_monitoring.specs.declared.metrics_text.Gauges.{Gauges}
use Rattle.node_monitoring.specs.declared.metrics_table.SampleSource.{SampleSource}
use Rattle.node_monitoring.specs.declared.metrics_table.SampleSource.TheVariants as source
use Rattle.node_monitoring.specs.Families.{metrics_text, node_values, source_value, table}
use Rattle.node_monitoring.specs.Laws.{MetricsReadBack}
use Rattle.node_monitoring.specs.MetricsTexts.{MetricsValue}

module _ (m : MetricsValue) (g : Gauges) where
  value_good : (from : SampleSource) (k : ℕ) → list_all is_number_byte (source_value m g from k) ≡ true
  value_good (source.Counted c) k = decimal_number _
  value_good source.One k = decimal_number _
  value_good source.Open k = decimal_number _
  value_good source.Held k = decimal_number _
  value_good source.Requests k = decimal_number _
  value_good source.Sites k = decimal_number _
  value_good (source.Buckets timing) k = decimal_number _
  value_good (source.Times timing) k = decimal_number _
  value_good (source.TimesSum timing) k = seconds_number _
  value_good source.Releases k = decimal_number _
  value_good source.SinceSwitch k = decimal_number _

pub metrics_read : MetricsReadBack
unfolding metrics_text
metrics_read m g = families_read (node_values m g) (value_good m g) table refl
