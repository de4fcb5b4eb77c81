-- Each series of the node is found in the rows of its name.
use Rattle.std.proofs.Common.{◌≡◌, ℕ, List, [], ◌∷◌, refl}
use Rattle.std.specs.Prelude.{codes}
use Rattle.std.specs.List.{filter, flat_map, AllByRecursion}
use Rattle.feed_metrics.specs.Exposition.{lines_of}
use Rattle.feed_metrics.specs.Rows.{FamilyRow, families_in}
use Rattle.feed_metrics.specs.Series.{values_of}
use Rattle.feed_metrics.proofs.SeriesFound.{found, is_named}
use Rattle.node_monitoring.specs.declared.histogram.Timing.{Timing}
use Rattle.node_monitoring.specs.declared.metrics_text.Gauges.{Gauges}
use Rattle.node_monitoring.specs.declared.metrics_table.LabelSource.{LabelSource}
use Rattle.node_monitoring.specs.declared.metrics_table.SampleSource.{SampleSource}
use Rattle.node_monitoring.specs.declared.request_kind.StatusClass.{StatusClass}
use Rattle.node_monitoring.specs.declared.request_kind.Target.{Target}
use Rattle.node_monitoring.specs.Families.{node_values, table}
use Rattle.node_monitoring.specs.MetricsTexts.{MetricsValue}
use Rattle.node_monitoring.specs.Series.{CountersAreNamed, FamiliesAreApart, GaugesAreNamed, RequestsAreNamed, Series, TimesAreNamed}
use Rattle.node_monitoring.specs.Series.{class_words, counter_series, target_words, time_name, timing_words}

module _ (m : MetricsValue) (g : Gauges) where
  abbrev values_in : List (FamilyRow LabelSource SampleSource) → List ℕ → List (List ℕ × List ℕ) → List (List ℕ)
  values_in rows name labels = values_of name labels (flat_map lines_of (families_in (node_values m g) rows))

  -- the values of a name are in the rows that have it
  abbrev IsFound : List ℕ → List (List ℕ × List ℕ) → Type 0
  IsFound name labels = values_in table name labels ≡ values_in (filter (is_named name) table) name labels

  is_found : (name : List ℕ) (labels : List (List ℕ × List ℕ)) → IsFound name labels
  is_found name labels = found name labels (node_values m g) table

  all_found : (all : List Series) → AllByRecursion (λ (s : Series). IsFound s.name s.labels) all
  all_found [] = tt
  all_found (s ∷ all) = (is_found s.name s.labels, all_found all)

  abbrev request_labels : List ℕ → List ℕ → List (List ℕ × List ℕ)
  request_labels target class = (codes "target", target) ∷ (codes "class", class) ∷ []

  abbrev IsRequestFound : List ℕ × Target → List ℕ × StatusClass → Type 0
  IsRequestFound named code = IsFound (codes "kbfeed_requests_total") (request_labels named.0 code.0)

  classes_found : (named : List ℕ × Target) (codes_ : List (List ℕ × StatusClass)) → AllByRecursion (IsRequestFound named) codes_
  classes_found named [] = tt
  classes_found named (code ∷ rest) = (is_found (codes "kbfeed_requests_total") (request_labels named.0 code.0), classes_found named rest)

  targets_found : (all : List (List ℕ × Target)) → AllByRecursion (λ (named : List ℕ × Target). AllByRecursion (IsRequestFound named) class_words) all
  targets_found [] = tt
  targets_found (named ∷ all) = (classes_found named class_words, targets_found all)

  abbrev AreTimesFound : List ℕ × Timing → Type 0
  AreTimesFound named =
      IsFound (time_name named.0 (codes "_count")) [] × IsFound (time_name named.0 (codes "_sum")) []

  times_found : (all : List (List ℕ × Timing)) → AllByRecursion AreTimesFound all
  times_found [] = tt
  times_found (named ∷ all) =
      ((is_found (time_name named.0 (codes "_count")) [], is_found (time_name named.0 (codes "_sum")) []), times_found all)

pub counters_named : CountersAreNamed
counters_named m g = all_found m g counter_series

pub requests_named : RequestsAreNamed
requests_named m g = targets_found m g target_words

pub gauges_named : GaugesAreNamed
gauges_named m g = (is_found m g (codes "kbfeed_connections_open") [], is_found m g (codes "kbfeed_held_bytes") [])

pub times_named : TimesAreNamed
times_named m g = times_found m g timing_words

pub apart : FamiliesAreApart
apart = refl
