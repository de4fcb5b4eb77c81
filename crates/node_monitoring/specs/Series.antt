-- The series that the operators of a node know: their names and labels, as a reader of the metrics finds them. A counter without
-- a line here may still be renamed; once it has one, its name stays.
use Rattle.std.specs.Prelude.{◌≡◌, ℕ, ◌&&◌, true, List, [], ◌∷◌, ◌++◌, codes, slice_index}
use Rattle.std.specs.List.{flat_map, list_all, AllByRecursion}
use Rattle.std.specs.Fmt.{decimal}
use Rattle.feed_metrics.specs.Exposition.{lines_of}
use Rattle.feed_metrics.specs.Seconds.{seconds_text}
use Rattle.feed_metrics.specs.Series.{are_apart, has_own_samples, is_usual, values_of}
use Rattle.node_monitoring.specs.declared.counter.Counter.{Counter}
use Rattle.node_monitoring.specs.declared.counter.Counter.TheVariants as counter
use Rattle.node_monitoring.specs.declared.histogram.Timing.{Timing}
use Rattle.node_monitoring.specs.declared.histogram.Timing.TheVariants as timing
use Rattle.node_monitoring.specs.declared.metrics_text.Gauges.{Gauges}
use Rattle.node_monitoring.specs.declared.request_kind.StatusClass.{StatusClass}
use Rattle.node_monitoring.specs.declared.request_kind.StatusClass.TheVariants as class
use Rattle.node_monitoring.specs.declared.request_kind.Target.{Target}
use Rattle.node_monitoring.specs.declared.request_kind.Target.TheVariants as target
use Rattle.node_monitoring.specs.Counts.{place_of, request_place}
use Rattle.node_monitoring.specs.Families.{families, table}
use Rattle.node_monitoring.specs.Histograms.{times_of}
use Rattle.node_monitoring.specs.MetricsTexts.{MetricsValue}

-- a counter, with its name and its labels
pub record Series : Type 0 where
  pub name : List ℕ
  pub labels : List (List ℕ × List ℕ)
  pub counter : Counter

abbrev pub plain_series : List ℕ → Counter → Series
plain_series name c = record { name = name; labels = []; counter = c }

abbrev pub closed_series : List ℕ → Counter → Series
closed_series cause c = record { name = codes "kbfeed_connections_closed_total"; labels = (codes "cause", cause) ∷ []; counter = c }

abbrev pub fetch_series : List ℕ → Counter → Series
fetch_series outcome c = record { name = codes "kbfeed_fetches_total"; labels = (codes "outcome", outcome) ∷ []; counter = c }

abbrev pub counter_series : List Series
counter_series =
    plain_series (codes "kbfeed_connections_opened_total") counter.Opened
    ∷ closed_series (codes "complete") counter.Complete ∷ closed_series (codes "peer") counter.PeerClosed
    ∷ closed_series (codes "timeout") counter.TimedOut ∷ closed_series (codes "evicted") counter.Evicted
    ∷ closed_series (codes "unread") counter.Unread ∷ closed_series (codes "streamed") counter.Streamed
    ∷ plain_series (codes "kbfeed_request_bytes_total") counter.RequestBytes
    ∷ plain_series (codes "kbfeed_reply_bytes_total") counter.ReplyBytes
    ∷ fetch_series (codes "activated") counter.FetchActivated ∷ fetch_series (codes "known") counter.FetchKnown
    ∷ fetch_series (codes "older") counter.FetchOlder ∷ fetch_series (codes "broken") counter.FetchBroken
    ∷ fetch_series (codes "missing") counter.FetchMissing ∷ fetch_series (codes "refused") counter.FetchRefused
    ∷ fetch_series (codes "held") counter.FetchHeld ∷ fetch_series (codes "network") counter.FetchNetwork
    ∷ plain_series (codes "kbfeed_refused_tokens_total") counter.RefusedToken
    ∷ plain_series (codes "kbfeed_log_lines_dropped_total") counter.DroppedLine ∷ []

-- a counter has exactly one sample of its name with its labels, and that is its value
abbrev pub IsOnce : MetricsValue → Gauges → Series → Type 0
IsOnce m g s = values_of s.name s.labels (flat_map lines_of (families m g)) ≡ decimal (slice_index m.counters (place_of s.counter)) ∷ []

abbrev pub CountersAreNamed : Type 0
CountersAreNamed = (m : MetricsValue) (g : Gauges) → AllByRecursion (IsOnce m g) counter_series

-- the words of the targets and of the classes
abbrev pub target_words : List (List ℕ × Target)
target_words =
    (codes "home", target.Home) ∷ (codes "status", target.Status) ∷ (codes "resolve", target.Resolve) ∷ (codes "go", target.Go)
    ∷ (codes "titles", target.Titles) ∷ (codes "feed", target.Feed) ∷ (codes "metrics", target.Metrics)
    ∷ (codes "health", target.Health) ∷ (codes "other", target.Other) ∷ []

abbrev pub class_words : List (List ℕ × StatusClass)
class_words =
    (codes "2xx", class.Successful) ∷ (codes "3xx", class.Redirection) ∷ (codes "4xx", class.ClientError)
    ∷ (codes "5xx", class.ServerError) ∷ []

-- so have the requests of a target with a status of a class
abbrev pub AreRequestsOnce : MetricsValue → Gauges → List ℕ × Target → List ℕ × StatusClass → Type 0
AreRequestsOnce m g named code =
    values_of (codes "kbfeed_requests_total") ((codes "target", named.0) ∷ (codes "class", code.0) ∷ []) (flat_map lines_of (families m g))
    ≡ decimal (slice_index m.requests (request_place named.1 code.1)) ∷ []

abbrev pub RequestsAreNamed : Type 0
RequestsAreNamed = (m : MetricsValue) (g : Gauges)
    → AllByRecursion (λ named. AllByRecursion (AreRequestsOnce m g named) class_words) target_words

-- so have the open connections and the bytes held
abbrev pub AreGaugesOnce : MetricsValue → Gauges → Type 0
AreGaugesOnce m g =
    (values_of (codes "kbfeed_connections_open") [] (flat_map lines_of (families m g)) ≡ decimal g.open ∷ [])
    × (values_of (codes "kbfeed_held_bytes") [] (flat_map lines_of (families m g)) ≡ decimal g.held_bytes ∷ [])

-- the words of the kinds of times
abbrev pub timing_words : List (List ℕ × Timing)
timing_words = (codes "request", timing.Request) ∷ (codes "turn", timing.Turn) ∷ (codes "commit", timing.Commit) ∷ []

abbrev pub time_name : List ℕ → List ℕ → List ℕ
time_name word suffix = codes "kbfeed_" ++ word ++ codes "_duration_seconds" ++ suffix

abbrev pub AreTimesOnce : MetricsValue → Gauges → List ℕ × Timing → Type 0
AreTimesOnce m g named =
    (values_of (time_name named.0 (codes "_count")) [] (flat_map lines_of (families m g)) ≡ decimal (times_of m.times named.1).count ∷ [])
    × (values_of (time_name named.0 (codes "_sum")) [] (flat_map lines_of (families m g)) ≡ seconds_text (times_of m.times named.1).sum ∷ [])

-- so have the count and the sum of each histogram
abbrev pub TimesAreNamed : Type 0
TimesAreNamed = (m : MetricsValue) (g : Gauges) → AllByRecursion (AreTimesOnce m g) timing_words

abbrev pub GaugesAreNamed : Type 0
GaugesAreNamed = (m : MetricsValue) (g : Gauges) → AreGaugesOnce m g

-- each family is there once, with a name that says its type
abbrev pub FamiliesAreApart : Type 0
FamiliesAreApart = (list_all is_usual table && (list_all has_own_samples table && are_apart table)) ≡ true
