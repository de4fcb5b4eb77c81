-- The responses about a node by its state.
use Rattle.std.specs.Prelude.{◌≡◌, ℕ, Bool, List, Option}
use Rattle.node_monitoring.specs.MetricsTexts.{MetricsValue}
use Rattle.node_monitoring.specs.declared.metrics_text.Gauges.{Gauges}
use Rattle.node_monitoring.specs.declared.metrics_text.ReleaseTime.{ReleaseTime}
use Rattle.node_monitoring.specs.declared.report_text.ReportResponse.{ReportResponse}
use Rattle.node_monitoring.specs.Reports.{IsReportResponse}
use Rattle.node_monitoring.specs.Starting.{IsStartingResponse}

-- the response to a request for a report, exactly if the bytes are such a request. It is by some counters, by gauges with
-- these active releases, which have series in any case or not, and by these lines about what is missing
abbrev pub IsSomeResponse : List ℕ → Bool → List ReleaseTime → Bool → List ℕ → Option ReportResponse → Type 0
IsSomeResponse bytes keeps releases has_all missing found =
    (metrics : MetricsValue) × (gauges : Gauges) × (gauges.releases.now ≡ releases) × (gauges.has_all_series ≡ has_all)
    × IsReportResponse metrics gauges missing bytes keeps found

-- the response about a node that starts, by some counters
abbrev pub IsSomeStartingResponse : Bool → Bool → List ℕ → Bool → Option ReportResponse → Type 0
IsSomeStartingResponse is_local is_open bytes keeps found = (metrics : MetricsValue) × IsStartingResponse is_local is_open metrics bytes keeps found
