-- The responses about a node that does not answer readers yet.
use Rattle.std.specs.Prelude.{◌≡◌, ℕ, Bool, List, [], Option, Some, None}
use Rattle.node_monitoring.specs.MetricsTexts.{MetricsValue}
use Rattle.node_monitoring.specs.declared.metrics_text.Gauges.{Gauges}
use Rattle.node_monitoring.specs.Reports.{GetsReport, GetsNoReport, IsReportAnswer}
use Rattle.node_monitoring.specs.declared.report_text.ReportResponse.{ReportResponse}

-- the bytes are a request that gets a report, and this is the response to it by gauges without an active release; so by
-- `kind_to` the node is alive, and not ready
pub record IsStartingReport (is_local is_open : Bool) (metrics : MetricsValue) (bytes : List ℕ) (keeps : Bool) (reply : ReportResponse) : Type 0 where
  pub allowed : GetsReport is_local is_open bytes
  pub gauges : Gauges
  pub none : gauges.releases.now ≡ []
  pub is : IsReportAnswer metrics gauges [] bytes keeps reply

-- the response, exactly if the bytes are such a request
abbrev pub IsStartingResponse : Bool → Bool → MetricsValue → List ℕ → Bool → Option ReportResponse → Type 0
IsStartingResponse is_local is_open metrics bytes keeps None = GetsNoReport is_local is_open bytes
IsStartingResponse is_local is_open metrics bytes keeps (Some reply) = IsStartingReport is_local is_open metrics bytes keeps reply
