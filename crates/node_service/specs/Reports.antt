-- The responses of a node about itself.
use Rattle.std.specs.Prelude.{◌≡◌, ℕ, Bool, List, map, Option, Some, None}
use Rattle.node_monitoring.specs.MetricsTexts.{MetricsValue}
use Rattle.node_monitoring.specs.declared.metrics_text.Gauges.{Gauges}
use Rattle.feed_model.specs.History.{History}
use Rattle.feed_releases.specs.Actives.{ActiveValue, AreReported}
use Rattle.node_monitoring.specs.declared.report_text.ReportResponse.{ReportResponse}
use Rattle.node_monitoring.specs.Reports as reports
use Rattle.node_monitoring.specs.Reports.{IsReportAnswer}
use Rattle.node_state.specs.ReleaseTimes.{time_of, active_time}
use Rattle.node_service.specs.declared.responder.FeedResponder.{FeedResponder}
use Rattle.node_service.specs.Wanted.{missing_text}

-- the bytes are a request that gets a report: its client is on the same machine, or the settings allow it to all
abbrev pub HasReport : FeedResponder → Bool → List ℕ → Type 0
HasReport responder is_local bytes = reports.GetsReport is_local responder.has_open_reports bytes

-- they are such a request, and this is the response to it: by some counters, by gauges that have the packages and the
-- days of the releases that a feed with this history reports, and by the lines that name the wanted packages without
-- one. Each reported release has a series if there are at most 256, or the settings ask for it (`has_series`)
pub record IsReportFor (responder : FeedResponder) (is_local : Bool) (h : History) (bytes : List ℕ) (keeps : Bool) (reply : ReportResponse) : Type 0 where
  pub allowed : HasReport responder is_local bytes
  pub metrics : MetricsValue
  pub gauges : Gauges
  pub actives : List ActiveValue
  pub reported : AreReported h actives
  pub releases : map time_of gauges.releases.now ≡ map active_time actives
  pub series : gauges.has_all_series ≡ responder.has_all_series
  pub is : IsReportAnswer metrics gauges (missing_text actives responder.wanted.now) bytes keeps reply

-- they are not such a request
abbrev pub HasNoReport : FeedResponder → Bool → List ℕ → Type 0
HasNoReport responder is_local bytes = reports.GetsNoReport is_local responder.has_open_reports bytes

-- the response, exactly if the bytes are such a request
abbrev pub IsReportIn : FeedResponder → Bool → History → List ℕ → Bool → Option ReportResponse → Type 0
IsReportIn responder is_local h bytes keeps None = HasNoReport responder is_local bytes
IsReportIn responder is_local h bytes keeps (Some reply) = IsReportFor responder is_local h bytes keeps reply
