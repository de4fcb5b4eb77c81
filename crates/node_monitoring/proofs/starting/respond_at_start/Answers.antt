use Rattle.std.proofs.Common.{◌≡◌, ℕ, Bool, List, [], Option, Some, None, inl, inr, refl, ap}
use Rattle.std.specs.Prelude.{◌&&◌, is_some}
use Rattle.node_monitoring.specs.MetricsTexts.{MetricsValue}
use Rattle.node_monitoring.specs.declared.metrics_text.Gauges.{Gauges}
use Rattle.node_monitoring.specs.Reports.{AsksForNoReport, GetsNoReport, GetsReport, IsReportResponse, may_report}
use Rattle.node_monitoring.specs.Starting.{IsStartingResponse}
use Rattle.node_monitoring.specs.declared.report_text.ReportResponse.{ReportResponse}
use Rattle.node_monitoring.proofs.starting.respond_at_start.Goals as goal

-- bytes that ask for no report get none
gets_none : (is_local is_open : Bool) (bytes : List ℕ) → AsksForNoReport bytes → GetsNoReport is_local is_open bytes
gets_none is_local is_open bytes (inl none) = inl none
gets_none is_local is_open bytes (inr (head, begins, none)) =
    inr (head, begins, ap (λ asked. is_some asked && may_report is_local is_open head) none)

starting : (is_local is_open : Bool) (metrics : MetricsValue) (gauges : Gauges) (bytes : List ℕ) (keeps : Bool) (found : Option ReportResponse)
    → GetsReport is_local is_open bytes → gauges.releases.now ≡ [] → IsReportResponse metrics gauges [] bytes keeps found
    → IsStartingResponse is_local is_open metrics bytes keeps found
starting is_local is_open metrics gauges bytes keeps None allowed none is = gets_none is_local is_open bytes is
starting is_local is_open metrics gauges bytes keeps (Some reply) allowed none is = record { allowed = allowed; gauges = gauges; none = none; is = is }

pub returns-clause-value : goal.returns-clause-value
returns-clause-value c =
    starting c.args.request.now.is_local c.args.request.now.is_open c.args.metrics.now _ c.args.request.now.received.bytes.now c.args.request.now.keeps c.in_ok-found.found
    c.if-not-gets_report.ensures refl c.in_ok-found.ensures.value
