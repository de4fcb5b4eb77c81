-- The response of a node about itself, from the response that its state makes.
use Rattle.std.proofs.Common.{◌≡◌, ℕ, Bool, List, map, Option, Some, None, ap, subst, inl, inr, ◌∙◌}
use Rattle.std.specs.Prelude.{◌&&◌, is_some}
use Rattle.node_monitoring.specs.declared.metrics_text.ReleaseTime.{ReleaseTime}
use Rattle.node_monitoring.specs.Reports.{AsksForNoReport, GetsNoReport, IsReportAnswer, may_report}
use Rattle.node_monitoring.specs.declared.report_text.ReportResponse.{ReportResponse}
use Rattle.feed_model.specs.History.{History}
use Rattle.feed_releases.specs.Actives.{ActiveValue, AreReported}
use Rattle.node_state.specs.ReleaseTimes.{time_of, active_time}
use Rattle.node_state.specs.StateReports.{IsSomeResponse}
use Rattle.node_service.specs.Reports.{HasReport, IsReportIn}
use Rattle.node_service.specs.Wanted.{missing_text}
use Rattle.node_service.specs.declared.responder.FeedResponder.{FeedResponder}

-- bytes that ask for no report get none
gets_none : (is_local is_open : Bool) (bytes : List ℕ) → AsksForNoReport bytes → GetsNoReport is_local is_open bytes
gets_none is_local is_open bytes (inl none) = inl none
gets_none is_local is_open bytes (inr (head, begins, none)) =
    inr (head, begins, ap (λ asked. is_some asked && may_report is_local is_open head) none)

pub report_in : (responder : FeedResponder) (is_local : Bool) (h : History) (bytes : List ℕ) (keeps : Bool) (actives : List ActiveValue) (releases : List ReleaseTime)
    (missing : List ℕ) (found : Option ReportResponse) → HasReport responder is_local bytes → AreReported h actives → map time_of releases ≡ map active_time actives
    → missing ≡ missing_text actives responder.wanted.now → IsSomeResponse bytes keeps releases responder.has_all_series missing found
    → IsReportIn responder is_local h bytes keeps found
report_in responder is_local h bytes keeps actives releases missing None allowed reported same lines (metrics, gauges, of, series, is) =
    gets_none is_local responder.has_open_reports bytes is
report_in responder is_local h bytes keeps actives releases missing (Some reply) allowed reported same lines (metrics, gauges, of, series, is) = record {
  allowed = allowed;
  metrics = metrics;
  gauges = gauges;
  actives = actives;
  reported = reported;
  releases = ap (map time_of) of ∙ same;
  series = series;
  is = subst (λ (text : List ℕ). IsReportAnswer metrics gauges text bytes keeps reply) lines is;
}

-- the same from slices of what was made
pub report_of_slices : (responder : FeedResponder) (is_local : Bool) (h : History) (bytes : List ℕ) (keeps : Bool) (actives timed listed : List ActiveValue)
    (releases times : List ReleaseTime) (missing lines : List ℕ) (found : Option ReportResponse) → HasReport responder is_local bytes → AreReported h actives
    → timed ≡ actives → map time_of releases ≡ map active_time timed → times ≡ releases
    → listed ≡ actives → missing ≡ missing_text listed responder.wanted.now → lines ≡ missing
    → IsSomeResponse bytes keeps times responder.has_all_series lines found → IsReportIn responder is_local h bytes keeps found
report_of_slices responder is_local h bytes keeps actives timed listed releases times missing lines found allowed reported as_timed same as_times as_listed text as_lines is =
    report_in responder is_local h bytes keeps actives times lines found allowed reported
    (ap (map time_of) as_times ∙ same ∙ ap (map active_time) as_timed)
    (as_lines ∙ text ∙ ap (λ (active : List ActiveValue). missing_text active responder.wanted.now) as_listed) is
