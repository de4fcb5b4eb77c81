-- The report that a request asks of a node, and the response.
use Rattle.std.specs.Prelude.{◌≡◌, ◌⊎◌, ◌||◌, ◌&&◌, not, ℕ, Bool, true, false, if◌then◌else◌, List, [], length, nat_lt, codes, Option, Some, None, is_some}
use Rattle.httparse.specs.Grammar.{RequestHead}
use Rattle.feed_http_heads.specs.Fields.{has_any, values_named}
use Rattle.feed_http_heads.specs.Requests.{lacks_host, is_get, is_head}
use Rattle.node_monitoring.specs.Families.{metrics_text}
use Rattle.node_monitoring.specs.MetricsTexts.{MetricsValue}
use Rattle.node_monitoring.specs.declared.metrics_text.Gauges.{Gauges}
use Rattle.node_request.specs.Routes.{route_of}
use Rattle.node_request.specs.declared.route.Route.{Route}
use Rattle.node_request.specs.declared.route.Route.TheVariants as route
use Rattle.node_request.specs.FoundRequests.{BeginsWith, HasNoHead}
use Rattle.node_monitoring.specs.declared.report.Report.{Report}
use Rattle.node_monitoring.specs.declared.report.Report.TheVariants as report
use Rattle.node_monitoring.specs.declared.report_response.TheConstants.{WELL, UNREADY, BAD_METHOD}
use Rattle.node_monitoring.specs.declared.report_text.ReportKind.{ReportKind}
use Rattle.node_monitoring.specs.declared.report_text.ReportResponse.{ReportResponse}
use Rattle.node_monitoring.specs.declared.report_text.ReportKind.TheVariants as kind
use Rattle.node_monitoring.specs.ReportTexts.{status_of, sent_body, report_text, IsReportMessage}

-- the report of a route
abbrev pub report_in : Route → Option Report
report_in route.Metrics = Some report.Metrics
report_in route.Health = Some report.Ready
report_in route.Ready = Some report.Ready
report_in route.Live = Some report.Live
report_in named = None

-- what a request asks for; without a host it asks for none
abbrev pub report_of : RequestHead → Option Report
report_of head = if lacks_host head then None else report_in (route_of head)

-- the bytes do not ask for a report
abbrev pub AsksForNoReport : List ℕ → Type 0
AsksForNoReport bytes = HasNoHead bytes ⊎ ((head : RequestHead) × BeginsWith bytes head × (report_of head ≡ None))

-- a proxy passed the request on, and says so (RFC 7239, section 4; RFC 9110, section 7.6.3)
abbrev pub is_forwarded : RequestHead → Bool
is_forwarded head =
    has_any (values_named (codes "x-forwarded-for") head.fields) || has_any (values_named (codes "forwarded") head.fields)
    || has_any (values_named (codes "via") head.fields)

-- whether the client is on the same machine: the request came from there, and no proxy says that it passed it on
abbrev pub is_near : Bool → RequestHead → Bool
is_near is_local head = is_local && not (is_forwarded head)

-- whether a client may have a report: if it is on the same machine, or reports are open to all
abbrev pub may_report : Bool → Bool → RequestHead → Bool
may_report is_local is_open head = is_near is_local head || is_open

-- whether a request with this head gets a report
abbrev pub gets_report : Bool → Bool → RequestHead → Bool
gets_report is_local is_open head = is_some (report_of head) && may_report is_local is_open head

-- the bytes are a request that gets a report
abbrev pub GetsReport : Bool → Bool → List ℕ → Type 0
GetsReport is_local is_open bytes = (head : RequestHead) × BeginsWith bytes head × (gets_report is_local is_open head ≡ true)

-- they are not
abbrev pub GetsNoReport : Bool → Bool → List ℕ → Type 0
GetsNoReport is_local is_open bytes = HasNoHead bytes ⊎ ((head : RequestHead) × BeginsWith bytes head × (gets_report is_local is_open head ≡ false))

-- what the response says, if the method is allowed and the node has an active release, or not
abbrev pub kind_of : Bool → Bool → Report → ReportKind
kind_of false ready asked = kind.BadMethod
kind_of true ready report.Metrics = kind.Metrics
kind_of true ready report.Ready = if ready then kind.Well else kind.Unready
kind_of true ready report.Live = kind.Well

-- the same of a request: GET and HEAD are allowed
abbrev pub kind_to : RequestHead → Bool → Report → ReportKind
kind_to head ready asked = kind_of (is_get head || is_head head) ready asked

-- the lines about what is missing, or the one that says that no release is active
abbrev pub unready_body : List ℕ → List ℕ
unready_body missing = if nat_lt 0 (length missing) then missing else UNREADY.now

-- the body, if it is not the metrics
abbrev pub fixed_body : List ℕ → ReportKind → List ℕ
fixed_body missing kind.Metrics = []
fixed_body missing kind.Well = WELL.now
fixed_body missing kind.Unready = unready_body missing
fixed_body missing kind.BadMethod = BAD_METHOD.now

-- the body
abbrev pub body_of : MetricsValue → Gauges → List ℕ → ReportKind → List ℕ
body_of metrics gauges missing kind.Metrics = metrics_text metrics gauges
body_of metrics gauges missing kind.Well = WELL.now
body_of metrics gauges missing kind.Unready = unready_body missing
body_of metrics gauges missing kind.BadMethod = BAD_METHOD.now

-- the node has an active release, and no line says that one is missing
abbrev pub is_ready : Gauges → List ℕ → Bool
is_ready gauges missing = nat_lt 0 (length gauges.releases.now) && not (nat_lt 0 (length missing))

-- what the response to a request for a report says
abbrev pub kind_for : Gauges → List ℕ → RequestHead → Report → ReportKind
kind_for gauges missing head asked = kind_to head (is_ready gauges missing) asked

-- the response to a request for a report
pub record IsReportTo (metrics : MetricsValue) (gauges : Gauges) (missing : List ℕ) (head : RequestHead) (keeps : Bool) (asked : Report) (reply : ReportResponse) : Type 0 where
  pub text : reply.bytes.items ≡ report_text (kind_for gauges missing head asked) keeps (is_head head) (body_of metrics gauges missing (kind_for gauges missing head asked))
  pub status : reply.status ≡ status_of (kind_for gauges missing head asked)
  pub size : reply.body_len ≡ length (sent_body (is_head head) (body_of metrics gauges missing (kind_for gauges missing head asked)))
  pub message : IsReportMessage (kind_for gauges missing head asked) keeps (is_head head) (body_of metrics gauges missing (kind_for gauges missing head asked)) reply.bytes.items

-- the bytes are a request for a report, and this is the response to it
pub record IsReportAnswer (metrics : MetricsValue) (gauges : Gauges) (missing bytes : List ℕ) (keeps : Bool) (reply : ReportResponse) : Type 0 where
  pub head : RequestHead
  pub begins : BeginsWith bytes head
  pub asked : Report
  pub names : report_of head ≡ Some asked
  pub is : IsReportTo metrics gauges missing head keeps asked reply

-- the response, exactly if the bytes are such a request
abbrev pub IsReportResponse : MetricsValue → Gauges → List ℕ → List ℕ → Bool → Option ReportResponse → Type 0
IsReportResponse metrics gauges missing bytes keeps None = AsksForNoReport bytes
IsReportResponse metrics gauges missing bytes keeps (Some reply) = IsReportAnswer metrics gauges missing bytes keeps reply
