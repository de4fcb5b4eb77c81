-- The bytes of a response about a node.
use Rattle.std.specs.Prelude.{◌≡◌, ℕ, Bool, if◌then◌else◌, List, [], ◌∷◌, ◌++◌, length, codes}
use Rattle.std.specs.Fmt.{decimal}
use Rattle.httparse.specs.Grammar.{ResponseHead, ReadsResponse, status_code}
use Rattle.feed_http_heads.specs.Fields.{values_named}
use Rattle.feed_http_heads.specs.Options.{lacks_close}
use Rattle.node_monitoring.specs.declared.report_text.TheConstants.{METRICS_START, WELL_START, UNREADY_START, BAD_METHOD_START, KEPT_END, CLOSED_END}
use Rattle.node_monitoring.specs.declared.report_text.ReportKind.{ReportKind}
use Rattle.node_monitoring.specs.declared.report_text.ReportKind.TheVariants.{Metrics, Well, Unready, BadMethod}

-- the head up to the length of the body
abbrev pub start_text : ReportKind → List ℕ
start_text Metrics = METRICS_START.now
start_text Well = WELL_START.now
start_text Unready = UNREADY_START.now
start_text BadMethod = BAD_METHOD_START.now

-- the rest of the head, which announces the end of a connection that is not kept
abbrev pub end_text : Bool → List ℕ
end_text keeps = if keeps then KEPT_END.now else CLOSED_END.now

-- the status
abbrev pub status_of : ReportKind → ℕ
status_of Metrics = 200
status_of Well = 200
status_of Unready = 503
status_of BadMethod = 405

-- the body, or none if only the head was requested
abbrev pub sent_body : Bool → List ℕ → List ℕ
sent_body head_alone body = if head_alone then [] else body

-- the response
unfoldable pub report_text : ReportKind → Bool → Bool → List ℕ → List ℕ
report_text kind keeps head_alone body =
    start_text kind ++ (decimal (length body) ++ (end_text keeps ++ sent_body head_alone body))

-- the text is one head and then the body, or the head alone; the head states the status and the length of the body, that
-- no cache keeps the response (RFC 9111, section 5.2.2.5), and whether the connection is closed
pub record IsReportMessage (kind : ReportKind) (keeps head_alone : Bool) (body text : List ℕ) : Type 0 where
  pub head : ResponseHead
  pub reads : ReadsResponse text head (sent_body head_alone body)
  pub status : status_code head ≡ status_of kind
  pub size : values_named (codes "content-length") head.fields ≡ decimal (length body) ∷ []
  pub caching : values_named (codes "cache-control") head.fields ≡ codes "no-store" ∷ []
  pub connection : lacks_close head.fields ≡ keeps
