-- With other sites a responder has the same responses, in the same circumstances.
use Rattle.std.proofs.Common.{ℕ, Bool, List, inl, inr}
use Rattle.feed_model.specs.History.{History}
use Rattle.node_sites.specs.declared.node_sites.NodeSites.{NodeSites}
use Rattle.node_monitoring.specs.declared.report_text.ReportResponse.{ReportResponse}
use Rattle.node_machine.specs.Occasions.{AreResponsesOf}
use Rattle.node_machine.specs.Rules.{Terms}
use Rattle.node_service.specs.declared.responder.FeedResponder.{FeedResponder}
use Rattle.node_service.specs.Reports.{IsReportFor}
use Rattle.node_service.specs.Responders.{IsTurnText}

-- the responder with other sites
abbrev pub with_sites : NodeSites → FeedResponder → FeedResponder
with_sites sites responder = record responder { sites = sites }

same_report : (old : FeedResponder) (sites : NodeSites) (is_local : Bool) (h : History) (bytes : List ℕ) (keeps : Bool) (reply : ReportResponse)
    → IsReportFor old is_local h bytes keeps reply → IsReportFor (with_sites sites old) is_local h bytes keeps reply
same_report old sites is_local h bytes keeps reply is = record {
  allowed = is.allowed;
  metrics = is.metrics;
  gauges = is.gauges;
  actives = is.actives;
  reported = is.reported;
  releases = is.releases;
  series = is.series;
  is = is.is;
}

same_text : (old : FeedResponder) (sites : NodeSites) (terms : Terms NodeSites) (h : History) (head body : List ℕ) (keeps : Bool) (text : List ℕ)
    → IsTurnText old terms h head body keeps text → IsTurnText (with_sites sites old) terms h head body keeps text
same_text old sites terms h head body keeps text (inl (reply, is, same)) = inl (reply, same_report old sites terms.is_local h head keeps reply is, same)
same_text old sites terms h head body keeps text (inr other) = inr other

pub same_responses : (old : FeedResponder) (sites : NodeSites) → AreResponsesOf (IsTurnText old) (IsTurnText (with_sites sites old))
same_responses old sites terms h head body keeps text =
    (same_text old sites terms h head body keeps text, same_text (with_sites sites old) old.sites terms h head body keeps text)
