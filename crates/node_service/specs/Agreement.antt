-- The agreement of two nodes that fetched from the same published files.
use Rattle.std.specs.Prelude.{◌≡◌, ◌⊎◌, ℕ, Bool, List, All, None}
use Rattle.httparse.specs.Grammar.{RequestHead}
use Rattle.feed_answer.specs.Today.{TodayValue}
use Rattle.feed_names.specs.ReleaseName.{Name}
use Rattle.feed_kbart.specs.Files.{holdings_of}
use Rattle.feed_model.specs.History.{History}
use Rattle.feed_releases.specs.Actives.{ActiveValue, AreReported, ReportAlike}
use Rattle.node_request.specs.FetchRequests.{FetchPolicyValue}
use Rattle.node_request.specs.FoundRequests.{BeginsWith, HasNoHead}
use Rattle.node_response.specs.Responses.{ResponseTextValue}
use Rattle.node_resolver.specs.Answers.{dated}
use Rattle.node_operator.specs.FeedResponses.{feed_target}
use Rattle.node_sites.specs.declared.node_sites.NodeSites.{NodeSites}
use Rattle.node_resolver.specs.NodeResponses.{AsksForNoFetch, HaveSameSite, IsNodeResponse}
use Rattle.node_operator.specs.SitesResponses.{AsksForNoSites}
use Rattle.node_monitoring.specs.Reports.{AsksForNoReport}
use Rattle.node_machine.specs.NodeEvents.{NodeEvent, feed_history}
use Rattle.node_machine.specs.Rules.{Terms, AreGiven}
use Rattle.node_machine.specs.Promise.{AreOfFiles}
use Rattle.node_service.specs.declared.responder.FeedResponder.{FeedResponder}
use Rattle.node_service.specs.Responders.{IsTurnText}

-- the bytes are not a request to `/feed` or below it
abbrev pub AsksForNoFeed : List ℕ → Type 0
AsksForNoFeed bytes = HasNoHead bytes ⊎ ((head : RequestHead) × BeginsWith bytes head × (feed_target head ≡ None))

-- the bytes are what a reader sends: they ask neither for a fetch or its end, nor for the recorded releases, nor for the folder
-- of site files, nor for a report
pub record IsOfReader (bytes : List ℕ) : Type 0 where
  pub no_fetch : AsksForNoFetch bytes
  pub no_feed : AsksForNoFeed bytes
  pub no_sites : AsksForNoSites bytes
  pub no_report : AsksForNoReport bytes

-- the knowledge base of a node with this history served slices of the files, and nothing else changed the feed
pub record IsFromFiles (file : Name → List ℕ) (history : List (NodeEvent NodeSites)) : Type 0 where
  pub given : AreGiven history
  pub of_files : AreOfFiles file history

-- two nodes of the same version and settings, whose knowledge bases serve slices of the same published files, respond
-- to a request of a reader with the same bytes. The condition is that both respond on the same day, report the same
-- releases then, and have the same site for the host of the request. The nodes may differ in all else that they did, in
-- their other sites and in their tokens
abbrev pub NodesAgree : Type 0
NodesAgree =
    (file : Name → List ℕ) (one other : FeedResponder) (here there : Terms NodeSites) (moment another : List (NodeEvent NodeSites))
    (bytes body : List ℕ) (keeps : Bool) (text reply : List ℕ)
    → HaveSameSite bytes here.sites there.sites → here.today ≡ there.today → IsFromFiles file moment → IsFromFiles file another
    → ReportAlike (feed_history moment) (feed_history another) → IsOfReader bytes
    → IsTurnText one here (feed_history moment) bytes body keeps text → IsTurnText other there (feed_history another) bytes body keeps reply
    → text ≡ reply

-- the response is made from exactly the releases that the node reports, with the holdings of their whole published
-- files
pub record IsOfPublished (file : Name → List ℕ) (sites : NodeSites) (policy : FetchPolicyValue) (today : TodayValue) (h : History) (bytes body : List ℕ)
    (keeps : Bool) (response : ResponseTextValue) : Type 0 where
  pub actives : List ActiveValue
  pub reported : AreReported h actives
  pub published : All (λ active. active.holdings ≡ holdings_of (file active.name)) actives
  pub is : IsNodeResponse sites policy bytes body keeps (dated today actives) response

-- each response of a node to a reader is such a response
abbrev pub HitsArePublished : Type 0
HitsArePublished =
    (file : Name → List ℕ) (responder : FeedResponder) (terms : Terms NodeSites) (moment : List (NodeEvent NodeSites)) (bytes body : List ℕ) (keeps : Bool) (text : List ℕ)
    → IsFromFiles file moment → IsOfReader bytes → IsTurnText responder terms (feed_history moment) bytes body keeps text
    → (response : ResponseTextValue) × (text ≡ response.bytes)
    × IsOfPublished file terms.sites terms.policy terms.today (feed_history moment) bytes body keeps response
