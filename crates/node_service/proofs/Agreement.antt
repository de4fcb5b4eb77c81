-- Two nodes that report the same releases agree.
use Rattle.std.proofs.Common.{◌≡◌, ℕ, Bool, false, List, Option, Some, None, inl, inr, sym, ap, ◌∙◌, subst}
use Rattle.std.proofs.lemmas.Bool.{false≢true}
use Rattle.httparse.specs.Grammar.{RequestHead}
use Rattle.httparse.proofs.GrammarLemmas.{request_unique}
use Rattle.feed_answer.specs.Today.{TodayValue}
use Rattle.feed_kbart.specs.Files.{holdings_of}
use Rattle.feed_model.specs.History.{History}
use Rattle.node_request.specs.FetchRequests.{FetchPolicyValue}
use Rattle.node_request.specs.FoundRequests.{BeginsWith}
use Rattle.node_response.specs.Responses.{ResponseTextValue}
use Rattle.node_operator.specs.FeedResponses.{feed_target, IsFeedAnswer}
use Rattle.node_resolver.specs.Laws.{SameReleasesSameNodeBytes}
use Rattle.node_resolver.specs.NodeResponses.{IsNodeResponseAt}
use Rattle.node_operator.specs.SitesResponses.{AsksForNoSites, IsSitesAnswer, is_for_sites}
use Rattle.node_sites.specs.declared.node_sites.NodeSites.{NodeSites}
use Rattle.node_monitoring.specs.Reports.{report_of, AsksForNoReport}
use Rattle.node_monitoring.specs.declared.report_text.ReportResponse.{ReportResponse}
use Rattle.node_machine.specs.NodeEvents.{feed_history}
use Rattle.node_machine.specs.Rules.{Terms}
use Rattle.node_machine.specs.Promise.{FilesArePublished}
use Rattle.node_service.specs.declared.responder.FeedResponder.{FeedResponder}
use Rattle.node_service.specs.Reports.{IsReportFor}
use Rattle.node_service.specs.Responders.{IsTurnText}
use Rattle.node_service.specs.Agreement.{AsksForNoFeed, IsOfReader, NodesAgree, HitsArePublished}

one_head : (bytes : List ℕ) (head other : RequestHead) → BeginsWith bytes head → BeginsWith bytes other → head ≡ other
one_head bytes head other begins also = (request_unique bytes head other begins.rest also.rest begins.reads also.reads).0

none_some : {A X : Type 0} (o : Option X) (x : X) → o ≡ None → o ≡ Some x → A
none_some o x none some = absurd (cc)

-- a reader asks for no report
no_report : {A : Type 0} (responder : FeedResponder) (is_local : Bool) (h : History) (bytes : List ℕ) (keeps : Bool) (reply : ReportResponse) → AsksForNoReport bytes
    → IsReportFor responder is_local h bytes keeps reply → A
no_report responder is_local h bytes keeps reply (inl none) is = absurd (none is.is.head is.is.begins)
no_report responder is_local h bytes keeps reply (inr (head, begins, none)) is =
    none_some (report_of is.is.head) is.is.asked (subst (λ (r : RequestHead). report_of r ≡ None) (one_head bytes head is.is.head begins is.is.begins) none) is.is.names

-- and for nothing of the feed
no_feed : {A : Type 0} (policy : FetchPolicyValue) (bytes : List ℕ) (keeps : Bool) (response : ResponseTextValue) → AsksForNoFeed bytes → IsFeedAnswer policy bytes keeps response → A
no_feed policy bytes keeps response (inl none) is = absurd (none is.head is.begins)
no_feed policy bytes keeps response (inr (head, begins, none)) is =
    none_some (feed_target is.head) is.target (subst (λ (r : RequestHead). feed_target r ≡ None) (one_head bytes head is.head begins is.begins) none) is.names

-- and for no folder
no_sites : {A : Type 0} (has_folder : Bool) (policy : FetchPolicyValue) (bytes : List ℕ) (keeps : Bool) (response : ResponseTextValue) → AsksForNoSites bytes
    → IsSitesAnswer has_folder policy bytes keeps response → A
no_sites has_folder policy bytes keeps response (inl none) is = absurd (none is.head is.begins)
no_sites has_folder policy bytes keeps response (inr (head, begins, none)) is =
    absurd (false≢true (sym (subst (λ (r : RequestHead). is_for_sites r ≡ false) (one_head bytes head is.head begins is.begins) none) ∙ is.asks))

-- what a reader gets
pub record IsRead (responder : FeedResponder) (terms : Terms NodeSites) (h : History) (bytes body : List ℕ) (keeps : Bool) (text : List ℕ) : Type 0 where
  pub response : ResponseTextValue
  pub is : IsNodeResponseAt terms.sites terms.policy terms.today h bytes body keeps response
  pub same : text ≡ response.bytes

read_by : (responder : FeedResponder) (terms : Terms NodeSites) (h : History) (bytes body : List ℕ) (keeps : Bool) (text : List ℕ) → IsOfReader bytes
    → IsTurnText responder terms h bytes body keeps text → IsRead responder terms h bytes body keeps text
read_by responder terms h bytes body keeps text reader (inl (reply, is, same)) = no_report responder terms.is_local h bytes keeps reply reader.no_report is
read_by responder terms h bytes body keeps text reader (inr (none, (response, streamed, (inl (inl feed), begins), same))) =
    no_feed terms.policy bytes keeps response reader.no_feed feed
read_by responder terms h bytes body keeps text reader (inr (none, (response, streamed, (inl (inr (other, sites)), begins), same))) =
    no_sites responder.has_folder terms.policy bytes keeps response reader.no_sites sites
read_by responder terms h bytes body keeps text reader (inr (none, (response, streamed, (inr (other, free, is), begins), same))) =
    record { response = response; is = is; same = same }

pub agree : FilesArePublished NodeSites → SameReleasesSameNodeBytes → NodesAgree
agree files bytes_same file one other here there moment another bytes body keeps text reply sites day first second alike reader is also =
    let mine = read_by one here (feed_history moment) bytes body keeps text reader is in
    let theirs = read_by other there (feed_history another) bytes body keeps reply reader also in
    let same : mine.response ≡ theirs.response = bytes_same file here.sites there.sites there.today (feed_history moment) (feed_history another) here.policy there.policy bytes body keeps
    mine.response theirs.response (λ n whole of. files file moment n whole first.given first.of_files of) (λ n whole of. files file another n whole second.given second.of_files of)
    alike sites reader.no_fetch
    (subst (λ (t : TodayValue). IsNodeResponseAt here.sites here.policy t (feed_history moment) bytes body keeps mine.response) day mine.is) theirs.is in
    mine.same ∙ ap (λ (r : ResponseTextValue). r.bytes) same ∙ sym theirs.same

pub hits : FilesArePublished NodeSites → HitsArePublished
hits files file responder terms moment bytes body keeps text from reader is =
    let mine = read_by responder terms (feed_history moment) bytes body keeps text reader is in (
      mine.response,
      mine.same,
      record {
        actives = mine.is.0;
        reported = mine.is.1;
        published = λ i d within. (let active = mine.is.1.each i d within in
            active.holdings ∙ ap holdings_of (files file moment _ active.text from.given from.of_files active.file));
        is = mine.is.2;
      },
    )
