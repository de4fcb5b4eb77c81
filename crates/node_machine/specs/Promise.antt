-- The promise of a node that runs.
use Rattle.std.specs.Prelude.{◌≡◌, ◌≤ℤ◌, ◌⊎◌, ℕ, Bool, false, List, [], ◌∷◌, ◌++◌, length, slice_get, Option, Some, None, IfSome, IsSome, Result, Ok, option_copied}
use Rattle.httparse.specs.Grammar.{RequestHead}
use Rattle.feed_answer.specs.Today.{TodayValue}
use Rattle.feed_names.specs.ReleaseName.{Name}
use Rattle.feed_names.specs.declared.release_name.NameFault.{NameFault}
use Rattle.feed_keep.specs.declared.keep.Keep.{Ghosts}
use Rattle.feed_model.specs.History.{History, Answer, IsFile, Reports, byte_at}
use Rattle.feed_model.specs.Reply.{IsLegalWith}
use Rattle.feed_releases.specs.Feeds.{most_of}
use Rattle.feed_http.specs.declared.fetching.got.Got.{Got}
use Rattle.feed_http.specs.declared.fetching.got.Got.TheVariants as got
use Rattle.feed_fetch.specs.declared.machine.Phase.{Phase}
use Rattle.feed_fetch.specs.declared.stop.RequestFault.{RequestFault}
use Rattle.node_connection.specs.Events.{Event, received_bytes, sent_bytes}
use Rattle.node_connection.specs.Responses.{Responses, IsServed}
use Rattle.node_connection.specs.Streams.{AreResponses}
use Rattle.node_machine.specs.declared.machine.NodeMachine.{NodeMachine}
use Rattle.node_machine.specs.Exchanges.{ExchangeEvent, HasResponse, HasArrivedPart, Reads}
use Rattle.node_request.specs.declared.sites_target.SitesRequest.{SitesRequest}
use Rattle.node_request.specs.declared.sites_target.SitesRequest.TheVariants.{Reload}
use Rattle.node_machine.specs.NodeEvents.{NodeEvent, Accepted, Served, Passed, DayBegan, Asked, Began, Finished, Took, TookPart, Exchanged}
use Rattle.node_machine.specs.NodeEvents.{AskedSites, SitesBegan, SitesKept, Reopened}
use Rattle.node_machine.specs.NodeEvents.{events_of, feed_history, today_in, exchange_in, requested_in, fetching_in, busy_in, IsMoment}
use Rattle.node_machine.specs.NodeEvents.{sites_in, reload_in, reloading_in}
use Rattle.node_machine.specs.Rules.{Rules, Terms, responses_at, terms_with, IsAskedBy, IsSitesAskedBy, AreGiven}
use Rattle.node_machine.specs.Nodes.{HasHistory, rules_of}

-- in a share of a turn that the connection with this key had, the responder had this response to the feed as it was
-- then, on that day, with the sites that the node had then, for a busy node exactly if a fetch was under way or requested, and
-- for one that reads its folder exactly if it did
pub record IsMadeFor {V : Type 0} (rules : Rules V) (token : Option (List ℕ)) (key : ℕ) (history : List (NodeEvent V)) (head body : List ℕ) (keeps : Bool)
    (reply : Option (List ℕ)) : Type 0 where
  pub share : List Event
  pub earlier : List (NodeEvent V)
  pub moment : IsMoment (Served key share ∷ earlier) history
  pub is_local : Bool
  pub today : TodayValue
  pub day : today_in earlier ≡ Some today
  pub sites : V
  pub had : sites_in earlier ≡ Some sites
  pub made : IfSome reply (rules.1 (terms_with token (busy_in earlier) (reloading_in earlier) is_local today sites) (feed_history earlier) head body keeps)

-- the responses of all these shares
abbrev pub responses_in : {V : Type 0} → Rules V → Option (List ℕ) → ℕ → List (NodeEvent V) → Responses
responses_in rules token key history = (rules.0, IsMadeFor rules token key history)

-- each response in the last share of a turn is one of the responder to the feed as it was then, on that day, with the sites
-- that the node had then, for a busy node exactly if a fetch was under way or requested, and for one that reads its folder
-- exactly if it did
abbrev pub AreOfTheMoment : {V : Type 0} → Rules V → Option (List ℕ) → List (NodeEvent V) → Type 0
AreOfTheMoment {V} rules token history =
    (key : ℕ) (share : List Event) (earlier : List (NodeEvent V)) → history ≡ Served key share ∷ earlier
    → (is_local : Bool) × (today : TodayValue) × (today_in earlier ≡ Some today) × (sites : V) × (sites_in earlier ≡ Some sites)
    × AreResponses (responses_at rules (terms_with token (busy_in earlier) (reloading_in earlier) is_local today sites) (feed_history earlier)) share

-- a report of a package names no older release than one at an earlier moment, in this run or before
abbrev pub NeverOlder : {V : Type 0} → List (NodeEvent V) → Type 0
NeverOlder {V} history =
    (moment : List (NodeEvent V)) (package_name : List ℕ) (n : Name) (report : Option Name) → IsMoment moment history
    → Reports (feed_history moment) package_name (Some n) → Reports (feed_history history) package_name report
    → (m : Name) × (report ≡ Some m) × (m.package_name ≡ package_name) × (n.day ≤ℤ m.day)

-- a connection of the node had a request that has the token and asks for this release
pub record IsAuthorized {V : Type 0} (token : Option (List ℕ)) (name : Name) (history : List (NodeEvent V)) : Type 0 where
  pub key : ℕ
  pub bytes : List ℕ
  pub earlier : List (NodeEvent V)
  pub moment : IsMoment (Asked key bytes (Ok name) ∷ earlier) history
  pub asked : IsAskedBy token (events_of key earlier) bytes (Ok name)

-- the feed changes only by the fetch of a release that is under way, and that such a request asked for
pub record ChangesByToken {V : Type 0} (token : Option (List ℕ)) (history : List (NodeEvent V)) : Type 0 where
  pub reply : (name : Name) (phase : Phase) (reply : Result Got RequestFault) (steps : History) (earlier : List (NodeEvent V))
      → history ≡ Took name phase reply steps ∷ earlier → (fetching_in earlier ≡ Some name) × IsAuthorized token name earlier
  pub part : (name : Name) (first size : ℕ) (bytes : List ℕ) (answer : Answer) (earlier : List (NodeEvent V))
      → history ≡ TookPart name first size bytes answer ∷ earlier → (fetching_in earlier ≡ Some name) × IsAuthorized token name earlier

-- fetches are one at a time: a request is noted only if no fetch is under way or requested; a fetch begins only if it was
-- requested and none is under way; and it ends only if it is under way
pub record FetchesInTurn {V : Type 0} (history : List (NodeEvent V)) : Type 0 where
  pub asked : (key : ℕ) (bytes : List ℕ) (asked : Result Name NameFault) (earlier : List (NodeEvent V)) → history ≡ Asked key bytes asked ∷ earlier → busy_in earlier ≡ false
  pub began : (asked : Result Name NameFault) (earlier : List (NodeEvent V))
      → history ≡ Began asked ∷ earlier → (requested_in earlier ≡ Some asked) × (fetching_in earlier ≡ None)
  pub finished : (earlier : List (NodeEvent V)) → history ≡ Finished ∷ earlier → IsSome (fetching_in earlier)

-- a connection of the node had a request that has the token and asks that the folder of site files be read again, so that its
-- sites begin
pub record HasAskedSites {V : Type 0} (token : Option (List ℕ)) (history : List (NodeEvent V)) : Type 0 where
  pub key : ℕ
  pub bytes : List ℕ
  pub earlier : List (NodeEvent V)
  pub moment : IsMoment (AskedSites key bytes Reload ∷ earlier) history
  pub asked : IsSitesAskedBy token (events_of key earlier) bytes Reload

-- the sites change only as the node is opened, or after such a request
pub record ReloadsByToken {V : Type 0} (token : Option (List ℕ)) (history : List (NodeEvent V)) : Type 0 where
  pub began : (sites : V) (earlier : List (NodeEvent V)) → history ≡ SitesBegan sites ∷ earlier → (sites_in earlier ≡ None) ⊎ HasAskedSites token earlier

-- the folder is read once at a time: a request is noted only if it is not being read; and sites begin, or are kept, only for
-- the last request, whose reading then ends; but those of an opened node need none
pub record ReloadsInTurn {V : Type 0} (history : List (NodeEvent V)) : Type 0 where
  pub asked : (key : ℕ) (bytes : List ℕ) (asked : SitesRequest) (earlier : List (NodeEvent V)) → history ≡ AskedSites key bytes asked ∷ earlier → reload_in earlier ≡ None
  pub began : (sites : V) (earlier : List (NodeEvent V)) → history ≡ SitesBegan sites ∷ earlier → (sites_in earlier ≡ None) ⊎ (reload_in earlier ≡ Some Reload)
  pub kept : (earlier : List (NodeEvent V)) → history ≡ SitesKept ∷ earlier → IsSome (reload_in earlier)

-- the promise, of a node whose responder has these rules, and that has this token and may record this many releases: on
-- each connection the bytes sent are the beginning of the responses, in order, to the requests in the bytes received;
-- each response is one of the responder to the feed as it was when the response was made, on that day, with the sites
-- that the node had then, for a busy node exactly if a fetch was under way or requested, and for one that reads its
-- folder exactly if it did; the feed has a legal history, of exactly the events that a fetch owes for the responses of
-- the knowledge base; it reports no older release than before; only requests that have the token change it; fetches are
-- one at a time; the sites change only as the node is opened, or after a request that has the token; and the folder is
-- read once at a time
pub record IsRightNode {V : Type 0} (rules : Rules V) (token : Option (List ℕ)) (most : ℕ) (history : List (NodeEvent V)) : Type 0 where
  pub served : (key : ℕ) → IsServed (responses_in rules token key history) (received_bytes (events_of key history)) (sent_bytes (events_of key history))
  pub moment : AreOfTheMoment rules token history
  pub legal : IsLegalWith most (feed_history history)
  pub given : AreGiven history
  pub later : NeverOlder history
  pub authorized : ChangesByToken token history
  pub in_turn : FetchesInTurn history
  pub reloaded : ReloadsByToken token history
  pub reloads_in_turn : ReloadsInTurn history

module _ {T K S V : Type 0} {k : Ghosts K} (wanted : S → RequestHead → ℕ)
    (replies : S → Terms V → History → List ℕ → List ℕ → Bool → List ℕ → Type 0) (sites : S → V) where
  -- the node keeps the promise after each history that it may have
  abbrev pub NodeIsRight : NodeMachine T K S k → Type 0
  NodeIsRight node =
      (history : List (NodeEvent V)) → HasHistory wanted replies sites node history
      → IsRightNode (rules_of wanted replies sites node) (option_copied node.token) (most_of node.feed) history

  -- each history that the node had continues with some events to one that it has, after which it keeps the promise
  abbrev pub IsRightAfter : NodeMachine T K S k → NodeMachine T K S k → Type 0
  IsRightAfter old new =
      (history : List (NodeEvent V)) → HasHistory wanted replies sites old history
      → (later : List (NodeEvent V)) × HasHistory wanted replies sites new (later ++ history)
      × IsRightNode (rules_of wanted replies sites new) (option_copied new.token) (most_of new.feed) (later ++ history)

-- the bytes from this place on are those of the file
abbrev pub AgreeWith : List ℕ → ℕ → List ℕ → Type 0
AgreeWith file first bytes = (place byte : ℕ) → byte_at first bytes place ≡ Some byte → slice_get file place ≡ Some byte

-- a response of the knowledge base has the length of the file, or bytes of it
abbrev pub IsOfFile : List ℕ → Got → Type 0
IsOfFile file (got.Size size) = size ≡ length file
IsOfFile file (got.Piece first total bytes) = AgreeWith file first bytes
IsOfFile file (got.Whole bytes) = bytes ≡ file
IsOfFile file given = Unit {0}

-- the bytes received in an exchange are a slice of the file: a complete response is of it, and the front of a whole
-- file of a stated length is completed by some bytes to a response with the file
pub record IsServedFrom (file : List ℕ) (events : List ExchangeEvent) : Type 0 where
  pub complete : (given : Got) → HasResponse events (Ok given) → IsOfFile file given
  pub arriving : (size first : ℕ) (bytes : List ℕ) → HasArrivedPart events size first bytes → (more : List ℕ) × Reads events more (Ok (got.Whole file))

-- the knowledge bases of a node served slices of the same published files, one for each release
abbrev pub AreOfFiles : {V : Type 0} → (Name → List ℕ) → List (NodeEvent V) → Type 0
AreOfFiles file [] = Unit {0}
AreOfFiles file (Took name phase reply steps ∷ earlier) = IsServedFrom (file name) (exchange_in earlier) × AreOfFiles file earlier
AreOfFiles file (TookPart name first size bytes answer ∷ earlier) = IsServedFrom (file name) (exchange_in earlier) × AreOfFiles file earlier
AreOfFiles file (event ∷ earlier) = AreOfFiles file earlier

-- each complete file of such a node is the published one
abbrev pub FilesArePublished : Type 0 → Type 0
FilesArePublished V =
    (file : Name → List ℕ) (history : List (NodeEvent V)) (n : Name) (text : List ℕ)
    → AreGiven history → AreOfFiles file history → IsFile (feed_history history) n text → text ≡ file n
