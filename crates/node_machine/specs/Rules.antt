-- The events that a node may have.
use Rattle.std.specs.Prelude.{◌≡◌, ◌⊎◌, ℕ, Bool, false, List, [], ◌∷◌, ◌++◌, Option, Some, None, IfSome, IsSome, Result}
use Rattle.httparse.specs.Grammar.{RequestHead}
use Rattle.feed_answer.specs.Today.{TodayValue}
use Rattle.feed_names.specs.ReleaseName.{Name}
use Rattle.feed_names.specs.declared.release_name.NameFault.{NameFault}
use Rattle.feed_model.specs.History.{History}
use Rattle.feed_fetch.specs.Owed.{AreOwed}
use Rattle.node_request.specs.FetchRequests.{FetchPolicyValue, IsFetchBy}
use Rattle.node_request.specs.SitesRequests.{IsSitesBy}
use Rattle.node_request.specs.declared.sites_target.SitesRequest.{SitesRequest}
use Rattle.node_request.specs.declared.sites_target.SitesRequest.TheVariants.{Reload}
use Rattle.node_connection.specs.declared.connection.Connection.{Connection}
use Rattle.node_connection.specs.Events.{Event, received_bytes, requests_in}
use Rattle.node_connection.specs.Requests.{AreRequestsIn, IsLastOf}
use Rattle.node_connection.specs.Responses.{Responses}
use Rattle.node_connection.specs.States.{HasState}
use Rattle.node_connection.specs.Streams.{AreResponses}
use Rattle.node_machine.specs.Exchanges.{ExchangeEvent, Requested, IsOwed, HasResponse, HasArrivedPart, name_of}
use Rattle.node_machine.specs.NodeEvents.{NodeEvent, Accepted, Served, Passed, DayBegan, Asked, Began, Finished, Took, TookPart, Exchanged}
use Rattle.node_machine.specs.NodeEvents.{AskedSites, SitesBegan, SitesKept, Reopened}
use Rattle.node_machine.specs.NodeEvents.{events_of, feed_history, today_in, exchange_in, requested_in, fetching_in, busy_in}
use Rattle.node_machine.specs.NodeEvents.{sites_in, reload_in, reloading_in}

-- the circumstances of a response beside the feed: who may make the node fetch or read its folder again, whether the client
-- is on the same machine, the day, and the sites of the node, which are of the type V
pub record Terms (V : Type 0) : Type 0 where
  pub policy : FetchPolicyValue
  pub is_local : Bool
  pub today : TodayValue
  pub sites : V

-- the responses of a responder to a feed: the length of the body that is wanted after a head; and a relation between
-- the circumstances, the history of the feed, the bytes of a head, a body, whether the connection persists, and the
-- response
abbrev pub Rules : Type 0 → Type 1
Rules V = (RequestHead → ℕ) × (Terms V → History → List ℕ → List ℕ → Bool → List ℕ → Type 0)

-- the responses in these circumstances to a feed with this history; the responder may make none
abbrev pub responses_at : {V : Type 0} → Rules V → Terms V → History → Responses
responses_at rules terms h = (rules.0, λ head body keeps reply. IfSome reply (rules.1 terms h head body keeps))

-- the circumstances in a node with this token
abbrev pub terms_with : {V : Type 0} → Option (List ℕ) → Bool → Bool → Bool → TodayValue → V → Terms V
terms_with token is_busy is_reloading is_local today sites = record {
  policy = record { token = token; is_busy = is_busy; is_reloading = is_reloading };
  is_local = is_local;
  today = today;
  sites = sites;
}

-- a share of a turn is right for the connection with this key: with it, its events are those of some connection; and each
-- response that was made in it is one to its request, of a feed that has the history of this moment, on the day that it
-- is, with the sites that the node has, from a node that is busy exactly if a fetch is under way or was requested, and that
-- reads its folder exactly if it was asked to
pub record IsShare {V : Type 0} (rules : Rules V) (token : Option (List ℕ)) (key : ℕ) (share : List Event) (earlier : List (NodeEvent V)) : Type 0 where
  pub connection : Connection
  pub state : HasState connection (share ++ events_of key earlier)
  pub is_local : Bool
  pub today : TodayValue
  pub day : today_in earlier ≡ Some today
  pub sites : V
  pub had : sites_in earlier ≡ Some sites
  pub replied : AreResponses (responses_at rules (terms_with token (busy_in earlier) (reloading_in earlier) is_local today sites) (feed_history earlier)) share

-- the bytes received on a connection with these events begin with the requests that had a response; the last request
-- that had one has the token and asks for this release, or has an invalid name
pub record IsAskedBy (token : Option (List ℕ)) (events : List Event) (bytes : List ℕ) (asked : Result Name NameFault) : Type 0 where
  pub rest : List ℕ
  pub in_order : AreRequestsIn (received_bytes events) (requests_in events) rest
  pub last : IsLastOf (requests_in events) bytes
  pub asks : IsFetchBy false token bytes (Some asked)

-- the same of the last request that had one: it has the token, and asks that the folder of site files be read again, or
-- checked
pub record IsSitesAskedBy (token : Option (List ℕ)) (events : List Event) (bytes : List ℕ) (asked : SitesRequest) : Type 0 where
  pub rest : List ℕ
  pub in_order : AreRequestsIn (received_bytes events) (requests_in events) rest
  pub last : IsLastOf (requests_in events) bytes
  pub asks : IsSitesBy false token bytes (Some asked)

-- sites begin as the node is opened, or after a request that the folder be read again
abbrev pub MayBeginSites : {V : Type 0} → List (NodeEvent V) → Type 0
MayBeginSites earlier = (sites_in earlier ≡ None) ⊎ (reload_in earlier ≡ Some Reload)

-- the node requests the release that it fetches
abbrev pub MayExchange : {V : Type 0} → ExchangeEvent → List (NodeEvent V) → Type 0
MayExchange (Requested name piece phase front request) earlier = fetching_in earlier ≡ Some name
MayExchange event earlier = Unit {0}

-- each event since the node was opened may follow those before it; an earlier run may have had another responder or token. A
-- request is noted only while no fetch is under way or requested, and only the fetch that was requested begins. A request
-- about the folder is noted only while the folder is not being read, and only that ends the reading
abbrev pub AreAllowed : {V : Type 0} → Rules V → Option (List ℕ) → List (NodeEvent V) → Type 0
AreAllowed rules token [] = Unit {0}
AreAllowed rules token (Accepted key ∷ earlier) = AreAllowed rules token earlier
AreAllowed rules token (Served key share ∷ earlier) = IsShare rules token key share earlier × AreAllowed rules token earlier
AreAllowed rules token (Passed millis ∷ earlier) = AreAllowed rules token earlier
AreAllowed rules token (DayBegan today ∷ earlier) = AreAllowed rules token earlier
AreAllowed rules token (Asked key bytes asked ∷ earlier) =
    IsAskedBy token (events_of key earlier) bytes asked × (busy_in earlier ≡ false) × AreAllowed rules token earlier
AreAllowed rules token (Began asked ∷ earlier) = (requested_in earlier ≡ Some asked) × (fetching_in earlier ≡ None) × AreAllowed rules token earlier
AreAllowed rules token (Finished ∷ earlier) = IsSome (fetching_in earlier) × AreAllowed rules token earlier
AreAllowed rules token (Took name phase reply steps ∷ earlier) = (fetching_in earlier ≡ Some name) × AreAllowed rules token earlier
AreAllowed rules token (TookPart name first size bytes answer ∷ earlier) = (fetching_in earlier ≡ Some name) × AreAllowed rules token earlier
AreAllowed rules token (Exchanged event ∷ earlier) = MayExchange event earlier × AreAllowed rules token earlier
AreAllowed rules token (AskedSites key bytes asked ∷ earlier) =
    IsSitesAskedBy token (events_of key earlier) bytes asked × (reload_in earlier ≡ None) × AreAllowed rules token earlier
AreAllowed rules token (SitesBegan sites ∷ earlier) = MayBeginSites earlier × AreAllowed rules token earlier
AreAllowed rules token (SitesKept ∷ earlier) = IsSome (reload_in earlier) × AreAllowed rules token earlier
AreAllowed rules token (Reopened ∷ earlier) = Unit {0}

-- a request to the knowledge base is the one that the fetch needs next
abbrev pub IsOwedAfter : ExchangeEvent → History → Type 0
IsOwedAfter (Requested name piece phase front request) h = IsOwed name piece phase front h request
IsOwedAfter event h = Unit {0}

-- in this run and the earlier ones, the node requested what the fetch needed next. Each response that it took is the
-- one to its last request, which was for this release, by the bytes received on that connection. The feed handled
-- exactly the events that the fetch owes for it. Each part that the node took is one of the file that was arriving
abbrev pub AreGiven : {V : Type 0} → List (NodeEvent V) → Type 0
AreGiven [] = Unit {0}
AreGiven (Took name phase reply steps ∷ earlier) =
    AreOwed name phase reply steps × (name_of (exchange_in earlier) ≡ Some name) × HasResponse (exchange_in earlier) reply
    × AreGiven earlier
AreGiven (TookPart name first size bytes answer ∷ earlier) =
    (name_of (exchange_in earlier) ≡ Some name) × HasArrivedPart (exchange_in earlier) size first bytes × AreGiven earlier
AreGiven (Exchanged event ∷ earlier) = IsOwedAfter event (feed_history earlier) × AreGiven earlier
AreGiven (event ∷ earlier) = AreGiven earlier
