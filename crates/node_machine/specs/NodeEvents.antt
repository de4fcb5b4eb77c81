-- The events of a node, the newest first.
use Rattle.std.specs.Prelude.{◌≡◌, ◌==◌, ◌||◌, if◌then◌else◌, ℕ, Bool, List, [], ◌∷◌, ◌++◌, Option, Some, None, is_some, Result, Ok, Err}
use Rattle.feed_answer.specs.Today.{TodayValue}
use Rattle.feed_names.specs.ReleaseName.{Name}
use Rattle.feed_names.specs.declared.release_name.NameFault.{NameFault}
use Rattle.feed_model.specs.History.{History, Answer, Piece}
use Rattle.feed_http.specs.declared.fetching.got.Got.{Got}
use Rattle.feed_fetch.specs.declared.machine.Phase.{Phase}
use Rattle.feed_fetch.specs.declared.stop.RequestFault.{RequestFault}
use Rattle.node_connection.specs.Events.{Event, Elapsed}
use Rattle.node_request.specs.declared.sites_target.SitesRequest.{SitesRequest}
use Rattle.node_machine.specs.Exchanges.{ExchangeEvent, Requested, exchange_with}

-- an event of a node. Its kinds, in order: a connection was accepted under a key. The connection with this key had
-- these events, the newest first. Time passed, and the clock of each connection counted this many milliseconds of it. A
-- day began. The request with these bytes, on the connection with this key, asked for this release, or has an invalid
-- name. The fetch of this release began, or was refused for its name. The fetch ended. The fetch of a release took the
-- response of the knowledge base to its request, and the feed handled these events, the newest first. It took a part of
-- a whole file, which the feed answered. On the connection to the knowledge base there was this event. The request with
-- these bytes, on the connection with this key, asked that the folder of site files be read again, or checked. The node
-- began to respond with these sites. The folder was read, and the node keeps its sites. The process ended, and the node
-- was opened again. V is the type of its sites
pub data NodeEvent (V : Type 0) : Type 0 where
  Accepted : (key : ℕ) → NodeEvent V
  Served : (key : ℕ) → (share : List Event) → NodeEvent V
  Passed : (millis : ℕ → ℕ) → NodeEvent V
  DayBegan : (today : TodayValue) → NodeEvent V
  Asked : (key : ℕ) → (bytes : List ℕ) → (asked : Result Name NameFault) → NodeEvent V
  Began : (asked : Result Name NameFault) → NodeEvent V
  Finished : NodeEvent V
  Took : (name : Name) → (phase : Phase) → (reply : Result Got RequestFault) → (steps : History) → NodeEvent V
  TookPart : (name : Name) → (first size : ℕ) → (bytes : List ℕ) → (answer : Answer) → NodeEvent V
  Exchanged : (event : ExchangeEvent) → NodeEvent V
  AskedSites : (key : ℕ) → (bytes : List ℕ) → (asked : SitesRequest) → NodeEvent V
  SitesBegan : (sites : V) → NodeEvent V
  SitesKept : NodeEvent V
  Reopened : NodeEvent V

-- the events of the connection that has this key
abbrev pub events_of : {V : Type 0} → ℕ → List (NodeEvent V) → List Event
events_of key [] = []
events_of key (Accepted other ∷ earlier) = if other == key then [] else events_of key earlier
events_of key (Served other share ∷ earlier) = if other == key then share ++ events_of key earlier else events_of key earlier
events_of key (Passed millis ∷ earlier) = Elapsed (millis key) ∷ events_of key earlier
events_of key (Reopened ∷ earlier) = []
events_of key (event ∷ earlier) = events_of key earlier

-- the events of the feed, over all runs of the process: only a response of the knowledge base adds some
abbrev pub feed_history : {V : Type 0} → List (NodeEvent V) → History
feed_history [] = []
feed_history (Took name phase reply steps ∷ earlier) = steps ++ feed_history earlier
feed_history (TookPart name first size bytes answer ∷ earlier) = (Piece name first (Some size) bytes, answer) ∷ feed_history earlier
feed_history (event ∷ earlier) = feed_history earlier

-- what the last request asked for, if its fetch did not begin since
abbrev pub requested_in : {V : Type 0} → List (NodeEvent V) → Option (Result Name NameFault)
requested_in [] = None
requested_in (Asked key bytes asked ∷ earlier) = Some asked
requested_in (Began asked ∷ earlier) = None
requested_in (Reopened ∷ earlier) = None
requested_in (event ∷ earlier) = requested_in earlier

-- the release, unless the name is invalid
abbrev pub name_in : Result Name NameFault → Option Name
name_in (Ok name) = Some name
name_in (Err fault) = None

-- the release that is fetched
abbrev pub fetching_in : {V : Type 0} → List (NodeEvent V) → Option Name
fetching_in [] = None
fetching_in (Began asked ∷ earlier) = name_in asked
fetching_in (Finished ∷ earlier) = None
fetching_in (Reopened ∷ earlier) = None
fetching_in (event ∷ earlier) = fetching_in earlier

-- a fetch is under way, or was requested
abbrev pub busy_in : {V : Type 0} → List (NodeEvent V) → Bool
busy_in history = is_some (fetching_in history) || is_some (requested_in history)

-- the history was this one at some moment
abbrev pub IsMoment : {V : Type 0} → List (NodeEvent V) → List (NodeEvent V) → Type 0
IsMoment {V} moment history = (later : List (NodeEvent V)) × (later ++ moment ≡ history)

-- with the event that a connection was accepted, if it was
abbrev pub accepted_in : {V : Type 0} → Option ℕ → List (NodeEvent V) → List (NodeEvent V)
accepted_in None history = history
accepted_in (Some key) history = Accepted key ∷ history

-- the day that it is
abbrev pub today_in : {V : Type 0} → List (NodeEvent V) → Option TodayValue
today_in [] = None
today_in (DayBegan today ∷ earlier) = Some today
today_in (Reopened ∷ earlier) = None
today_in (event ∷ earlier) = today_in earlier

-- the sites that the node has
abbrev pub sites_in : {V : Type 0} → List (NodeEvent V) → Option V
sites_in [] = None
sites_in (SitesBegan sites ∷ earlier) = Some sites
sites_in (Reopened ∷ earlier) = None
sites_in (event ∷ earlier) = sites_in earlier

-- what the last request about the folder asked for, if that did not end since
abbrev pub reload_in : {V : Type 0} → List (NodeEvent V) → Option SitesRequest
reload_in [] = None
reload_in (AskedSites key bytes asked ∷ earlier) = Some asked
reload_in (SitesBegan sites ∷ earlier) = None
reload_in (SitesKept ∷ earlier) = None
reload_in (Reopened ∷ earlier) = None
reload_in (event ∷ earlier) = reload_in earlier

-- the folder is being read
abbrev pub reloading_in : {V : Type 0} → List (NodeEvent V) → Bool
reloading_in history = is_some (reload_in history)

-- the events of the last exchange with the knowledge base in this run, the newest first
abbrev pub exchange_in : {V : Type 0} → List (NodeEvent V) → List ExchangeEvent
exchange_in [] = []
exchange_in (Exchanged event ∷ earlier) = exchange_with event (exchange_in earlier)
exchange_in (Reopened ∷ earlier) = []
exchange_in (event ∷ earlier) = exchange_in earlier

-- the bytes of a whole file that the feed took in parts since the last request
abbrev pub given_after : ExchangeEvent → List ℕ → List ℕ
given_after (Requested name piece phase front request) given = []
given_after event given = given

abbrev pub given_in : {V : Type 0} → List (NodeEvent V) → List ℕ
given_in [] = []
given_in (TookPart name first size bytes answer ∷ earlier) = given_in earlier ++ bytes
given_in (Exchanged event ∷ earlier) = given_after event (given_in earlier)
given_in (Reopened ∷ earlier) = []
given_in (event ∷ earlier) = given_in earlier
