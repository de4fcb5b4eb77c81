-- The node after a history.
use Rattle.std.specs.Prelude.{◌≡◌, ◌⊎◌, ◌∷◌, ◌++◌, ◌||◌, ℕ, Bool, true, List, Option, None, Some, IfSome, is_some, Result, option_copied}
use Rattle.std.specs.Option.{option_or}
use Rattle.httparse.specs.Grammar.{RequestHead}
use Rattle.feed_names.specs.ReleaseName.{Name}
use Rattle.feed_names.specs.declared.release_name.NameFault.{NameFault}
use Rattle.feed_keep.specs.declared.keep.Keep.{Ghosts}
use Rattle.feed_model.specs.History.{History, Answer}
use Rattle.feed_model.specs.Content.{IsContent}
use Rattle.feed_releases.specs.Feeds.{most_of, recorded}
use Rattle.feed_http.specs.declared.fetching.got.Got.{Got}
use Rattle.feed_fetch.specs.declared.stop.RequestFault.{RequestFault}
use Rattle.node_connection.specs.Events.{Event}
use Rattle.node_connection.specs.States.{HasState, request_of}
use Rattle.node_table.specs.declared.peer.Peer.{Peer}
use Rattle.node_table.specs.declared.table.Table.{Table}
use Rattle.node_table.specs.Peers.{is_streamed}
use Rattle.node_table.specs.Tables.{peer_at, KeepsOthers}
use Rattle.node_request.specs.FetchRequests.{IsFetchBy}
use Rattle.node_request.specs.SitesRequests.{IsSitesBy}
use Rattle.node_request.specs.declared.sites_target.SitesRequest.{SitesRequest}
use Rattle.node_request.specs.declared.sites_target.SitesRequest.TheVariants.{Reload}
use Rattle.node_machine.specs.declared.fetching.Fetching.{Fetching}
use Rattle.node_machine.specs.declared.machine.NodeMachine.{NodeMachine}
use Rattle.feed_fetch.specs.declared.machine.FetchRequest.{FetchRequest}
use Rattle.node_machine.specs.declared.exchange.Exchange.{Exchange}
use Rattle.node_machine.specs.Exchanges.{ExchangeEvent, Requested, IsExchangeOf, ended_response, part_of}
use Rattle.node_machine.specs.NodeEvents.{NodeEvent, Served, Asked, Began, Finished, Took, TookPart, Exchanged, AskedSites, SitesBegan, SitesKept}
use Rattle.node_machine.specs.NodeEvents.{events_of, feed_history, today_in, exchange_in, given_in, requested_in, fetching_in}
use Rattle.node_machine.specs.NodeEvents.{sites_in, reload_in}
use Rattle.node_machine.specs.Rules.{Rules, Terms, AreAllowed, AreGiven}

-- each connection of the table has the state that the events under its key determine
abbrev pub AreAt : {T V : Type 0} → Table T → List (NodeEvent V) → Type 0
AreAt {T} table history = (key : ℕ) (peer : Peer T) → peer_at table key ≡ Some peer → HasState peer.connection (events_of key history)

-- the fetch of this release began last, and the exchange has these events
abbrev pub IsFetching : {V : Type 0} → Fetching → List (NodeEvent V) → Type 0
IsFetching fetching history = (fetching_in history ≡ Some fetching.name) × IsExchangeOf fetching.exchange fetching.name (exchange_in history) (given_in history)

-- the release of the fetch that is under way
abbrev pub release_of : Option Fetching → Option Name
release_of None = None
release_of (Some fetching) = Some fetching.name

-- the exchange of the fetch that is under way
abbrev pub exchange_of : Option Fetching → Option Exchange
exchange_of None = None
exchange_of (Some fetching) = fetching.exchange

module _ {T K S : Type 0} {k : Ghosts K} where
  -- the connections of a node
  abbrev pub table_of : NodeMachine T K S k → Table T
  table_of node = node.table

  -- the connection with this key may have changed, and the release that is to be fetched next, and whether the folder is to
  -- be read; nothing else did
  pub record KeepsRest (key : ℕ) (old new : NodeMachine T K S k) : Type 0 where
    pub others : KeepsOthers key (table_of old) (table_of new)
    pub feed : new.feed ≡ old.feed
    pub fetching : new.fetching ≡ old.fetching
    pub responder : new.responder ≡ old.responder
    pub token : new.token ≡ old.token
    pub today : new.today ≡ old.today

  -- what a request with these bytes asks for, by the token and while no fetch is under way or requested, is requested next;
  -- if it asks that the folder be read, while it is not being read, that is what the node does next
  pub record IsNoted (bytes : List ℕ) (old new : NodeMachine T K S k) : Type 0 where
    pub asked : Option (Result Name NameFault)
    pub fetch : IsFetchBy (is_some old.fetching || is_some old.requested) (option_copied old.token) bytes asked
    pub requested : new.requested ≡ option_or asked old.requested
    pub sites : Option SitesRequest
    pub folder : IsSitesBy (is_some old.reload) (option_copied old.token) bytes sites
    pub reload : new.reload ≡ option_or sites old.reload

  -- this is so of the request of the connection with this key, if its response is streamed
  abbrev pub HasNoted : ℕ → NodeMachine T K S k → NodeMachine T K S k → Type 0
  HasNoted key old new =
      IfSome (peer_at (table_of new) key) (λ peer. is_streamed peer.connection ≡ true → IsNoted (request_of peer.connection) old new)

module _ {T K S V : Type 0} {k : Ghosts K} (wanted : S → RequestHead → ℕ)
    (replies : S → Terms V → History → List ℕ → List ℕ → Bool → List ℕ → Type 0) (sites : S → V) where
  -- the responses of the node's responder
  abbrev pub rules_of : NodeMachine T K S k → Rules V
  rules_of node = (wanted node.responder, replies node.responder)

  -- the node has this history: each connection has the state that its events determine, the feed holds what its events gave
  -- it, it fetches the release whose fetch began last and did not end, or none, and is to fetch the one that was requested
  -- since, its exchange with the knowledge base has the events of the last one, the day is the one that began last, the sites
  -- are those that began last, the folder is read if that was asked and did not end since, and each event was allowed
  pub record HasHistory (node : NodeMachine T K S k) (history : List (NodeEvent V)) : Type 0 where
    pub connections : AreAt node.table history
    pub feed : IsContent (recorded node.feed) (feed_history history)
    pub fetching : (fetching : Fetching) → node.fetching ≡ Some fetching → IsFetching fetching history
    pub idle : node.fetching ≡ None → fetching_in history ≡ None
    pub requested : requested_in history ≡ node.requested
    pub today : today_in history ≡ Some node.today
    pub sites_had : sites_in history ≡ Some (sites node.responder)
    pub reload : reload_in history ≡ node.reload
    pub allowed : AreAllowed (rules_of node) (option_copied node.token) history
    pub given : AreGiven history

  -- the node has this history, with one more share of a turn of the connection with this key if it is there
  abbrev pub HasServed : ℕ → NodeMachine T K S k → List (NodeEvent V) → Type 0
  HasServed key node history = HasHistory node history ⊎ ((share : List Event) × HasHistory node (Served key share ∷ history))

  -- the node has this history, and the request of the connection with this key may have asked for a release, or that the folder
  -- be read
  abbrev pub HasAsked : ℕ → NodeMachine T K S k → List (NodeEvent V) → Type 0
  HasAsked key node history =
      HasHistory node history ⊎ (((bytes : List ℕ) × (asked : Result Name NameFault) × HasHistory node (Asked key bytes asked ∷ history))
      ⊎ ((bytes : List ℕ) × (asked : SitesRequest) × HasHistory node (AskedSites key bytes asked ∷ history)))

  -- both, in this order
  abbrev pub HasAdvanced : ℕ → NodeMachine T K S k → List (NodeEvent V) → Type 0
  HasAdvanced key node history = HasAsked key node history ⊎ ((share : List Event) × HasAsked key node (Served key share ∷ history))

  -- the fetch that is under way took the response that its exchange ended with: the node has this history with the
  -- events that the feed handled
  abbrev pub HasTaken : NodeMachine T K S k → NodeMachine T K S k → List (NodeEvent V) → Type 0
  HasTaken old new history =
      (fetching : Fetching) (reply : Result Got RequestFault) → old.fetching ≡ Some fetching → ended_response fetching.exchange ≡ Some reply
      → (steps : History) × HasHistory new (Took fetching.name fetching.fetch.phase reply steps ∷ history)

  -- it took the part of a whole file that has arrived
  abbrev pub HasTakenPart : NodeMachine T K S k → NodeMachine T K S k → List (NodeEvent V) → Type 0
  HasTakenPart old new history =
      (fetching : Fetching) (first size : ℕ) (bytes : List ℕ) → old.fetching ≡ Some fetching → part_of fetching.exchange ≡ Some (first, size, bytes)
      → (answer : Answer) × HasHistory new (TookPart fetching.name first size bytes answer ∷ history)

  -- the fetch that was requested began, or was refused for its name
  abbrev pub HasBegun : NodeMachine T K S k → NodeMachine T K S k → Type 0
  HasBegun old new = (asked : Result Name NameFault) (history : List (NodeEvent V)) → old.requested ≡ Some asked → HasHistory old history → HasHistory new (Began asked ∷ history)

  -- the fetch that was under way ended
  abbrev pub HasFinished : NodeMachine T K S k → NodeMachine T K S k → Type 0
  HasFinished old new = (fetching : Fetching) (history : List (NodeEvent V)) → old.fetching ≡ Some fetching → HasHistory old history → HasHistory new (Finished ∷ history)

  -- the node began to respond with these sites, as a client had asked
  abbrev pub HasBegunSites : V → NodeMachine T K S k → NodeMachine T K S k → Type 0
  HasBegunSites begun old new =
      (history : List (NodeEvent V)) → old.reload ≡ Some Reload → HasHistory old history → HasHistory new (SitesBegan begun ∷ history)

  -- the folder was read, or checked, and the node kept its sites
  abbrev pub HasKeptSites : NodeMachine T K S k → NodeMachine T K S k → Type 0
  HasKeptSites old new =
      (asked : SitesRequest) (history : List (NodeEvent V)) → old.reload ≡ Some asked → HasHistory old history → HasHistory new (SitesKept ∷ history)

  -- there was this event on the connection to the knowledge base
  abbrev pub HasExchanged : ExchangeEvent → NodeMachine T K S k → NodeMachine T K S k → Type 0
  HasExchanged event old new = (history : List (NodeEvent V)) → HasHistory old history → HasHistory new (Exchanged event ∷ history)

  -- the fetch that is under way needs this request next, which was sent
  abbrev pub HasRequested : Option (ℕ × ℕ) → FetchRequest → NodeMachine T K S k → NodeMachine T K S k → Type 0
  HasRequested front request old new =
      (fetching : Fetching) → old.fetching ≡ Some fetching
      → HasExchanged (Requested fetching.name fetching.fetch.piece fetching.fetch.phase front request) old new

  -- the node has each history that it had
  abbrev pub KeepsHistory : NodeMachine T K S k → NodeMachine T K S k → Type 0
  KeepsHistory old new = (history : List (NodeEvent V)) → HasHistory old history → HasHistory new history

  -- each history that the node had continues with some events to one that it has. Its feed may record as many releases
  -- as before
  pub record IsLater (old new : NodeMachine T K S k) : Type 0 where
    pub history : (history : List (NodeEvent V)) → HasHistory old history → (later : List (NodeEvent V)) × HasHistory new (later ++ history)
    pub room : most_of new.feed ≡ most_of old.feed
