-- A request that makes a node fetch, or read its folder.
use Rattle.std.proofs.Common.{◌≡◌, ◌∙◌, ℕ, Bool, true, false, List, [], ◌∷◌, take, Option, Some, None, Result, inl, inr, refl, sym, ap, subst}
use Rattle.std.specs.Prelude.{◌||◌, IfSome, IsSomeAnd, if◌then◌else◌, is_some, option_copied}
use Rattle.std.specs.Option.{option_or}
use Rattle.httparse.specs.Grammar.{RequestHead}
use Rattle.feed_names.specs.ReleaseName.{Name}
use Rattle.feed_names.specs.declared.release_name.NameFault.{NameFault}
use Rattle.feed_keep.specs.declared.keep.Keep.{Ghosts}
use Rattle.feed_model.specs.History.{History}
use Rattle.std.specs.Prelude.{codes}
use Rattle.std.specs.Str.{bytes_eq}
use Rattle.feed_http_heads.specs.Requests.{lacks_host}
use Rattle.feed_http_heads.specs.Targets.{origin_form}
use Rattle.node_request.specs.Routes.{path_in, route_of}
use Rattle.node_request.specs.FetchRequests.{IsFetchBy, is_authorized, name_at}
use Rattle.node_request.specs.SitesRequests.{IsSitesBy, sites_at}
use Rattle.node_request.specs.declared.route.Route.{Route}
use Rattle.node_request.specs.declared.route.Route.TheVariants.{Fetch}
use Rattle.node_request.specs.declared.sites_target.SitesRequest.{SitesRequest}
use Rattle.node_table.specs.declared.peer.Peer.{Peer}
use Rattle.node_connection.specs.Events.{requests_in}
use Rattle.node_connection.specs.Requests.{IsLastOf}
use Rattle.node_connection.specs.States.{KnowsRequest, request_of}
use Rattle.node_connection.proofs.States.{first_in}
use Rattle.feed_http_heads.proofs.RequestReading as reading
use Rattle.node_table.specs.Tables.{peer_at}
use Rattle.node_machine.specs.declared.machine.NodeMachine.{NodeMachine}
use Rattle.node_machine.specs.NodeEvents.{NodeEvent, events_of}
use Rattle.node_machine.specs.Rules.{Terms}
use Rattle.node_machine.specs.Nodes.{HasHistory, HasAsked, HasNoted, IsNoted}
use Rattle.node_machine.specs.declared.fetching.Fetching.{Fetching}
use Rattle.node_table.specs.Peers.{is_streamed}
use Rattle.node_machine.proofs.Busy.{busy_is}

none_taken : (xs : List ℕ) → take 0 xs ≡ []
none_taken [] = refl
none_taken (x ∷ xs) = refl

-- no bytes ask for nothing
asks_nothing : {A : Type 0} (is_busy : Bool) (token : Option (List ℕ)) (asked : Result Name NameFault) → IsFetchBy is_busy token [] (Some asked) → A
asks_nothing true token asked is = absurd (cc)
asks_nothing false None asked is = absurd (cc)
asks_nothing false (Some token) asked (inl (head, begins, is)) = absurd (reading.nothing_yet.not_whole head begins.rest begins.reads)
asks_nothing false (Some token) asked (inr (none, is)) = absurd (cc)

sites_nothing : {A : Type 0} (is_reloading : Bool) (token : Option (List ℕ)) (asked : SitesRequest) → IsSitesBy is_reloading token [] (Some asked) → A
sites_nothing true token asked is = absurd (cc)
sites_nothing false None asked is = absurd (cc)
sites_nothing false (Some token) asked (inl (head, begins, is)) = absurd (reading.nothing_yet.not_whole head begins.rest begins.reads)
sites_nothing false (Some token) asked (inr (none, is)) = absurd (cc)

-- a request that makes the node fetch has the token, and no fetch is under way
idle_by : (is_busy : Bool) (token : Option (List ℕ)) (bytes : List ℕ) (asked : Result Name NameFault) → IsFetchBy is_busy token bytes (Some asked)
    → (is_busy ≡ false) × IsFetchBy false token bytes (Some asked)
idle_by true token bytes asked is = absurd (cc)
idle_by false token bytes asked is = (refl, is)

-- one that makes it read its folder has the token, and the folder is not being read
unread_by : (is_reloading : Bool) (token : Option (List ℕ)) (bytes : List ℕ) (asked : SitesRequest) → IsSitesBy is_reloading token bytes (Some asked)
    → (is_reloading ≡ false) × IsSitesBy false token bytes (Some asked)
unread_by true token bytes asked is = absurd (cc)
unread_by false token bytes asked is = (refl, is)

-- a request asks for one of both
route_alone : (route : Route) (path target text : List ℕ) → name_at route path ≡ Some text → ◌≡◌ {A = Option SitesRequest} None (sites_at route target)
route_alone Fetch path target text is = refl
route_alone _ path target text is = absurd (cc (is))

head_alone : (lacks has is_post : Bool) (route : Route) (path target text : List ℕ)
    → (if lacks then None else (if has then (if is_post then name_at route path else None) else None)) ≡ Some text
    → ◌≡◌ {A = Option SitesRequest} None (if lacks then None else (if has then (if is_post then sites_at route target else None) else None))
head_alone true has is_post route path target text is = refl
head_alone false false is_post route path target text is = refl
head_alone false true false route path target text is = refl
head_alone false true true route path target text is = route_alone route path target text is

pub fetch_alone : (is_busy is_reloading : Bool) (token : Option (List ℕ)) (bytes : List ℕ) (asked : Result Name NameFault) → IsFetchBy is_busy token bytes (Some asked)
    → IsSitesBy is_reloading token bytes None
fetch_alone true is_reloading token bytes asked is = absurd (cc)
fetch_alone false is_reloading None bytes asked is = absurd (cc)
fetch_alone false true (Some token) bytes asked is = refl
fetch_alone false false (Some token) bytes asked (inl (head, begins, is)) =
    inl (
      head,
      begins,
      head_alone (lacks_host head) (is_authorized token head) (bytes_eq head.method (codes "POST")) (route_of head) (path_in (origin_form head.target))
          (origin_form head.target) is.0 is.1,
    )
fetch_alone false false (Some token) bytes asked (inr (none, is)) = absurd (cc)

-- what is not there
not_there : (there : Option SitesRequest) → is_some there ≡ false → there ≡ None
not_there None is = refl
not_there (Some asked) is = absurd (cc)

module _ {T K S V : Type 0} {k : Ghosts K} (wanted : S → RequestHead → ℕ)
    (replies : S → Terms V → History → List ℕ → List ℕ → Bool → List ℕ → Type 0) (sites : S → V) where
  -- the release that a request asks for is the next one to fetch
  pub asked_moves : (key : ℕ) (bytes : List ℕ) (is_busy : Bool) (token : Option (List ℕ)) (old : NodeMachine T K S k) (asked : Result Name NameFault) (history : List (NodeEvent V))
      → HasHistory wanted replies sites old history → IsSomeAnd (peer_at old.table key) (λ peer. bytes ≡ request_of peer.connection) → token ≡ option_copied old.token
      → is_busy ≡ (is_some old.fetching || is_some old.requested)
      → IsFetchBy is_busy token bytes (Some asked) → HasAsked wanted replies sites key (record old { requested = Some asked }) history
  asked_moves key bytes is_busy token old asked history has request same busy asks = by (peer_at old.table key) refl request
    where
      last_asked : (peer : Peer T) → KnowsRequest peer.connection (events_of key history) → bytes ≡ request_of peer.connection → IsLastOf (requests_in (events_of key history)) bytes
      last_asked peer (inl none) same =
          let empty : bytes ≡ [] = same ∙ rw none (none_taken peer.connection.received.bytes.items) in
          asks_nothing is_busy token asked (subst (λ t. IsFetchBy is_busy token t (Some asked)) empty asks)
      last_asked peer (inr last) same = subst (IsLastOf (requests_in (events_of key history))) (sym same) last

      idle : (is_busy ≡ false) × IsFetchBy false token bytes (Some asked)
      idle = idle_by is_busy token bytes asked asks

      by : (slot : Option (Peer T)) → peer_at old.table key ≡ slot → IsSomeAnd slot (λ peer. bytes ≡ request_of peer.connection)
          → HasAsked wanted replies sites key (record old { requested = Some asked }) history
      by None is there = absurd there
      by (Some peer) is there = inr (inl (
        bytes,
        asked,
        record {
          connections = has.connections;
          feed = has.feed;
          fetching = has.fetching;
          idle = has.idle;
          requested = refl;
          today = has.today;
          sites_had = has.sites_had;
          reload = has.reload;
          allowed = (
            record {
              rest = (first_in peer.connection.phase peer.connection (events_of key history) (has.connections key peer is).0).0;
              in_order = (first_in peer.connection.phase peer.connection (events_of key history) (has.connections key peer is).0).1;
              last = last_asked peer (has.connections key peer is).2 there;
              asks = subst (λ (t : Option (List ℕ)). IsFetchBy false t bytes (Some asked)) same idle.1;
            },
            busy_is wanted replies sites old history has ∙ sym busy ∙ idle.0,
            has.allowed,
          );
          given = has.given;
        },
      ))

  -- what a request asks of the folder is what the node does next
  pub sites_move : (key : ℕ) (bytes : List ℕ) (is_reloading : Bool) (token : Option (List ℕ)) (old : NodeMachine T K S k) (asked : SitesRequest) (history : List (NodeEvent V))
      → HasHistory wanted replies sites old history → IsSomeAnd (peer_at old.table key) (λ peer. bytes ≡ request_of peer.connection) → token ≡ option_copied old.token
      → is_reloading ≡ is_some old.reload
      → IsSitesBy is_reloading token bytes (Some asked) → HasAsked wanted replies sites key (record old { reload = Some asked }) history
  sites_move key bytes is_reloading token old asked history has request same reloading asks = by (peer_at old.table key) refl request
    where
      last_asked : (peer : Peer T) → KnowsRequest peer.connection (events_of key history) → bytes ≡ request_of peer.connection → IsLastOf (requests_in (events_of key history)) bytes
      last_asked peer (inl none) same =
          let empty : bytes ≡ [] = same ∙ rw none (none_taken peer.connection.received.bytes.items) in
          sites_nothing is_reloading token asked (subst (λ t. IsSitesBy is_reloading token t (Some asked)) empty asks)
      last_asked peer (inr last) same = subst (IsLastOf (requests_in (events_of key history))) (sym same) last

      unread : (is_reloading ≡ false) × IsSitesBy false token bytes (Some asked)
      unread = unread_by is_reloading token bytes asked asks

      by : (slot : Option (Peer T)) → peer_at old.table key ≡ slot → IsSomeAnd slot (λ peer. bytes ≡ request_of peer.connection)
          → HasAsked wanted replies sites key (record old { reload = Some asked }) history
      by None is there = absurd there
      by (Some peer) is there = inr (inr (
        bytes,
        asked,
        record {
          connections = has.connections;
          feed = has.feed;
          fetching = has.fetching;
          idle = has.idle;
          requested = has.requested;
          today = has.today;
          sites_had = has.sites_had;
          reload = refl;
          allowed = (
            record {
              rest = (first_in peer.connection.phase peer.connection (events_of key history) (has.connections key peer is).0).0;
              in_order = (first_in peer.connection.phase peer.connection (events_of key history) (has.connections key peer is).0).1;
              last = last_asked peer (has.connections key peer is).2 there;
              asks = subst (λ (t : Option (List ℕ)). IsSitesBy false t bytes (Some asked)) same unread.1;
            },
            has.reload ∙ not_there old.reload (sym reloading ∙ unread.0),
            has.allowed,
          );
          given = has.given;
        },
      ))

  -- nothing is to be noted of a response that is not streamed
  pub noted_none : (key : ℕ) (old : NodeMachine T K S k) → IfSome (peer_at old.table key) (λ peer. false ≡ is_streamed peer.connection) → HasNoted key old old
  noted_none key old = by (peer_at old.table key)
    where
      by : (slot : Option (Peer T)) → IfSome slot (λ peer. false ≡ is_streamed peer.connection)
          → IfSome slot (λ peer. is_streamed peer.connection ≡ true → IsNoted (request_of peer.connection) old old)
      by None not = tt
      by (Some peer) not = λ streamed. absurd (cc (not, streamed))

  -- what the request of the connection asks for was noted
  pub noted_asked : (key : ℕ) (bytes : List ℕ) (is_busy is_reloading : Bool) (token : Option (List ℕ)) (old : NodeMachine T K S k) (asked next : Option (Result Name NameFault))
      (about left : Option SitesRequest) → IsSomeAnd (peer_at old.table key) (λ peer. bytes ≡ request_of peer.connection) → token ≡ option_copied old.token
      → is_busy ≡ (is_some old.fetching || is_some old.requested) → is_reloading ≡ is_some old.reload
      → IsFetchBy is_busy token bytes asked → next ≡ option_or asked old.requested → IsSitesBy is_reloading token bytes about → left ≡ option_or about old.reload
      → HasNoted key old (record old { requested = next; reload = left })
  noted_asked key bytes is_busy is_reloading token old asked next about left request same busy reloading asks is about_folder so = by (peer_at old.table key) request
    where
      by : (slot : Option (Peer T)) → IsSomeAnd slot (λ peer. bytes ≡ request_of peer.connection)
          → IfSome slot (λ peer. is_streamed peer.connection ≡ true → IsNoted (request_of peer.connection) old (record old { requested = next; reload = left }))
      by None there = absurd there
      by (Some peer) there = λ streamed. record {
        asked = asked;
        fetch = subst (λ (b : Bool). IsFetchBy b (option_copied old.token) (request_of peer.connection) asked) busy
            (subst (λ (t : Option (List ℕ)). IsFetchBy is_busy t (request_of peer.connection) asked) same (subst (λ (b : List ℕ). IsFetchBy is_busy token b asked) there asks));
        requested = is;
        sites = about;
        folder = subst (λ (b : Bool). IsSitesBy b (option_copied old.token) (request_of peer.connection) about) reloading
            (subst (λ (t : Option (List ℕ)). IsSitesBy is_reloading t (request_of peer.connection) about) same
            (subst (λ (b : List ℕ). IsSitesBy is_reloading token b about) there about_folder));
        reload = so;
      }

  -- also behind a share that changed neither the fetches, nor the reading of the folder, nor the token
  pub noted_behind : (key : ℕ) (old mid new : NodeMachine T K S k) → mid.fetching ≡ old.fetching → mid.token ≡ old.token → mid.requested ≡ old.requested
      → mid.reload ≡ old.reload → HasNoted key mid new → HasNoted key old new
  noted_behind key old mid new fetching token requested reload = by (peer_at new.table key)
    where
      busy : (is_some mid.fetching || is_some mid.requested) ≡ (is_some old.fetching || is_some old.requested)
      busy = ap (λ (f : Option Fetching). is_some f || is_some mid.requested) fetching ∙ ap (λ (r : Option (Result Name NameFault)). is_some old.fetching || is_some r) requested

      by : (slot : Option (Peer T)) → IfSome slot (λ peer. is_streamed peer.connection ≡ true → IsNoted (request_of peer.connection) mid new)
          → IfSome slot (λ peer. is_streamed peer.connection ≡ true → IsNoted (request_of peer.connection) old new)
      by None given = tt
      by (Some peer) given = λ streamed. (let x = given streamed in record {
        asked = x.asked;
        fetch = subst (λ (b : Bool). IsFetchBy b (option_copied old.token) (request_of peer.connection) x.asked) busy
            (subst (λ (t : Option (List ℕ)). IsFetchBy (is_some mid.fetching || is_some mid.requested) t (request_of peer.connection) x.asked) (ap option_copied token) x.fetch);
        requested = x.requested ∙ ap (λ (r : Option (Result Name NameFault)). option_or x.asked r) requested;
        sites = x.sites;
        folder = subst (λ (b : Bool). IsSitesBy b (option_copied old.token) (request_of peer.connection) x.sites) (ap (λ (r : Option SitesRequest). is_some r) reload)
            (subst (λ (t : Option (List ℕ)). IsSitesBy (is_some mid.reload) t (request_of peer.connection) x.sites) (ap option_copied token) x.folder);
        reload = x.reload ∙ ap (λ (r : Option SitesRequest). option_or x.sites r) reload;
      })
