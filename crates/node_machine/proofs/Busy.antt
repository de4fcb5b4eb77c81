-- The fetch of a node: when it begins and ends, and when the node is busy.
use Rattle.std.proofs.Common.{◌≡◌, ℕ, Bool, false, List, [], ◌∷◌, Option, Some, None, Result, Ok, Err, refl, sym, ap, subst, ◌∙◌}
use Rattle.std.specs.Prelude.{◌||◌, IsSome, is_some, option_copied}
use Rattle.httparse.specs.Grammar.{RequestHead}
use Rattle.feed_keep.specs.declared.keep.Keep.{Ghosts}
use Rattle.feed_names.specs.ReleaseName.{Name}
use Rattle.feed_names.specs.declared.release_name.NameFault.{NameFault}
use Rattle.feed_model.specs.History.{History}
use Rattle.node_machine.specs.declared.fetching.Fetching.{Fetching}
use Rattle.node_machine.specs.declared.machine.NodeMachine.{NodeMachine}
use Rattle.node_machine.specs.NodeEvents.{NodeEvent, Accepted, Served, Passed, DayBegan, Asked, Began, Finished, Took, TookPart, Exchanged, AskedSites, SitesBegan, SitesKept, Reopened}
use Rattle.node_machine.specs.NodeEvents.{busy_in, exchange_in, fetching_in, given_in, requested_in}
use Rattle.node_machine.specs.Exchanges.{IsExchangeOf}
use Rattle.node_machine.specs.Rules.{Rules, Terms, AreAllowed}
use Rattle.node_machine.specs.Promise.{FetchesInTurn}
use Rattle.node_machine.specs.Nodes.{HasHistory, IsFetching, rules_of}

-- neither of two is there
not_one : (fetched : Option Name) (requested : Bool) → (is_some fetched || requested) ≡ false → fetched ≡ None
not_one None requested is = refl
not_one (Some name) requested is = absurd (cc)

-- a fetch is requested only while none is under way
pub alone : {V : Type 0} (rules : Rules V) (token : Option (List ℕ)) (asked : Result Name NameFault) (history : List (NodeEvent V)) → AreAllowed rules token history
    → requested_in history ≡ Some asked → fetching_in history ≡ None
alone rules token asked [] allowed is = refl
alone rules token asked (Accepted key ∷ earlier) allowed is = alone rules token asked earlier allowed is
alone rules token asked (Served key share ∷ earlier) allowed is = alone rules token asked earlier allowed.1 is
alone rules token asked (Passed millis ∷ earlier) allowed is = alone rules token asked earlier allowed is
alone rules token asked (DayBegan today ∷ earlier) allowed is = alone rules token asked earlier allowed is
alone rules token asked (Asked key bytes other ∷ earlier) allowed is = not_one (fetching_in earlier) (is_some (requested_in earlier)) allowed.1
alone rules token asked (Began other ∷ earlier) allowed is = absurd (cc)
alone rules token asked (Finished ∷ earlier) allowed is = refl
alone rules token asked (Took name phase reply steps ∷ earlier) allowed is = alone rules token asked earlier allowed.1 is
alone rules token asked (TookPart name first size bytes answer ∷ earlier) allowed is = alone rules token asked earlier allowed.1 is
alone rules token asked (Exchanged event ∷ earlier) allowed is = alone rules token asked earlier allowed.1 is
alone rules token asked (AskedSites key bytes other ∷ earlier) allowed is = alone rules token asked earlier allowed.2 is
alone rules token asked (SitesBegan begun ∷ earlier) allowed is = alone rules token asked earlier allowed.1 is
alone rules token asked (SitesKept ∷ earlier) allowed is = alone rules token asked earlier allowed.1 is
alone rules token asked (Reopened ∷ earlier) allowed is = refl

-- fetches are one at a time
pub in_turn : {V : Type 0} (rules : Rules V) (token : Option (List ℕ)) (history : List (NodeEvent V)) → AreAllowed rules token history → FetchesInTurn history
in_turn rules token history allowed = record {
  asked = λ key bytes asked earlier is. (subst (AreAllowed rules token) is allowed).1;
  began = λ asked earlier is. (let so = subst (AreAllowed rules token) is allowed in (so.0, so.1));
  finished = λ earlier is. (subst (AreAllowed rules token) is allowed).0;
}

-- a node is busy after its history exactly if it fetches or is to fetch
busy_by : (fetched : Option Name) (requested asked : Option (Result Name NameFault)) (fetching : Option Fetching) → (fetching ≡ None → fetched ≡ None)
    → ((f : Fetching) → fetching ≡ Some f → fetched ≡ Some f.name) → requested ≡ asked → (is_some fetched || is_some requested) ≡ (is_some fetching || is_some asked)
busy_by fetched requested asked None idle busy same =
    ap (λ (x : Option Name). is_some x || is_some requested) (idle refl) ∙ ap (λ (r : Option (Result Name NameFault)). is_some r) same
busy_by fetched requested asked (Some f) idle busy same = ap (λ (x : Option Name). is_some x || is_some requested) (busy f refl)

module _ {T K S V : Type 0} {k : Ghosts K} (wanted : S → RequestHead → ℕ)
    (replies : S → Terms V → History → List ℕ → List ℕ → Bool → List ℕ → Type 0) (sites : S → V) where
  pub busy_is : (node : NodeMachine T K S k) (history : List (NodeEvent V)) → HasHistory wanted replies sites node history
      → busy_in history ≡ (is_some node.fetching || is_some node.requested)
  busy_is node history has = busy_by (fetching_in history) (requested_in history) node.requested node.fetching has.idle (λ f e. (has.fetching f e).0) has.requested

  -- the fetch that was requested begins
  pub begun_on : (old : NodeMachine T K S k) (next : Fetching) (left : Option (Result Name NameFault)) (history : List (NodeEvent V)) → old.requested ≡ Some (Ok next.name)
      → next.exchange ≡ None → left ≡ None → HasHistory wanted replies sites old history
      → HasHistory wanted replies sites (record old { fetching = Some next; requested = left }) (Began (Ok next.name) ∷ history)
  begun_on old next left history is none gone has = record {
    connections = has.connections;
    feed = has.feed;
    fetching = λ fetching e. (let same : next ≡ fetching = cc (e) in subst (λ (f : Fetching). IsFetching f (Began (Ok next.name) ∷ history)) same
        (refl, subst (λ x. IsExchangeOf x next.name (exchange_in history) (given_in history)) (sym none) tt));
    idle = λ e. absurd (cc);
    requested = sym gone;
    today = has.today;
    sites_had = has.sites_had;
    reload = has.reload;
    allowed = (has.requested ∙ is, alone (rules_of wanted replies sites old) (option_copied old.token) (Ok next.name) history has.allowed (has.requested ∙ is), has.allowed);
    given = has.given;
  }

  -- it is refused for its name
  pub refused_on : (old : NodeMachine T K S k) (fault : NameFault) (left : Option (Result Name NameFault)) (history : List (NodeEvent V)) → old.requested ≡ Some (Err fault)
      → left ≡ None → HasHistory wanted replies sites old history → HasHistory wanted replies sites (record old { requested = left }) (Began (Err fault) ∷ history)
  refused_on old fault left history is gone has =
      let alone_so = alone (rules_of wanted replies sites old) (option_copied old.token) (Err fault) history has.allowed (has.requested ∙ is) in
      record {
        connections = has.connections;
        feed = has.feed;
        fetching = λ fetching e. absurd (let some = (has.fetching fetching e).0 in cc (some, alone_so));
        idle = λ e. refl;
        requested = sym gone;
        today = has.today;
        sites_had = has.sites_had;
        reload = has.reload;
        allowed = (has.requested ∙ is, alone_so, has.allowed);
        given = has.given;
      }

  -- the fetch that is under way ends
  pub finished_on : (old : NodeMachine T K S k) (was : Fetching) (left : Option Fetching) (history : List (NodeEvent V)) → old.fetching ≡ Some was → left ≡ None
      → HasHistory wanted replies sites old history → HasHistory wanted replies sites (record old { fetching = left }) (Finished ∷ history)
  finished_on old was left history is gone has = record {
    connections = has.connections;
    feed = has.feed;
    fetching = λ fetching e. absurd (cc (gone, e));
    idle = λ e. refl;
    requested = has.requested;
    today = has.today;
    sites_had = has.sites_had;
    reload = has.reload;
    allowed = (subst (λ x. IsSome x) (sym (has.fetching was is).0) refl, has.allowed);
    given = has.given;
  }
