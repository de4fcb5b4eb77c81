-- The folder of site files of a node: when it is read, and when the sites change.
use Rattle.std.proofs.Common.{◌≡◌, ℕ, Bool, List, [], ◌∷◌, Option, Some, None, inl, inr, refl, sym, ap, subst, ◌∙◌}
use Rattle.std.specs.Prelude.{◌⊎◌, IfSome, IsSome, option_copied}
use Rattle.httparse.specs.Grammar.{RequestHead}
use Rattle.feed_keep.specs.declared.keep.Keep.{Ghosts}
use Rattle.feed_model.specs.History.{History}
use Rattle.feed_releases.specs.Feeds.{most_of}
use Rattle.node_request.specs.declared.sites_target.SitesRequest.{SitesRequest}
use Rattle.node_request.specs.declared.sites_target.SitesRequest.TheVariants.{Reload}
use Rattle.node_connection.specs.Events.{Event}
use Rattle.node_connection.specs.Streams.{AreResponses}
use Rattle.node_machine.specs.declared.machine.NodeMachine.{NodeMachine}
use Rattle.node_machine.specs.NodeEvents.{NodeEvent, Accepted, Served, Passed, DayBegan, Asked, Began, Finished, Took, TookPart, Exchanged}
use Rattle.node_machine.specs.NodeEvents.{AskedSites, SitesBegan, SitesKept, Reopened}
use Rattle.node_machine.specs.NodeEvents.{events_of, feed_history, busy_in, reload_in, reloading_in, sites_in}
use Rattle.node_machine.specs.Occasions.{AreResponsesOf}
use Rattle.node_machine.specs.Rules.{Rules, Terms, IsShare, IsSitesAskedBy, AreAllowed, MayBeginSites, terms_with}
use Rattle.node_machine.specs.Promise.{HasAskedSites, ReloadsByToken, ReloadsInTurn}
use Rattle.node_machine.specs.Nodes.{HasHistory, HasKeptSites, IsLater, rules_of}
use Rattle.node_machine.proofs.Later.{later_as, later_kept_sites}
use Rattle.node_machine.proofs.Responses.{are_more}

asked_more : {V : Type 0} (token : Option (List ℕ)) (event : NodeEvent V) (earlier : List (NodeEvent V)) → HasAskedSites token earlier → HasAskedSites token (event ∷ earlier)
asked_more token event earlier is = record {
  key = is.key;
  bytes = is.bytes;
  earlier = is.earlier;
  moment = (event ∷ is.moment.0, ap (λ h. event ∷ h) is.moment.1);
  asked = is.asked;
}

-- a folder that is read, so that its sites begin, is read for a request with the token
asked_by : {V : Type 0} (rules : Rules V) (token : Option (List ℕ)) (history : List (NodeEvent V)) → AreAllowed rules token history → reload_in history ≡ Some Reload
    → HasAskedSites token history
asked_by rules token [] allowed is = absurd (cc)
asked_by rules token (Accepted key ∷ earlier) allowed is = asked_more token (Accepted key) earlier (asked_by rules token earlier allowed is)
asked_by rules token (Served key share ∷ earlier) allowed is = asked_more token (Served key share) earlier (asked_by rules token earlier allowed.1 is)
asked_by rules token (Passed millis ∷ earlier) allowed is = asked_more token (Passed millis) earlier (asked_by rules token earlier allowed is)
asked_by rules token (DayBegan today ∷ earlier) allowed is = asked_more token (DayBegan today) earlier (asked_by rules token earlier allowed is)
asked_by rules token (Asked key bytes asked ∷ earlier) allowed is = asked_more token (Asked key bytes asked) earlier (asked_by rules token earlier allowed.2 is)
asked_by rules token (Began asked ∷ earlier) allowed is = asked_more token (Began asked) earlier (asked_by rules token earlier allowed.2 is)
asked_by rules token (Finished ∷ earlier) allowed is = asked_more token Finished earlier (asked_by rules token earlier allowed.1 is)
asked_by rules token (Took name phase reply steps ∷ earlier) allowed is = asked_more token (Took name phase reply steps) earlier (asked_by rules token earlier allowed.1 is)
asked_by rules token (TookPart name first size bytes answer ∷ earlier) allowed is =
    asked_more token (TookPart name first size bytes answer) earlier (asked_by rules token earlier allowed.1 is)
asked_by rules token (Exchanged event ∷ earlier) allowed is = asked_more token (Exchanged event) earlier (asked_by rules token earlier allowed.1 is)
asked_by rules token (AskedSites key bytes asked ∷ earlier) allowed is =
    let same : asked ≡ Reload = cc (is) in
    record {
      key = key;
      bytes = bytes;
      earlier = earlier;
      moment = ([], ap (λ a. AskedSites key bytes a ∷ earlier) (sym same));
      asked = subst (λ a. IsSitesAskedBy token (events_of key earlier) bytes a) same allowed.0;
    }
asked_by rules token (SitesBegan begun ∷ earlier) allowed is = absurd (cc)
asked_by rules token (SitesKept ∷ earlier) allowed is = absurd (cc)
asked_by rules token (Reopened ∷ earlier) allowed is = absurd (cc)

may_begin : {V : Type 0} (rules : Rules V) (token : Option (List ℕ)) (earlier : List (NodeEvent V)) → AreAllowed rules token earlier → MayBeginSites earlier
    → (sites_in earlier ≡ None) ⊎ HasAskedSites token earlier
may_begin rules token earlier allowed (inl none) = inl none
may_begin rules token earlier allowed (inr is) = inr (asked_by rules token earlier allowed is)

-- the sites change only as the node is opened, or after a request that has the token
pub reloads_by_token : {V : Type 0} (rules : Rules V) (token : Option (List ℕ)) (history : List (NodeEvent V)) → AreAllowed rules token history → ReloadsByToken token history
reloads_by_token rules token history allowed = record {
  began = λ sites earlier is. (let so = subst (AreAllowed rules token) is allowed in may_begin rules token earlier so.1 so.0);
}

-- the folder is read once at a time
pub reloads_in_turn : {V : Type 0} (rules : Rules V) (token : Option (List ℕ)) (history : List (NodeEvent V)) → AreAllowed rules token history → ReloadsInTurn history
reloads_in_turn rules token history allowed = record {
  asked = λ key bytes asked earlier is. (subst (AreAllowed rules token) is allowed).1;
  began = λ sites earlier is. (subst (AreAllowed rules token) is allowed).0;
  kept = λ earlier is. (subst (AreAllowed rules token) is allowed).0;
}

if_more : (One Other : List ℕ → Type 0) (reply : Option (List ℕ)) → ((text : List ℕ) → One text → Other text) → IfSome reply One → IfSome reply Other
if_more One Other None f is = tt
if_more One Other (Some text) f is = f text is

-- what was allowed with the responses of one responder is with those of another, if they are the same
module _ {V : Type 0} (one other : Rules V) (wanted_same : other.0 ≡ one.0) (responses_same : AreResponsesOf one.1 other.1) (token : Option (List ℕ)) where
  share_more : (key : ℕ) (share : List Event) (earlier : List (NodeEvent V)) → IsShare one token key share earlier → IsShare other token key share earlier
  share_more key share earlier is =
      let terms : Terms V = terms_with token (busy_in earlier) (reloading_in earlier) is.is_local is.today is.sites in
      let h : History = feed_history earlier in
      record {
        connection = is.connection;
        state = is.state;
        is_local = is.is_local;
        today = is.today;
        day = is.day;
        sites = is.sites;
        had = is.had;
        replied = subst (λ (w : RequestHead → ℕ). AreResponses (w, λ head body keeps reply. IfSome reply (other.1 terms h head body keeps)) share) (sym wanted_same)
            (are_more one.0 (λ head body keeps reply. IfSome reply (one.1 terms h head body keeps)) (λ head body keeps reply. IfSome reply (other.1 terms h head body keeps))
            (λ head body keeps reply made. if_more (one.1 terms h head body keeps) (other.1 terms h head body keeps) reply (λ text. (responses_same terms h head body keeps text).0) made)
            share is.replied);
      }

  pub allowed_more : (history : List (NodeEvent V)) → AreAllowed one token history → AreAllowed other token history
  allowed_more [] allowed = tt
  allowed_more (Accepted key ∷ earlier) allowed = allowed_more earlier allowed
  allowed_more (Served key share ∷ earlier) allowed = (share_more key share earlier allowed.0, allowed_more earlier allowed.1)
  allowed_more (Passed millis ∷ earlier) allowed = allowed_more earlier allowed
  allowed_more (DayBegan today ∷ earlier) allowed = allowed_more earlier allowed
  allowed_more (Asked key bytes asked ∷ earlier) allowed = (allowed.0, allowed.1, allowed_more earlier allowed.2)
  allowed_more (Began asked ∷ earlier) allowed = (allowed.0, allowed.1, allowed_more earlier allowed.2)
  allowed_more (Finished ∷ earlier) allowed = (allowed.0, allowed_more earlier allowed.1)
  allowed_more (Took name phase reply steps ∷ earlier) allowed = (allowed.0, allowed_more earlier allowed.1)
  allowed_more (TookPart name first size bytes answer ∷ earlier) allowed = (allowed.0, allowed_more earlier allowed.1)
  allowed_more (Exchanged event ∷ earlier) allowed = (allowed.0, allowed_more earlier allowed.1)
  allowed_more (AskedSites key bytes asked ∷ earlier) allowed = (allowed.0, allowed.1, allowed_more earlier allowed.2)
  allowed_more (SitesBegan begun ∷ earlier) allowed = (allowed.0, allowed_more earlier allowed.1)
  allowed_more (SitesKept ∷ earlier) allowed = (allowed.0, allowed_more earlier allowed.1)
  allowed_more (Reopened ∷ earlier) allowed = tt

module _ {T K S V : Type 0} {k : Ghosts K} (wanted : S → RequestHead → ℕ)
    (replies : S → Terms V → History → List ℕ → List ℕ → Bool → List ℕ → Type 0) (sites : S → V) where
  -- the sites that were read begin
  pub begun_sites : (old : NodeMachine T K S k) (responder : S) (begun : V) (left : Option SitesRequest) (history : List (NodeEvent V)) → old.reload ≡ Some Reload → left ≡ None
      → sites responder ≡ begun → wanted responder ≡ wanted old.responder → AreResponsesOf (replies old.responder) (replies responder)
      → HasHistory wanted replies sites old history
      → HasHistory wanted replies sites (record old { responder = responder; reload = left }) (SitesBegan begun ∷ history)
  begun_sites old responder begun left history is gone new same responses has = record {
    connections = has.connections;
    feed = has.feed;
    fetching = has.fetching;
    idle = has.idle;
    requested = has.requested;
    today = has.today;
    sites_had = ap (λ (s : V). Some s) (sym new);
    reload = sym gone;
    allowed = (
      inr (has.reload ∙ is),
      allowed_more (rules_of wanted replies sites old) (rules_of wanted replies sites (record old { responder = responder; reload = left })) same responses (option_copied old.token) history
          has.allowed,
    );
    given = has.given;
  }

  -- they are kept
  pub kept_sites : (old : NodeMachine T K S k) (asked : SitesRequest) (left : Option SitesRequest) (history : List (NodeEvent V)) → old.reload ≡ Some asked → left ≡ None
      → HasHistory wanted replies sites old history → HasHistory wanted replies sites (record old { reload = left }) (SitesKept ∷ history)
  kept_sites old asked left history is gone has = record {
    connections = has.connections;
    feed = has.feed;
    fetching = has.fetching;
    idle = has.idle;
    requested = has.requested;
    today = has.today;
    sites_had = has.sites_had;
    reload = sym gone;
    allowed = (subst (λ x. IsSome x) (sym (has.reload ∙ is)) refl, has.allowed);
    given = has.given;
  }

  -- either, by what a client had asked
  pub kept_later : (old new : NodeMachine T K S k) → (old.reload ≡ None → new ≡ old)
      → most_of new.feed ≡ most_of old.feed → HasKeptSites wanted replies sites old new → IsLater wanted replies sites old new
  kept_later old new same room has = by old.reload refl
    where
      by : (asked : Option SitesRequest) → old.reload ≡ asked → IsLater wanted replies sites old new
      by None is = later_as old new (same is)
      by (Some asked) is = later_kept_sites wanted replies sites asked old new is room has
