-- Histories with further events.
use Rattle.std.proofs.Common.{◌≡◌, ◌∙◌, ℕ, Bool, List, [], ◌∷◌, ◌++◌, Option, Some, None, inl, inr, refl, sym, ap, subst, append_assoc}
use Rattle.httparse.specs.Grammar.{RequestHead}
use Rattle.feed_keep.specs.declared.keep.Keep.{Ghosts}
use Rattle.feed_model.specs.History.{History}
use Rattle.feed_releases.specs.Feeds.{most_of}
use Rattle.feed_releases.specs.declared.feed.Feed.{Feed}
use Rattle.feed_names.specs.ReleaseName.{Name}
use Rattle.feed_names.specs.declared.release_name.NameFault.{NameFault}
use Rattle.feed_http.specs.declared.fetching.got.Got.{Got}
use Rattle.std.specs.Prelude.{Result}
use Rattle.feed_fetch.specs.declared.stop.RequestFault.{RequestFault}
use Rattle.node_machine.specs.declared.fetching.Fetching.{Fetching}
use Rattle.node_machine.specs.declared.machine.NodeMachine.{NodeMachine}
use Rattle.node_machine.specs.Exchanges.{ExchangeEvent, ended_response, part_of}
use Rattle.node_machine.specs.NodeEvents.{NodeEvent, Accepted, Served, Asked, AskedSites, SitesKept, Began, Finished, Took, TookPart, Exchanged, accepted_in}
use Rattle.node_request.specs.declared.sites_target.SitesRequest.{SitesRequest}
use Rattle.node_machine.specs.Rules.{Terms}
use Rattle.node_machine.specs.Promise.{NodeIsRight, IsRightAfter}
use Rattle.node_machine.specs.Nodes.{HasHistory, HasServed, HasAdvanced, HasBegun, HasFinished, HasExchanged, HasTaken, HasTakenPart, HasKeptSites, IsLater, KeepsHistory}

-- the same feed may record as many releases
pub room_same : {K : Type 0} {k : Ghosts K} (old new : Feed K k) → new ≡ old → most_of new ≡ most_of old
room_same {K} {k} old new same = ap (λ (feed : Feed K k). most_of feed) same

-- and so does that of the same node
pub room_as : {T K S : Type 0} {k : Ghosts K} (old new : NodeMachine T K S k) → new ≡ old → most_of new.feed ≡ most_of old.feed
room_as {T} {K} {S} {k} old new same = ap (λ (node : NodeMachine T K S k). most_of node.feed) same

module _ {T K S V : Type 0} {k : Ghosts K} (wanted : S → RequestHead → ℕ)
    (replies : S → Terms V → History → List ℕ → List ℕ → Bool → List ℕ → Type 0) (sites : S → V) where
  pub later_kept : (old new : NodeMachine T K S k) → most_of new.feed ≡ most_of old.feed → KeepsHistory wanted replies sites old new → IsLater wanted replies sites old new
  later_kept old new room keeps = record { history = λ history has. ([], keeps history has); room = room }

  pub later_by : (event : NodeEvent V) (old new : NodeMachine T K S k) → most_of new.feed ≡ most_of old.feed
      → ((history : List (NodeEvent V)) → HasHistory wanted replies sites old history → HasHistory wanted replies sites new (event ∷ history)) → IsLater wanted replies sites old new
  later_by event old new room has = record { history = λ history was. (event ∷ [], has history was); room = room }

  pub later_accepted : (result : Option ℕ) (old new : NodeMachine T K S k) → most_of new.feed ≡ most_of old.feed
      → ((history : List (NodeEvent V)) → HasHistory wanted replies sites old history → HasHistory wanted replies sites new (accepted_in result history))
      → IsLater wanted replies sites old new
  later_accepted None old new room has = record { history = λ history was. ([], has history was); room = room }
  later_accepted (Some key) old new room has = record { history = λ history was. (Accepted key ∷ [], has history was); room = room }

  pub later_served : (key : ℕ) (old new : NodeMachine T K S k) → most_of new.feed ≡ most_of old.feed
      → ((history : List (NodeEvent V)) → HasHistory wanted replies sites old history → HasServed wanted replies sites key new history) → IsLater wanted replies sites old new
  later_served key old new room has = record {
    history = λ history was. elim (has history was) [
      | inl same ↦ ([], same)
      | inr (share, is) ↦ (Served key share ∷ [], is)
    ];
    room = room;
  }

  pub later_advanced : (key : ℕ) (old new : NodeMachine T K S k) → most_of new.feed ≡ most_of old.feed
      → ((history : List (NodeEvent V)) → HasHistory wanted replies sites old history → HasAdvanced wanted replies sites key new history) → IsLater wanted replies sites old new
  later_advanced key old new room has = record { history = λ history was. by history (has history was); room = room }
    where
      by : (history : List (NodeEvent V)) → HasAdvanced wanted replies sites key new history → (later : List (NodeEvent V)) × HasHistory wanted replies sites new (later ++ history)
      by history (inl (inl same)) = ([], same)
      by history (inl (inr (inl (bytes, asked, is)))) = (Asked key bytes asked ∷ [], is)
      by history (inl (inr (inr (bytes, asked, is)))) = (AskedSites key bytes asked ∷ [], is)
      by history (inr (share, inl is)) = (Served key share ∷ [], is)
      by history (inr (share, inr (inl (bytes, asked, is)))) = (Asked key bytes asked ∷ Served key share ∷ [], is)
      by history (inr (share, inr (inr (bytes, asked, is)))) = (AskedSites key bytes asked ∷ Served key share ∷ [], is)

  pub later_taken : (fetching : Fetching) (reply : Result Got RequestFault) (old new : NodeMachine T K S k) → old.fetching ≡ Some fetching → ended_response fetching.exchange ≡ Some reply
      → most_of new.feed ≡ most_of old.feed
      → ((history : List (NodeEvent V)) → HasHistory wanted replies sites old history → HasTaken wanted replies sites old new history) → IsLater wanted replies sites old new
  later_taken fetching reply old new is of room has = record {
    history = λ history was.
        (let now = has history was fetching reply is of in (Took fetching.name fetching.fetch.phase reply now.0 ∷ [], now.1));
    room = room;
  }

  pub later_taken_part : (fetching : Fetching) (first size : ℕ) (bytes : List ℕ) (old new : NodeMachine T K S k) → old.fetching ≡ Some fetching
      → part_of fetching.exchange ≡ Some (first, size, bytes) → most_of new.feed ≡ most_of old.feed
      → ((history : List (NodeEvent V)) → HasHistory wanted replies sites old history → HasTakenPart wanted replies sites old new history)
      → IsLater wanted replies sites old new
  later_taken_part fetching first size bytes old new is of room has = record {
    history = λ history was.
        (let now = has history was fetching first size bytes is of in (TookPart fetching.name first size bytes now.0 ∷ [], now.1));
    room = room;
  }

  pub later_begun : (asked : Result Name NameFault) (old new : NodeMachine T K S k) → old.requested ≡ Some asked
      → most_of new.feed ≡ most_of old.feed → HasBegun wanted replies sites old new → IsLater wanted replies sites old new
  later_begun asked old new is room has = record { history = λ history was. (Began asked ∷ [], has asked history is was); room = room }

  pub later_kept_sites : (asked : SitesRequest) (old new : NodeMachine T K S k) → old.reload ≡ Some asked
      → most_of new.feed ≡ most_of old.feed → HasKeptSites wanted replies sites old new → IsLater wanted replies sites old new
  later_kept_sites asked old new is room has = record { history = λ history was. (SitesKept ∷ [], has asked history is was); room = room }

  pub later_finished : (fetching : Fetching) (old new : NodeMachine T K S k) → old.fetching ≡ Some fetching
      → most_of new.feed ≡ most_of old.feed → HasFinished wanted replies sites old new → IsLater wanted replies sites old new
  later_finished fetching old new is room has = record { history = λ history was. (Finished ∷ [], has fetching history is was); room = room }

  pub later_exchanged : (event : ExchangeEvent) (old new : NodeMachine T K S k)
      → most_of new.feed ≡ most_of old.feed → HasExchanged wanted replies sites event old new → IsLater wanted replies sites old new
  later_exchanged event old new room has = record { history = λ history was. (Exchanged event ∷ [], has history was); room = room }

module _ {T K S V : Type 0} {k : Ghosts K} {wanted : S → RequestHead → ℕ}
    {replies : S → Terms V → History → List ℕ → List ℕ → Bool → List ℕ → Type 0} {sites : S → V} where
  -- a node that does not change
  pub later_same : (node : NodeMachine T K S k) → IsLater wanted replies sites node node
  later_same node = record { history = λ history has. ([], has); room = refl }

  pub later_as : (old new : NodeMachine T K S k) → new ≡ old → IsLater wanted replies sites old new
  later_as old new same = subst (λ node. IsLater wanted replies sites old node) (sym same) (later_same old)

  -- a node that changes twice
  pub later_after : (first second third : NodeMachine T K S k) → IsLater wanted replies sites first second → IsLater wanted replies sites second third
      → IsLater wanted replies sites first third
  later_after first second third one other = record {
    history = λ history has. (
        let more = one.history history has in
        let most = other.history (more.0 ++ history) more.1 in
        (most.0 ++ more.0, subst (λ whole. HasHistory wanted replies sites third whole) (sym (append_assoc most.0 more.0 history)) most.1)
        );
    room = other.room ∙ one.room;
  }

  -- a node that keeps its promise after each of its histories
  pub right_after : (old new : NodeMachine T K S k) → IsLater wanted replies sites old new → NodeIsRight wanted replies sites new → IsRightAfter wanted replies sites old new
  right_after old new later right history has = let more = later.history history has in (more.0, more.1, right (more.0 ++ history) more.1)
