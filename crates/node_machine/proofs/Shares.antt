-- A share of a turn, and what follows it.
use Rattle.std.proofs.Common.{◌≡◌, ℕ, Bool, false, List, [], ◌∷◌, ◌++◌, Option, Some, None, ◌⊎◌, inl, inr, refl, subst}
use Rattle.std.specs.Prelude.{IfSome, ◌==◌, length}
use Rattle.feed_answer.specs.Today.{TodayValue}
use Rattle.feed_keep.specs.declared.keep.Keep.{Ghosts}
use Rattle.feed_model.specs.History.{History}
use Rattle.feed_model.specs.Content.{IsContent}
use Rattle.feed_releases.specs.Feeds.{recorded}
use Rattle.node_connection.specs.declared.streams.Progress.{Progress}
use Rattle.node_connection.specs.declared.streams.Share.{Share}
use Rattle.node_connection.specs.Events.{Event, Resumed}
use Rattle.node_connection.specs.States.{HasState, rest_of}
use Rattle.node_table.specs.declared.peer.Outcome.{Outcome}
use Rattle.node_table.specs.declared.peer.Outcome.TheVariants as outcome
use Rattle.node_table.specs.declared.peer.Peer.{Peer}
use Rattle.node_table.specs.declared.table.Table.{Table}
use Rattle.node_table.specs.Logs.{Entry}
use Rattle.node_table.specs.Tables.{peer_at, IsServed, IsFollowedAt, KeepsOthers}
use Rattle.node_table.proofs.Firsts.{same_peer}
use Rattle.node_machine.specs.declared.occasion.Occasion.{Occasion}
use Rattle.node_machine.specs.NodeEvents.{NodeEvent, Served, busy_in, events_of, feed_history, reloading_in, sites_in, today_in}
use Rattle.node_machine.specs.Occasions.{IsResponseOn}
use Rattle.node_machine.specs.Rules.{Rules, Terms, terms_with, IsShare}
use Rattle.node_machine.specs.Nodes.{AreAt}
use Rattle.node_machine.proofs.Connections.{at_kept, at_served, keeps_here, keeps_others}
use Rattle.node_machine.proofs.Responses.{are_more}

-- a response on an occasion is one to each history that the feed has
pub reply_to : {K V : Type 0} {k : Ghosts K} (replies : Terms V → History → List ℕ → List ℕ → Bool → List ℕ → Type 0) (sites : V) (occasion : Occasion K k)
    (token : Option (List ℕ)) (is_busy is_reloading : Bool) (h : History) → occasion.policy.token ≡ token → occasion.policy.is_busy ≡ is_busy
    → occasion.policy.is_reloading ≡ is_reloading → IsContent (recorded occasion.feed.now) h → (head body : List ℕ) (keeps : Bool) (reply : Option (List ℕ))
    → IsResponseOn replies sites occasion head body keeps reply
    → IfSome reply (replies (terms_with token is_busy is_reloading occasion.is_local occasion.today sites) h head body keeps)
reply_to replies sites occasion token is_busy is_reloading h same busy reloading content head body keeps None is = tt
reply_to replies sites occasion token is_busy is_reloading h same busy reloading content head body keeps (Some text) is =
    subst (λ (b : Bool). replies (terms_with token is_busy b occasion.is_local occasion.today sites) h head body keeps text) reloading
    (subst (λ (b : Bool). replies (terms_with token b occasion.policy.is_reloading occasion.is_local occasion.today sites) h head body keeps text) busy
    (subst (λ (t : Option (List ℕ)). replies (terms_with t occasion.policy.is_busy occasion.policy.is_reloading occasion.is_local occasion.today sites) h head body keeps text) same
    (is h content)))

module _ {T V : Type 0} where
  -- the table has this history, with one more share of this connection if it is there
  abbrev pub MovesBy : Rules V → Option (List ℕ) → ℕ → Table T → List (NodeEvent V) → Type 0
  MovesBy rules token key table history =
      AreAt table history ⊎ ((share : List Event) × AreAt table (Served key share ∷ history) × IsShare rules token key share history)

  pub serve_moves : (rules : Rules V) (some : List ℕ → List ℕ → Bool → Option (List ℕ) → Type 0) (token : Option (List ℕ)) (is_local : Bool) (today : TodayValue) (sites : V)
      (key : ℕ) (progress : Progress) (share left : Share) (old new : Table T) (history : List (NodeEvent V))
      → ((head body : List ℕ) (keeps : Bool) (reply : Option (List ℕ)) → some head body keeps reply
      → IfSome reply (rules.1 (terms_with token (busy_in history) (reloading_in history) is_local today sites) (feed_history history) head body keeps))
      → IsServed (rules.0, some) key progress share left old new → KeepsOthers key old new → (peer_at old key ≡ None → peer_at new key ≡ None)
      → AreAt old history → today_in history ≡ Some today → sites_in history ≡ Some sites → MovesBy rules token key new history
  serve_moves rules some token is_local today sites key progress share left old new history text served others absent at day had = by (peer_at old key) refl
    where
      by : (slot : Option (Peer T)) → peer_at old key ≡ slot → MovesBy rules token key new history
      by None is = inl (at_kept old new history (keeps_others key old new others (absent is)) at)
      by (Some peer) is =
          let next = served peer is in
          let moved = next.2.moved (events_of key history) (at key peer is) in
          inr (
            moved.more,
            at_served key moved.more old new history others
                (λ it there. subst (λ (p : Peer T). HasState p.connection (moved.more ++ events_of key history)) (same_peer it next.0 (peer_at new key) there next.1) moved.state) at,
            record {
              connection = next.0.connection;
              state = moved.state;
              is_local = is_local;
              today = today;
              day = day;
              sites = sites;
              had = had;
              replied =
                  are_more rules.0 some
                  (λ head body keeps reply.
                  IfSome reply (rules.1 (terms_with token (busy_in history) (reloading_in history) is_local today sites) (feed_history history) head body keeps)) text
                  moved.more moved.replies_made;
            },
          )

  module _ {L : Type 0} (records : L → Entry → L → Type 0) where
    pub settle_moves : (rules : Rules V) (token : Option (List ℕ)) (today : TodayValue) (sites : V) (key : ℕ) (progress : Progress) (now : ℕ) (what : Outcome) (old new : Table T) (log after : L)
        (history : List (NodeEvent V)) → ((peer : Peer T) → peer_at old key ≡ Some peer → IsFollowedAt records key progress now what peer new log after)
        → KeepsOthers key old new → (peer_at old key ≡ None → peer_at new key ≡ None) → AreAt old history → today_in history ≡ Some today → sites_in history ≡ Some sites
        → MovesBy rules token key new history
    settle_moves rules token today sites key progress now what old new log after history followed others absent at day had = by (peer_at old key) refl
      where
        same : (peer next : Peer T) → peer_at old key ≡ Some peer → peer_at new key ≡ Some next → next.connection ≡ peer.connection → MovesBy rules token key new history
        same peer next is there kept = inl (at_kept old new history (keeps_here key old new peer next others is there kept) at)

        next : (peer : Peer T) → peer_at old key ≡ Some peer → (what : Outcome) → IsFollowedAt records key progress now what peer new log after → MovesBy rules token key new history
        next peer is outcome.Waits (it, there, so) = same peer it is there so.2
        next peer is outcome.Ready (it, there, so) = same peer it is there so.2
        next peer is outcome.Streams (it, there, so) = same peer it is there so.1
        next peer is outcome.Over so = inl (at_kept old new history (keeps_others key old new others so.1) at)
        next peer is outcome.Resumed (it, there, so) =
            let state = so.1 (events_of key history) (at key peer is) in
            inr (
              Resumed (length (rest_of peer.connection) == 0) ∷ [],
              at_served key (Resumed (length (rest_of peer.connection) == 0) ∷ []) old new history others
                  (λ other here. subst (λ (p : Peer T). HasState p.connection (Resumed (length (rest_of peer.connection) == 0) ∷ events_of key history))
                  (same_peer other it (peer_at new key) here there) state) at,
              record { connection = it.connection; state = state; is_local = false; today = today; day = day; sites = sites; had = had; replied = tt },
            )

        by : (slot : Option (Peer T)) → peer_at old key ≡ slot → MovesBy rules token key new history
        by None is = inl (at_kept old new history (keeps_others key old new others (absent is)) at)
        by (Some peer) is = next peer is what (followed peer is)
