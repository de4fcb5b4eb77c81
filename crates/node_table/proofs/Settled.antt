-- The table after a connection had its share of a turn.
use Rattle.std.proofs.Common.{◌≡◌, ◌+◌, ◌≤◌, ℕ, true, false, Option, Some, None, sum_by, refl, sym, ap, subst, ◌∙◌, inl, inr}
use Rattle.std.proofs.lemmas.Bool.{false≢true}
use Rattle.slab.specs.Slab.{get, slab_len}
use Rattle.node_connection.specs.declared.streams.Progress.{Progress}
use Rattle.node_table.specs.declared.log.CloseCause.TheVariants.{PeerClosed}
use Rattle.node_table.specs.declared.peer.Outcome.{Outcome}
use Rattle.node_table.specs.declared.peer.Outcome.TheVariants.{Over}
use Rattle.node_table.specs.declared.peer.Peer.{Peer}
use Rattle.node_table.specs.declared.table.Table.{Table}
use Rattle.node_table.specs.Logs.{Entry}
use Rattle.node_turns.specs.Turns.{IsGone, IsMarked}
use Rattle.node_table.specs.Peers.{IsFollowed, cause_of, held_in, is_behind}
use Rattle.node_table.specs.Tables.{peer_at, bytes_held, has_more, IsReadyAfter, KeepsOthers, IsRemoved, HasClosed, IsFollowedAt, IsSettled}
use Rattle.node_table.proofs.Records.{closed_both, closed_removed}

module _ {T L : Type 0} (records : L → Entry → L → Type 0) where
  -- the connection did what follows its share
  abbrev pub IsNext : ℕ → Progress → ℕ → Outcome → Table T → Table T → L → L → Type 0
  IsNext key progress now outcome old new log after =
      (peer : Peer T) → peer_at old key ≡ Some peer → (next : Peer T) × (peer_at new key ≡ Some next) × IsFollowed records outcome progress now peer next log after

  -- and the queues are not changed
  pub settled_still : (key : ℕ) (progress : Progress) (now : ℕ) (outcome : Outcome) (old new : Table T) (log after : L) → has_more outcome ≡ false
      → KeepsOthers key old new → new.ready ≡ old.ready → HasClosed records PeerClosed old new log after
      → ((peer : Peer T) → peer_at old key ≡ Some peer → IsFollowedAt records key progress now outcome peer new log after)
      → IsSettled records key progress now outcome old new log after
  settled_still key progress now outcome old new log after no_more others ready closed followed = record {
    others = others;
    still = λ _. inl ready;
    marked = λ more. absurd (false≢true (sym no_more ∙ more));
    closed = closed;
    followed = followed;
  }

  -- and it is marked as ready
  pub settled_ready : (key : ℕ) (progress : Progress) (now : ℕ) (outcome : Outcome) (old middle new : Table T) (log after : L)
      → KeepsOthers key old middle → middle.ready ≡ old.ready → HasClosed records PeerClosed old middle log after
      → ((peer : Peer T) → peer_at old key ≡ Some peer → IsFollowedAt records key progress now outcome peer new log after)
      → new.peers ≡ middle.peers → new.clients ≡ middle.clients → has_more outcome ≡ true
      → ((peer : Peer T) → peer_at middle key ≡ Some peer → IsReadyAfter key peer middle new) → IsSettled records key progress now outcome old new log after
  settled_ready key progress now outcome old middle new log after others ready closed followed peers clients more marked = record {
    others = λ other differs. ap (λ slab. get slab other) peers ∙ others other differs;
    still = λ no_more. absurd (false≢true (sym no_more ∙ more));
    marked = λ _ peer there. subst (λ queues. IsMarked (is_behind peer.connection) peer.slot key queues new.ready) ready
        (marked peer (subst (λ slab. get slab key ≡ Some peer) peers there));
    closed = record {
      count = closed.count;
      recorded = closed.recorded;
      size = ap (λ slab. slab_len slab + closed.count) peers ∙ closed.size;
      clients = clients ∙ closed.clients;
      held = subst (λ slab. sum_by held_in slab.slots ≤ bytes_held old) (sym peers) closed.held;
    };
    followed = followed;
  }

  -- or it is removed
  settled_removed : (key : ℕ) (progress : Progress) (now : ℕ) (old middle new : Table T) (log between after : L)
      → KeepsOthers key old middle → middle.ready ≡ old.ready → HasClosed records PeerClosed old middle log between
      → IsNext key progress now Over old middle log between → (peer : Peer T) → peer_at middle key ≡ Some peer
      → IsRemoved records key (cause_of peer PeerClosed) now middle new between after → IsSettled records key progress now Over old new log after
  settled_removed key progress now old middle new log between after others ready closed next peer there removed = record {
    others = λ other differs. removed.others other differs ∙ others other differs;
    still = λ _. inr (removed.gone, subst (λ queues. IsGone key queues new.ready) ready removed.ready);
    marked = λ more. absurd (false≢true more);
    closed = closed_both records PeerClosed old middle new log between after closed (closed_removed records PeerClosed key now middle new between after peer there removed);
    followed = λ was is. ((next was is).2.0, removed.gone);
  }

  -- or there is none
  settled_absent : (key : ℕ) (progress : Progress) (now : ℕ) (old middle : Table T) (log between : L)
      → KeepsOthers key old middle → middle.ready ≡ old.ready → HasClosed records PeerClosed old middle log between
      → IsNext key progress now Over old middle log between → peer_at middle key ≡ None → IsSettled records key progress now Over old middle log between
  settled_absent key progress now old middle log between others ready closed next none =
      settled_still key progress now Over old middle log between refl others ready closed (λ was is. ((next was is).2.0, none))

  -- by whether it is there
  pub settled_over : (key : ℕ) (progress : Progress) (now : ℕ) (old middle new : Table T) (log between after : L)
      → KeepsOthers key old middle → middle.ready ≡ old.ready → HasClosed records PeerClosed old middle log between
      → IsNext key progress now Over old middle log between
      → ((peer : Peer T) → peer_at middle key ≡ Some peer → IsRemoved records key (cause_of peer PeerClosed) now middle new between after)
      → (peer_at middle key ≡ None → (new ≡ middle) × (after ≡ between)) → IsSettled records key progress now Over old new log after
  settled_over key progress now old middle new log between after others ready closed next removed absent = by (peer_at middle key) refl
    where
      by : (slot : Option (Peer T)) → peer_at middle key ≡ slot → IsSettled records key progress now Over old new log after
      by (Some peer) there = settled_removed key progress now old middle new log between after others ready closed next peer there (removed peer there)
      by None none =
          subst (λ table. IsSettled records key progress now Over old table log after) (sym (absent none).0)
          (subst (λ l. IsSettled records key progress now Over old middle log l) (sym (absent none).1)
          (settled_absent key progress now old middle log between others ready closed next none))
