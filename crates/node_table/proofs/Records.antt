-- The records of a log about a table.
use Rattle.std.proofs.Common.{◌≡◌, ◌+◌, ℕ, List, [], ◌∷◌, ◌++◌, Some, refl, sym, ap, subst, ◌∙◌, arith}
use Rattle.node_table.specs.declared.log.CloseCause.{CloseCause}
use Rattle.node_table.specs.declared.table.Table.{Table}
use Rattle.node_table.specs.Logs.{Entry, Accepted, Responded, Closed, AreFor, AreRecorded, HasRecorded, cause_in, closings}
use Rattle.node_table.specs.declared.peer.Peer.{Peer}
use Rattle.node_table.specs.Peers.{cause_of, micros_of}
use Rattle.node_table.specs.Tables.{peer_at, size_of, bytes_held, IsRemoved, HasClosed}
use Rattle.node_table.proofs.Firsts.{same_peer}

closings-append : (these those : List Entry) → closings (these ++ those) ≡ closings these + closings those
closings-append [] those = omega arith
closings-append (Accepted addr ∷ these) those = closings-append these those
closings-append (Responded addr connection micros ∷ these) those = closings-append these those
closings-append (Closed addr connection cause micros ∷ these) those = omega (arith, closings-append these those)

are_for-append : (cause : CloseCause) (these those : List Entry) → AreFor cause these → AreFor cause those → AreFor cause (these ++ those)
are_for-append cause [] those first second = second
are_for-append cause (Accepted addr ∷ these) those first second = are_for-append cause these those first second
are_for-append cause (Responded addr connection micros ∷ these) those first second = are_for-append cause these those first second
are_for-append cause (Closed addr connection given micros ∷ these) those first second = (first.0, are_for-append cause these those first.1 second)

module _ {L : Type 0} (records : L → Entry → L → Type 0) (cause : CloseCause) where
  recorded-append : (later earlier : List Entry) (a b c : L) → AreRecorded records a earlier b → AreRecorded records b later c → AreRecorded records a (later ++ earlier) c
  recorded-append [] earlier a b c first is = subst (λ l. AreRecorded records a earlier l) (sym is) first
  recorded-append (entry ∷ later) earlier a b c first second = (second.0, recorded-append later earlier a b second.0 first second.1, second.2)

  pub recorded_none : (log : L) → HasRecorded records cause 0 log log
  recorded_none log = record { entries = []; recorded = refl; counted = refl; causes = tt }

  -- the call that recorded this entry is the only one
  pub recorded_one : (entry : Entry) (count : ℕ) (old new : L) → closings (entry ∷ []) ≡ count → AreFor cause (entry ∷ []) → records old entry new
      → HasRecorded records cause count old new
  recorded_one entry count old new is for once = record { entries = entry ∷ []; recorded = (old, refl, once); counted = is; causes = for }

  pub recorded_both : (m n : ℕ) (a b c : L) → HasRecorded records cause m a b → HasRecorded records cause n b c → HasRecorded records cause (n + m) a c
  recorded_both m n a b c first second = record {
    entries = second.entries ++ first.entries;
    recorded = recorded-append second.entries first.entries a b c first.recorded second.recorded;
    counted = omega (arith, closings-append second.entries first.entries, first.counted, second.counted);
    causes = are_for-append cause second.entries first.entries second.causes first.causes;
  }

  module _ {T : Type 0} where
    -- nothing was removed
    pub closed_none : (old new : Table T) (log after : L) → HasRecorded records cause 0 log after → size_of new ≡ size_of old → new.clients ≡ old.clients
        → bytes_held new ≡ bytes_held old → HasClosed records cause old new log after
    closed_none old new log after none size clients held = record { count = 0; recorded = none; size = omega (arith, size); clients = clients; held = omega (arith, held) }

    -- one connection was removed
    closed_one : (key : ℕ) (given : CloseCause) (now : ℕ) (old new : Table T) (log after : L) → (removed : IsRemoved records key given now old new log after)
        → given ≡ cause_in removed.peer.connection cause → HasClosed records cause old new log after
    closed_one key given now old new log after removed is = record {
      count = 1;
      recorded = recorded_one (Closed removed.peer.addr removed.peer.connection given (micros_of removed.peer now)) 1 log after refl (is, tt) removed.recorded;
      size = removed.size;
      clients = removed.clients;
      held = omega (arith, removed.held);
    }

    -- for this cause, unless its last response was sent
    pub closed_removed : (key now : ℕ) (old new : Table T) (log after : L) (peer : Peer T) → peer_at old key ≡ Some peer
        → IsRemoved records key (cause_of peer cause) now old new log after → HasClosed records cause old new log after
    closed_removed key now old new log after peer there removed =
        closed_one key (cause_of peer cause) now old new log after removed (ap (λ p. cause_of p cause) (same_peer removed.peer peer (peer_at old key) removed.was there))

    pub closed_both : (a b c : Table T) (k l m : L) → HasClosed records cause a b k l → HasClosed records cause b c l m → HasClosed records cause a c k m
    closed_both a b c k l m first second = record {
      count = second.count + first.count;
      recorded = recorded_both first.count second.count k l m first.recorded second.recorded;
      size = omega (arith, first.size, second.size);
      clients = second.clients ∙ first.clients;
      held = omega (arith, first.held, second.held);
    }
