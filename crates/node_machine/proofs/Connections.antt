-- The connections of a table after an event of the node.
use Rattle.std.proofs.Common.{◌≡◌, ◌≢◌, ◌<◌, ◌≤◌, ℕ, zero, suc, Bool, true, false, List, [], ◌∷◌, ◌++◌, Option, Some, None, IsSome, inl, inr, refl, sym, ap, subst, ◌∙◌, eqb-true, arith}
use Rattle.std.specs.Prelude.{◌==◌, IsSomeAnd, if◌then◌else◌}
use Rattle.std.proofs.lemmas.Bool.{cases_eq, cases_lt, eqb-false}
use Rattle.slab.specs.Slab.{Slab, get}
use Rattle.node_connection.specs.Events.{Event, Elapsed}
use Rattle.node_connection.specs.States.{HasState}
use Rattle.node_table.specs.declared.peer.Peer.{Peer}
use Rattle.node_table.specs.declared.table.Table.{Table}
use Rattle.node_table.specs.Peers.{held_limit, millis_of}
use Rattle.node_table.specs.Tables.{peer_at, size_of, bytes_held, AreElapsed, KeepsConnections, KeepsOthers}
use Rattle.node_table.proofs.Firsts.{same_peer, some_there}
use Rattle.node_machine.specs.NodeEvents.{NodeEvent, Accepted, Served, Passed, events_of}
use Rattle.node_machine.specs.Nodes.{AreAt}

-- the events under a key, by a test
here_or : (key other : ℕ) (P : List Event → Type 0) (one two : List Event) → (key ≡ other → P one) → (key ≢ other → P two)
    → P (if key == other then one else two)
here_or key other P one two same differs = by (key == other) refl
  where
    by : (b : Bool) → (key == other) ≡ b → P (if b then one else two)
    by true is = same (eqb-true key other is)
    by false is = differs (eqb-false key other is)

module _ {T : Type 0} where
  never_both : {A : Type 0} (slot : Option (Peer T)) (peer : Peer T) → slot ≡ None → slot ≡ Some peer → A
  never_both slot peer none some = absurd (cc)

  -- a table without connections
  pub at_empty : {V : Type 0} (table : Table T) (history : List (NodeEvent V)) → size_of table ≡ 0 → AreAt table history
  at_empty table history empty key peer there = absurd (let some = some_there table key peer there in omega arith)

  -- the connections that remain are as they were
  pub at_kept : {V : Type 0} (old new : Table T) (history : List (NodeEvent V)) → KeepsConnections old new → AreAt old history → AreAt new history
  at_kept old new history keeps at key peer there =
      let was = keeps key peer there in subst (λ c. HasState c (events_of key history)) (sym was.2) (at key was.0 was.1)

  pub keeps_all : (old new : Table T) → new.peers ≡ old.peers → KeepsConnections old new
  keeps_all old new same key peer there = (peer, subst (λ (peers : Slab (Peer T)). get peers key ≡ Some peer) same there, refl)

  -- one connection is removed
  pub keeps_others : (key : ℕ) (old new : Table T) → KeepsOthers key old new → peer_at new key ≡ None → KeepsConnections old new
  keeps_others key old new others gone other peer there = elim (cases_eq other key) [
    | inl same ↦ never_both (peer_at new key) peer gone (ap (peer_at new) (sym same) ∙ there)
    | inr differs ↦ (peer, sym (others other differs) ∙ there, refl)
  ]

  -- one connection is added
  pub at_accepted : {V : Type 0} (key : ℕ) (old new : Table T) (history : List (NodeEvent V)) → KeepsOthers key old new
      → IsSomeAnd (peer_at new key) (λ peer. HasState peer.connection []) → AreAt old history → AreAt new (Accepted key ∷ history)
  at_accepted key old new history others fresh at other peer there =
      here_or key other (λ events. HasState peer.connection events) [] (events_of other history)
      (λ same. subst (λ slot. IsSomeAnd slot (λ (p : Peer T). HasState p.connection [])) (ap (peer_at new) same ∙ there) fresh)
      (λ differs. at other peer (sym (others other (λ e. differs (sym e))) ∙ there))

  -- one connection had a share
  pub at_served : {V : Type 0} (key : ℕ) (share : List Event) (old new : Table T) (history : List (NodeEvent V)) → KeepsOthers key old new
      → ((peer : Peer T) → peer_at new key ≡ Some peer → HasState peer.connection (share ++ events_of key history))
      → AreAt old history → AreAt new (Served key share ∷ history)
  at_served key share old new history others served at other peer there =
      here_or key other (λ events. HasState peer.connection events) (share ++ events_of other history) (events_of other history)
      (λ same. subst (λ n. HasState peer.connection (share ++ events_of n history)) same (served peer (ap (peer_at new) same ∙ there)))
      (λ differs. at other peer (sym (others other (λ e. differs (sym e))) ∙ there))

  -- the milliseconds that the clock of a connection counted
  abbrev pub millis_in : Option (Peer T) → ℕ → ℕ
  millis_in None now = 0
  millis_in (Some peer) now = millis_of peer now

  abbrev pub millis_at : Table T → ℕ → ℕ → ℕ
  millis_at table now key = millis_in (peer_at table key) now

  -- time passed
  pub at_passed : {V : Type 0} (now : ℕ) (old new : Table T) (history : List (NodeEvent V)) → AreElapsed now old new → AreAt old history
      → AreAt new (Passed (millis_at old now) ∷ history)
  at_passed now old new history elapsed at key peer there =
      let was = elapsed key peer there in
      subst (λ n. HasState peer.connection (Elapsed n ∷ events_of key history)) (sym (counted was.0 was.1)) (was.2 (events_of key history) (at key was.0 was.1))
    where
      counted : (was : Peer T) → peer_at old key ≡ Some was → millis_at old now key ≡ millis_of was now
      counted was is = ap (λ slot. millis_in slot now) is

  -- the connection with this key, if it is there, has the state that it had
  pub keeps_here : (key : ℕ) (old new : Table T) (was next : Peer T) → KeepsOthers key old new → peer_at old key ≡ Some was → peer_at new key ≡ Some next
      → next.connection ≡ was.connection → KeepsConnections old new
  keeps_here key old new was next others there here kept other peer is = elim (cases_eq other key) [
    | inl same ↦
        (was, ap (peer_at old) same ∙ there, ap (λ (p : Peer T). p.connection) (sym (same_peer peer next (peer_at new key) (ap (peer_at new) (sym same) ∙ is) here)) ∙ kept)
    | inr differs ↦ (peer, sym (others other differs) ∙ is, refl)
  ]

  -- the table is the same
  pub keeps_same : (old new : Table T) → new ≡ old → KeepsConnections old new
  keeps_same old new same key peer there = (peer, subst (λ (t : Table T). peer_at t key ≡ Some peer) same there, refl)

  -- one connection is removed, if there is any
  pub keeps_room : (old new : Table T) → (0 < size_of old → (key : ℕ) × KeepsOthers key old new × (peer_at new key ≡ None)) → (size_of old ≡ 0 → new ≡ old)
      → KeepsConnections old new
  keeps_room old new some none = by (size_of old) refl
    where
      by : (n : ℕ) → size_of old ≡ n → KeepsConnections old new
      by zero is = keeps_same old new (none is)
      by (suc n) is = let gone = some (omega (arith, is)) in keeps_others gone.0 old new gone.1 gone.2

  -- the connection with this key is removed, if it is there
  pub keeps_removed : (key : ℕ) (old new : Table T) → (IsSome (peer_at old key) → KeepsOthers key old new × (peer_at new key ≡ None))
      → (peer_at old key ≡ None → new ≡ old) → KeepsConnections old new
  keeps_removed key old new some none = by (peer_at old key) refl
    where
      by : (slot : Option (Peer T)) → peer_at old key ≡ slot → KeepsConnections old new
      by None is = keeps_same old new (none is)
      by (Some peer) is = let gone = some (subst (λ slot. IsSome slot) (sym is) refl) in keeps_others key old new gone.0 gone.1

  -- one connection is removed, if the responses take too much memory
  pub keeps_memory : (old new : Table T) → (held_limit < bytes_held old → (key : ℕ) × KeepsOthers key old new × (peer_at new key ≡ None))
      → (bytes_held old ≤ held_limit → new ≡ old) → KeepsConnections old new
  keeps_memory old new over within = elim (cases_lt held_limit (bytes_held old)) [
    | inl more ↦ let gone = over more in keeps_others gone.0 old new gone.1 gone.2
    | inr few ↦ keeps_same old new (within few)
  ]
