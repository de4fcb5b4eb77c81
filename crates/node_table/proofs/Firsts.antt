-- The search for the connection that is closed for a place or for memory.
use Rattle.std.proofs.Common.{◌≡◌, ◌+◌, ◌<◌, ◌≤◌, ◌⊎◌, ℕ, zero, suc, Bool, true, false, [], length, Option, Some, None, is_some, cond, refl, sym, ap, subst, ◌∙◌, arith, inl, inr}
use Rattle.std.proofs.lemmas.Bool.{both_ways, cases_eq, cases_lt}
use Rattle.std.proofs.lemmas.List.{get_or_past}
use Rattle.std.specs.Prelude.{IfSome, IfNone, IsSome}
use Rattle.node_connection.specs.States.{is_closed_before, closing_rank}
use Rattle.node_connection.specs.declared.phase.Shortage.{Shortage}
use Rattle.node_connection.specs.declared.phase.Shortage.TheVariants.{Places}
use Rattle.node_table.specs.declared.peer.Peer.{Peer}
use Rattle.node_table.specs.declared.table.Table.{Table}
use Rattle.node_table.specs.Tables.{peer_at, size_of, is_closed_first, waits, IsFirstAmong, IsFirstBelow, IsFirstToClose}
use Rattle.node_table.proofs.Order.{not_first, not_first_itself, waits_too}
use Rattle.node_table.proofs.Slots.{sum_of_same, sum_of_slot}

-- a fact for each key below a limit, and for the limit
pub with_limit : (limit other : ℕ) → other < limit + 1 → (other ≡ limit) ⊎ (other < limit)
with_limit limit other below = elim (cases_eq other limit) [ inl same ↦ inl same | inr differs ↦ inr (omega (arith, differs, below)) ]

module _ {T : Type 0} where
  pub same_peer : (first second : Peer T) (slot : Option (Peer T)) → slot ≡ Some first → slot ≡ Some second → second ≡ first
  same_peer first second slot one other = cc

  never_both : (peer : Peer T) (slot : Option (Peer T)) → slot ≡ None → slot ≡ Some peer → ⊥
  never_both peer slot none some = cc

  pub past : (table : Table T) (limit other : ℕ) → length table.peers.slots ≤ limit → limit ≤ other → peer_at table other ≡ None
  past table limit other within over = get_or_past table.peers.slots other None (omega (arith, within, over))

  -- a table with a connection is not empty
  pub some_there : (table : Table T) (key : ℕ) (peer : Peer T) → peer_at table key ≡ Some peer → 0 < size_of table
  some_there table key peer there = sum_of_slot (λ slot. cond (is_some slot) 1 0) refl table.peers.slots key peer there

  -- no connection is in an empty table
  pub none_there : {A : Type 0} (table : Table T) (key : ℕ) → size_of table ≡ 0 → IsSome (peer_at table key) → A
  none_there {A} table key empty some = by (peer_at table key) refl
    where
      by : (slot : Option (Peer T)) → peer_at table key ≡ slot → A
      by None is = absurd (cc)
      by (Some peer) is = absurd (omega (arith, some_there table key peer is, empty))

  -- if the one that is closed for a place waits, all do
  pub all_wait : (table : Table T) (key : ℕ) → IsFirstToClose Places table key → waits Places table key ≡ true → (other : ℕ) → IsSome (peer_at table other)
      → waits Places table other ≡ true
  all_wait table key first waiting other some = by (peer_at table other) refl
    where
      by : (slot : Option (Peer T)) → peer_at table other ≡ slot → waits Places table other ≡ true
      by None is = absurd (cc)
      by (Some rival) is =
          waits_too (waits Places table other) (waits Places table key) (is_closed_before Places rival.connection first.peer.connection) waiting
          (first.first other rival is)

module _ {T : Type 0} (shortage : Shortage) where
  -- no connection is closed before itself
  not_itself : (table : Table T) (key : ℕ) (peer : Peer T) → is_closed_first shortage table key peer key peer ≡ false
  not_itself table key peer = not_first_itself (waits shortage table key) (closing_rank shortage peer.connection) peer.connection.elapsed

  -- the connection with another name for its key
  at_limit : (table : Table T) (key other chosen : ℕ) (peer another rival : Peer T) → peer_at table key ≡ Some peer → other ≡ key
      → peer_at table other ≡ Some another → is_closed_first shortage table key peer chosen rival ≡ false
      → is_closed_first shortage table other another chosen rival ≡ false
  at_limit table key other chosen peer another rival here same is not =
      subst (λ k. is_closed_first shortage table k another chosen rival ≡ false) (sym same)
      (subst (λ p. is_closed_first shortage table key p chosen rival ≡ false) (sym (same_peer peer another (peer_at table key) here (ap (peer_at table) (sym same) ∙ is))) not)

  -- a key with no connection changes nothing
  pub first_skips : (table : Table T) (key : ℕ) (first : Option ℕ) → peer_at table key ≡ None → IsFirstBelow shortage table key first → IsFirstBelow shortage table (key + 1) first
  first_skips table key None none before = λ other below. elim (with_limit key other below) [
    | inl same ↦ ap (peer_at table) same ∙ none
    | inr less ↦ before other less
  ]
  first_skips table key (Some chosen) none before = record {
    peer = before.peer;
    there = before.there;
    first = λ other rival below is. elim (with_limit key other below) [
      | inl same ↦ absurd (never_both rival (peer_at table key) none (ap (peer_at table) (sym same) ∙ is))
      | inr less ↦ before.first other rival less is
    ];
  }

  -- the connection with this key is not closed before the chosen one
  pub first_stays : (table : Table T) (key chosen : ℕ) (peer rival : Peer T) → peer_at table key ≡ Some peer → peer_at table chosen ≡ Some rival
      → is_closed_first shortage table key peer chosen rival ≡ false → IsFirstAmong shortage table key chosen → IsFirstAmong shortage table (key + 1) chosen
  first_stays table key chosen peer rival here there not before = record {
    peer = rival;
    there = there;
    first = λ other another below is. elim (with_limit key other below) [
      | inl same ↦ at_limit table key other chosen peer another rival here same is not
      | inr less ↦
          subst (λ p. is_closed_first shortage table other another chosen p ≡ false) (same_peer rival before.peer (peer_at table chosen) there before.there)
          (before.first other another less is)
    ];
  }

  -- it is, so that it is chosen in its place
  pub first_changes : (table : Table T) (key chosen : ℕ) (peer rival : Peer T) → peer_at table key ≡ Some peer → peer_at table chosen ≡ Some rival
      → is_closed_first shortage table key peer chosen rival ≡ true → IsFirstAmong shortage table key chosen → IsFirstAmong shortage table (key + 1) key
  first_changes table key chosen peer rival here there is_before before = record {
    peer = peer;
    there = here;
    first = λ other another below is. elim (with_limit key other below) [
      | inl same ↦ at_limit table key other key peer another peer here same is (not_itself table key peer)
      | inr less ↦
          not_first (waits shortage table key) (waits shortage table chosen) (waits shortage table other)
          (closing_rank shortage peer.connection) peer.connection.elapsed (closing_rank shortage rival.connection) rival.connection.elapsed
          (closing_rank shortage another.connection) another.connection.elapsed is_before
          (subst (λ p. is_closed_first shortage table other another chosen p ≡ false) (same_peer rival before.peer (peer_at table chosen) there before.there)
          (before.first other another less is))
    ];
  }

  -- it is the first one
  pub first_begins : (table : Table T) (key : ℕ) (peer : Peer T) → peer_at table key ≡ Some peer → IsFirstBelow shortage table key None → IsFirstAmong shortage table (key + 1) key
  first_begins table key peer here none = record {
    peer = peer;
    there = here;
    first = λ other another below is. elim (with_limit key other below) [
      | inl same ↦ at_limit table key other key peer another peer here same is (not_itself table key peer)
      | inr less ↦ absurd (never_both another (peer_at table other) (none other less) is)
    ];
  }

  -- the chosen one is the first of all once all keys were looked at
  pub first_of_all : (table : Table T) (limit chosen : ℕ) → length table.peers.slots ≤ limit → IsFirstAmong shortage table limit chosen → IsFirstToClose shortage table chosen
  first_of_all table limit chosen within among = record {
    peer = among.peer;
    there = among.there;
    first = λ other rival is. elim (cases_lt other limit) [
      | inl below ↦ among.first other rival below is
      | inr over ↦ absurd (never_both rival (peer_at table other) (past table limit other within over) is)
    ];
  }

  -- and without one the table is empty
  pub none_at_all : (table : Table T) (limit : ℕ) → length table.peers.slots ≤ limit → IsFirstBelow shortage table limit None → size_of table ≡ 0
  none_at_all table limit within none =
      sum_of_same (λ slot. cond (is_some slot) 1 0) refl table.peers.slots [] (λ other. elim (cases_lt other limit) [
        | inl below ↦ none other below
        | inr over ↦ past table limit other within over
      ])

  -- the chosen one, if there is any
  pub first_found : (table : Table T) (limit : ℕ) (first : Option ℕ) → length table.peers.slots ≤ limit → IsFirstBelow shortage table limit first
      → IfSome first (λ key. IsFirstToClose shortage table key)
  first_found table limit None within below = tt
  first_found table limit (Some key) within below = first_of_all table limit key within below

  pub none_found : (table : Table T) (limit : ℕ) (first : Option ℕ) → length table.peers.slots ≤ limit → IsFirstBelow shortage table limit first
      → IfNone first (size_of table ≡ 0)
  none_found table limit None within below = none_at_all table limit within below
  none_found table limit (Some key) within below = tt

  -- with one key more there is a first one again, or none
  next_first : (table : Table T) (limit : ℕ) (slot : Option (Peer T)) (first : Option ℕ) → peer_at table limit ≡ slot
      → IsFirstBelow shortage table limit first → (next : Option ℕ) × IsFirstBelow shortage table (limit + 1) next
  next_first table limit None first is below = (first, first_skips table limit first is below)
  next_first table limit (Some peer) None is below = (Some limit, first_begins table limit peer is below)
  next_first table limit (Some peer) (Some chosen) is below = by (is_closed_first shortage table limit peer chosen below.peer) refl
    where
      by : (before : Bool) → is_closed_first shortage table limit peer chosen below.peer ≡ before → (next : Option ℕ) × IsFirstBelow shortage table (limit + 1) next
      by true before = (Some limit, first_changes table limit chosen peer below.peer is below.there before below)
      by false not = (Some chosen, first_stays table limit chosen peer below.peer is below.there not below)

  first_below : (table : Table T) (limit : ℕ) → (first : Option ℕ) × IsFirstBelow shortage table limit first
  first_below table zero = (None, λ key below. absurd (omega (arith, below)))
  first_below table (suc limit) =
      let before = first_below table limit in
      let next = next_first table limit (peer_at table limit) before.0 refl before.1 in
      let same : limit + 1 ≡ suc limit = omega arith in
      (next.0, subst (λ n. IsFirstBelow shortage table n next.0) same next.1)

module _ {T : Type 0} where
  -- if a connection does not wait, the one that is closed for a place does not
  pub one_is_closed : (table : Table T) (key : ℕ) → IsSome (peer_at table key) → waits Places table key ≡ false
      → (first : ℕ) × IsFirstToClose Places table first × (waits Places table first ≡ false)
  one_is_closed table key there not = let below = first_below Places table (length table.peers.slots) in by below.0 below.1
    where
      moves : (first : ℕ) → IsFirstToClose Places table first → (waiting : Bool) → waits Places table first ≡ waiting → waits Places table first ≡ false
      moves first is true waiting = absurd (both_ways (waits Places table key) not (all_wait table first is waiting key there))
      moves first is false waiting = waiting

      by : (first : Option ℕ) → IsFirstBelow Places table (length table.peers.slots) first
          → (first : ℕ) × IsFirstToClose Places table first × (waits Places table first ≡ false)
      by None none = none_there table key (none_at_all Places table (length table.peers.slots) (omega arith) none) there
      by (Some first) among =
          let is = first_of_all Places table (length table.peers.slots) first (omega arith) among in
          (first, is, moves first is (waits Places table first) refl)

  -- the connections with keys below a limit wait
  abbrev pub AllWaitBelow : Table T → ℕ → Type 0
  AllWaitBelow table limit = (key : ℕ) → key < limit → IsSome (peer_at table key) → waits Places table key ≡ true

  pub all_wait_next : (table : Table T) (limit : ℕ) → AllWaitBelow table limit → (IsSome (peer_at table limit) → waits Places table limit ≡ true)
      → AllWaitBelow table (limit + 1)
  all_wait_next table limit before here = λ key below there. elim (with_limit limit key below) [
    | inl same ↦ subst (λ k. waits Places table k ≡ true) (sym same) (here (subst (λ k. IsSome (peer_at table k)) same there))
    | inr less ↦ before key less there
  ]

  pub all_wait_below : (table : Table T) (limit : ℕ) → length table.peers.slots ≤ limit → AllWaitBelow table limit
      → (key : ℕ) → IsSome (peer_at table key) → waits Places table key ≡ true
  all_wait_below table limit within before key there = elim (cases_lt key limit) [
    | inl less ↦ before key less there
    | inr over ↦ absurd (no_some (peer_at table key) (past table limit key within over) there)
  ]
    where
      no_some : (slot : Option (Peer T)) → slot ≡ None → IsSome slot → ⊥
      no_some None none some = cc
      no_some (Some peer) none some = cc
