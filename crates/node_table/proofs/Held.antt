-- The bytes that the responses of a table take.
use Rattle.std.proofs.Common.{◌≡◌, ◌≢◌, ◌+◌, ◌-◌, ◌≤◌, max, ℕ, List, get_or, set, Option, Some, None, sum_by, refl, sym, ap, subst, ◌∙◌, arith, inl, inr}
use Rattle.std.proofs.lemmas.Bool.{cases_eq}
use Rattle.std.proofs.lemmas.List.{get_or-set_same, get_or-set_other}
use Rattle.slab.specs.Slab.{Slab, get, Updates}
use Rattle.node_connection.specs.declared.phase.Shortage.TheVariants.{Memory}
use Rattle.node_connection.specs.States.{allocated_bytes}
use Rattle.node_table.specs.declared.peer.Peer.{Peer}
use Rattle.node_table.specs.declared.table.Table.{Table}
use Rattle.node_table.specs.Peers.{held_in, held_limit, AreBounded}
use Rattle.node_table.specs.Tables.{peer_at, bytes_held, held_at, IsFirstToClose}
use Rattle.node_table.proofs.Order.{ranks_no_higher}
use Rattle.node_table.proofs.Slots.{sum_of_insert, sum_of_slot, sum_of_write, within}

module _ {T : Type 0} where
  -- a connection holds no more than all of them
  pub own_is_within : (slots : List (Option (Peer T))) (key : ℕ) (old : Peer T) (held before : ℕ) → get_or slots key None ≡ Some old
      → held ≡ sum_by held_in slots → before ≡ allocated_bytes old.connection → before ≤ held
  own_is_within slots key old held before there counted was =
      let least : allocated_bytes old.connection ≤ sum_by held_in slots = sum_of_slot held_in refl slots key old there in
      omega (arith, least, counted, was)

  -- a connection changed
  pub counted_after_write : (slots : List (Option (Peer T))) (key : ℕ) (old new : Peer T) (held before after : ℕ) → get_or slots key None ≡ Some old
      → held ≡ sum_by held_in slots → before ≡ allocated_bytes old.connection → after ≡ (held - before) + allocated_bytes new.connection
      → after ≡ sum_by held_in (set slots key (Some new))
  counted_after_write slots key old new held before after there counted was is =
      let written : sum_by held_in (set slots key (Some new)) + allocated_bytes old.connection ≡ sum_by held_in slots + allocated_bytes new.connection =
      sum_of_write held_in refl slots key old (Some new) there in
      let least : allocated_bytes old.connection ≤ sum_by held_in slots = sum_of_slot held_in refl slots key old there in
      omega (arith, written, least, counted, was, is)

  here_after : (slots : List (Option (Peer T))) (key longest : ℕ) (old : Peer T) (slot : Option (Peer T)) → get_or slots key None ≡ Some old
      → ((other : ℕ) → held_in (get_or (set slots key slot) other None) ≤ longest) → held_in slot ≤ longest
  here_after slots key longest old slot there most =
      subst (λ s. held_in s ≤ longest) (get_or-set_same slots key slot None (within held_in refl slots key old there)) (most key)

  others_before : (slots : List (Option (Peer T))) (key longest : ℕ) (slot : Option (Peer T))
      → ((other : ℕ) → held_in (get_or (set slots key slot) other None) ≤ longest) → (other : ℕ) → other ≢ key → held_in (get_or slots other None) ≤ longest
  others_before slots key longest slot most other differs =
      subst (λ s. held_in s ≤ longest) (get_or-set_other slots key other slot None differs) (most other)

  -- a connection changed, and before that all held the limit at most
  pub bounded_after_write : (slots : List (Option (Peer T))) (key : ℕ) (old new : Peer T) → get_or slots key None ≡ Some old
      → sum_by held_in slots ≤ held_limit → AreBounded (set slots key (Some new))
  bounded_after_write slots key old new there few longest most =
      let written : sum_by held_in (set slots key (Some new)) + allocated_bytes old.connection ≡ sum_by held_in slots + allocated_bytes new.connection =
      sum_of_write held_in refl slots key old (Some new) there in
      let own : allocated_bytes new.connection ≤ longest = here_after slots key longest old (Some new) there most in
      omega (arith, written, own, few)

  -- a slot changed, and has no more than it had
  bounded_after_less : (slots : List (Option (Peer T))) (key : ℕ) (old : Peer T) (slot : Option (Peer T)) → get_or slots key None ≡ Some old
      → held_in slot ≤ allocated_bytes old.connection → AreBounded slots → AreBounded (set slots key slot)
  bounded_after_less slots key old slot there less bounded longest most =
      let written : sum_by held_in (set slots key slot) + allocated_bytes old.connection ≡ sum_by held_in slots + held_in slot =
      sum_of_write held_in refl slots key old slot there in
      let own : held_in slot ≤ longest = here_after slots key longest old slot there most in
      let all : sum_by held_in slots ≤ held_limit + max longest (allocated_bytes old.connection) =
      bounded (max longest (allocated_bytes old.connection)) (λ other. elim (cases_eq other key) [
        | inl same ↦ let is : held_in (get_or slots other None) ≡ allocated_bytes old.connection = ap (λ k. held_in (get_or slots k None)) same ∙ ap held_in there in omega (arith, is)
        | inr differs ↦ omega (arith, others_before slots key longest slot most other differs)
      ]) in
      omega (arith, written, own, all, less)

  -- a connection changed, and holds as much as it held
  pub counted_after_same : (slots : List (Option (Peer T))) (key : ℕ) (old new : Peer T) (held : ℕ) → get_or slots key None ≡ Some old
      → held ≡ sum_by held_in slots → allocated_bytes new.connection ≡ allocated_bytes old.connection → held ≡ sum_by held_in (set slots key (Some new))
  counted_after_same slots key old new held there counted same =
      let written : sum_by held_in (set slots key (Some new)) + allocated_bytes old.connection ≡ sum_by held_in slots + allocated_bytes new.connection =
      sum_of_write held_in refl slots key old (Some new) there in
      omega (arith, written, counted, same)

  pub bounded_after_same : (slots : List (Option (Peer T))) (key : ℕ) (old new : Peer T) → get_or slots key None ≡ Some old
      → allocated_bytes new.connection ≡ allocated_bytes old.connection → AreBounded slots → AreBounded (set slots key (Some new))
  bounded_after_same slots key old new there same bounded = bounded_after_less slots key old (Some new) there (omega (arith, same)) bounded

  -- a connection was removed
  pub held_after_removal : (slots left : List (Option (Peer T))) (key : ℕ) (old : Peer T) → get_or slots key None ≡ Some old → left ≡ set slots key None
      → sum_by held_in left + held_in (get_or slots key None) ≡ sum_by held_in slots
  held_after_removal slots left key old there is =
      let written : sum_by held_in (set slots key None) + allocated_bytes old.connection ≡ sum_by held_in slots + 0 =
      sum_of_write held_in refl slots key old None there in
      let same : sum_by held_in left ≡ sum_by held_in (set slots key None) = ap (λ l. sum_by held_in l) is in
      let own : held_in (get_or slots key None) ≡ allocated_bytes old.connection = ap held_in there in
      omega (arith, written, same, own)

  pub counted_after_removal : (slots left : List (Option (Peer T))) (key : ℕ) (old : Peer T) (held before : ℕ) → get_or slots key None ≡ Some old
      → left ≡ set slots key None → held ≡ sum_by held_in slots → before ≡ allocated_bytes old.connection → held - before ≡ sum_by held_in left
  counted_after_removal slots left key old held before there is counted was =
      let own : held_in (get_or slots key None) ≡ allocated_bytes old.connection = ap held_in there in
      omega (arith, held_after_removal slots left key old there is, own, counted, was)

  pub bounded_after_removal : (slots left : List (Option (Peer T))) (key : ℕ) (old : Peer T) → get_or slots key None ≡ Some old → left ≡ set slots key None
      → AreBounded slots → AreBounded left
  bounded_after_removal slots left key old there is bounded =
      subst (λ l. AreBounded l) (sym is) (bounded_after_less slots key old None there (omega arith) bounded)

  -- a connection with no response was added
  pub held_after_insert : (old new : Slab (Peer T)) (key : ℕ) (peer : Peer T) → get old key ≡ None → Updates old new key (Some peer)
      → allocated_bytes peer.connection ≡ 0 → sum_by held_in new.slots ≡ sum_by held_in old.slots
  held_after_insert old new key peer vacant updates none =
      let added : sum_by held_in new.slots ≡ sum_by held_in old.slots + allocated_bytes peer.connection =
      sum_of_insert held_in refl old.slots new.slots key peer vacant updates.changed updates.others in
      omega (arith, added, none)

  pub bounded_after_insert : (old new : Slab (Peer T)) (key : ℕ) (peer : Peer T) → get old key ≡ None → Updates old new key (Some peer)
      → allocated_bytes peer.connection ≡ 0 → AreBounded old.slots → AreBounded new.slots
  bounded_after_insert old new key peer vacant updates none bounded longest most =
      let all : sum_by held_in old.slots ≤ held_limit + longest = bounded longest (λ other. elim (cases_eq other key) [
        | inl same ↦ let is : held_in (get old other) ≡ 0 = ap (λ k. held_in (get old k)) same ∙ ap held_in vacant in omega (arith, is)
        | inr differs ↦ subst (λ s. held_in s ≤ longest) (updates.others other differs) (most other)
      ]) in
      omega (arith, held_after_insert old new key peer vacant updates none, all)

  -- no response takes more than that of the connection which is closed for memory
  holds_most : (table : Table T) (key : ℕ) → (first : IsFirstToClose Memory table key) → (other : ℕ) → held_at table other ≤ allocated_bytes first.peer.connection
  holds_most table key first other = by (peer_at table other) refl
    where
      by : (slot : Option (Peer T)) → peer_at table other ≡ slot → held_in (peer_at table other) ≤ allocated_bytes first.peer.connection
      by None is = let none : held_in (peer_at table other) ≡ 0 = ap held_in is in omega (arith, none)
      by (Some rival) is =
          let own : held_in (peer_at table other) ≡ allocated_bytes rival.connection = ap held_in is in
          omega (
            arith,
            own,
            ranks_no_higher (allocated_bytes rival.connection) rival.connection.elapsed (allocated_bytes first.peer.connection) first.peer.connection.elapsed
                (first.first other rival is),
          )

  -- without it the responses take the limit at most
  pub within_after_removal : (old new : Table T) (key : ℕ) → IsFirstToClose Memory old key → bytes_held new + held_at old key ≡ bytes_held old → bytes_held new ≤ held_limit
  within_after_removal old new key first removed =
      let own : held_at old key ≡ allocated_bytes first.peer.connection = ap held_in first.there in
      omega (arith, old.bounded (allocated_bytes first.peer.connection) (holds_most old key first), removed, own)
