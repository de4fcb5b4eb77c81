-- The connections that are out of time, as far as they were looked at.
use Rattle.std.proofs.Common.{◌≡◌, ◌+◌, ◌<◌, ◌≤◌, ℕ, length, Option, Some, None, IsSome, refl, sym, subst, ap, ◌∙◌, arith, inl, inr}
use Rattle.std.proofs.lemmas.Bool.{cases_eq, cases_lt}
use Rattle.std.proofs.lemmas.List.{get_or_past}
use Rattle.node_table.specs.declared.peer.Peer.{Peer}
use Rattle.node_table.specs.declared.table.Table.{Table}
use Rattle.node_table.specs.Peers.{IsLate}
use Rattle.node_table.specs.Tables.{peer_at, AreElapsed, IsElapsedAt, IsExpired, KeepsOthers}

module _ {T : Type 0} where
  some_there : (slot : Option (Peer T)) → IsSome slot → (peer : Peer T) × (slot ≡ Some peer)
  some_there None there = absurd (cc)
  some_there (Some peer) there = (peer, refl)

  pub peer_there : (table : Table T) (key : ℕ) → IsSome (peer_at table key) → (peer : Peer T) × (peer_at table key ≡ Some peer)
  peer_there table key there = some_there (peer_at table key) there

  -- the connections below this key that are out of time are removed, the others below it remain, and those from it on are
  -- as they were
  pub record IsExpiredBelow (limit now : ℕ) (old new : Table T) : Type 0 where
    pub late : (key : ℕ) (peer : Peer T) → key < limit → peer_at old key ≡ Some peer → IsLate peer now → peer_at new key ≡ None
    pub kept : (key : ℕ) (peer : Peer T) → key < limit → peer_at old key ≡ Some peer → ¬ (IsLate peer now) → IsSome (peer_at new key)
    pub elapsed : (key : ℕ) → key < limit → IsElapsedAt now key old new
    pub rest : (key : ℕ) → limit ≤ key → peer_at new key ≡ peer_at old key

  pub expired_none : (now : ℕ) (table : Table T) → IsExpiredBelow 0 now table table
  expired_none now table = record {
    late = λ key peer below. absurd (omega (arith, below));
    kept = λ key peer below. absurd (omega (arith, below));
    elapsed = λ key below. absurd (omega (arith, below));
    rest = λ key within. refl;
  }

  -- one more is looked at
  pub expired_more : (limit now : ℕ) (old middle new : Table T) → IsExpiredBelow limit now old middle → KeepsOthers limit middle new
      → ((peer : Peer T) → peer_at middle limit ≡ Some peer → IsLate peer now → peer_at new limit ≡ None)
      → ((peer : Peer T) → peer_at middle limit ≡ Some peer → ¬ (IsLate peer now) → IsSome (peer_at new limit))
      → IsElapsedAt now limit middle new → IsExpiredBelow (limit + 1) now old new
  expired_more limit now old middle new before others late kept elapsed = record {
    late = λ key peer below there is. elim (cases_eq key limit) [
      | inl same ↦ ap (peer_at new) same ∙ late peer (before.rest limit (omega arith) ∙ sym (ap (peer_at old) same) ∙ there) is
      | inr differs ↦ others key differs ∙ before.late key peer (omega (arith, below, differs)) there is
    ];
    kept = λ key peer below there not. elim (cases_eq key limit) [
      | inl same ↦
          subst (λ slot. IsSome slot) (sym (ap (peer_at new) same)) (kept peer (before.rest limit (omega arith) ∙ sym (ap (peer_at old) same) ∙ there) not)
      | inr differs ↦ subst (λ slot. IsSome slot) (sym (others key differs)) (before.kept key peer (omega (arith, below, differs)) there not)
    ];
    elapsed = λ key below. elim (cases_eq key limit) [
      | inl same ↦ λ peer there.
          let is = elapsed peer (ap (peer_at new) (sym same) ∙ there) in
          (is.0, ap (peer_at old) same ∙ sym (before.rest limit (omega arith)) ∙ is.1, is.2)
      | inr differs ↦ λ peer there. before.elapsed key (omega (arith, below, differs)) peer (sym (others key differs) ∙ there)
    ];
    rest = λ key within. others key (λ same. absurd (omega (arith, within, same))) ∙ before.rest key (omega (arith, within));
  }

  pub never_both : (peer : Peer T) (table : Table T) (key : ℕ) → peer_at table key ≡ None → peer_at table key ≡ Some peer → ⊥
  never_both peer table key none some = cc

  none_past : (table : Table T) (limit key : ℕ) → length table.peers.slots ≤ limit → limit ≤ key → peer_at table key ≡ None
  none_past table limit key within past = get_or_past table.peers.slots key None (omega (arith, within, past))

  -- all were looked at
  pub expired_all : (limit now : ℕ) (old new : Table T) → length old.peers.slots ≤ limit → IsExpiredBelow limit now old new → IsExpired now old new
  expired_all limit now old new within below = record {
    late = λ key peer there is. elim (cases_lt key limit) [
      | inl less ↦ below.late key peer less there is
      | inr past ↦ absurd (never_both peer old key (none_past old limit key within past) there)
    ];
    kept = λ key peer there not. elim (cases_lt key limit) [
      | inl less ↦ below.kept key peer less there not
      | inr past ↦ absurd (never_both peer old key (none_past old limit key within past) there)
    ];
  }

  pub elapsed_all : (limit now : ℕ) (old new : Table T) → length old.peers.slots ≤ limit → IsExpiredBelow limit now old new → AreElapsed now old new
  elapsed_all limit now old new within below = λ key. elim (cases_lt key limit) [
    | inl less ↦ below.elapsed key less
    | inr past ↦ λ peer there. absurd (never_both peer new key (below.rest key past ∙ none_past old limit key within past) there)
  ]
