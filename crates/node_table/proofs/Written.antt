-- A connection of a table that a step wrote back.
use Rattle.std.proofs.Common.{◌≡◌, ℕ, inl, inr, Some, IsSome, refl, sym, ap, subst, ◌∙◌}
use Rattle.std.proofs.lemmas.Bool.{cases_eq}
use Rattle.slab.specs.Slab.{Slab, get, with_value}
use Rattle.slab.proofs.SlabLemmas.{Updates-with_value}
use Rattle.node_table.specs.declared.peer.Peer.{Peer}
use Rattle.node_table.specs.Peers.{HasElapsed}
use Rattle.node_table.proofs.Firsts.{same_peer}

module _ {T : Type 0} (peers : Slab (Peer T)) (key : ℕ) (was new : Peer T) (there : get peers key ≡ Some was) where
  some : IsSome (get peers key)
  some = subst (λ slot. IsSome slot) (sym there) refl

  -- its clock was advanced
  pub elapsed_written : (now : ℕ) → HasElapsed now was new → (peer : Peer T) → get (with_value peers key new) key ≡ Some peer
      → (before : Peer T) × (get peers key ≡ Some before) × HasElapsed now before peer
  elapsed_written now elapsed peer is =
      let same : new ≡ peer = same_peer peer new (get (with_value peers key new) key) is (Updates-with_value peers key new some).changed in
      (was, there, subst (λ (p : Peer T). HasElapsed now was p) same elapsed)

  -- its stream alone changed
  pub connections_written : new.connection ≡ was.connection → (other : ℕ) (peer : Peer T) → get (with_value peers key new) other ≡ Some peer
      → (before : Peer T) × (get peers other ≡ Some before) × (peer.connection ≡ before.connection)
  connections_written kept other peer is = elim (cases_eq other key) [
    | inl same ↦
        let here : get (with_value peers key new) key ≡ Some peer = ap (get (with_value peers key new)) (sym same) ∙ is in
        let it : new ≡ peer = same_peer peer new (get (with_value peers key new) key) here (Updates-with_value peers key new some).changed in
        (was, ap (get peers) same ∙ there, sym (ap (λ (p : Peer T). p.connection) it) ∙ kept)
    | inr differs ↦ (peer, sym ((Updates-with_value peers key new some).others other differs) ∙ is, refl)
  ]
