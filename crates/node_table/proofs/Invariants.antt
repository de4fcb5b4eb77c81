-- The table stays as its fields say.
use Rattle.std.proofs.Common.{◌≡◌, ◌≢◌, ◌⊎◌, ℕ, List, cond, get_or, set, Option, Some, None, is_some, IsSome, count_by, refl, sym, ap, subst, ◌∙◌, arith, inl, inr}
use Rattle.std.proofs.lemmas.Bool.{cases_eq}
use Rattle.slab.specs.Slab.{Slab, get, ContainsKey, Updates, with_value}
use Rattle.slab.proofs.SlabLemmas.{Updates-with_value}
use Rattle.node_table.specs.declared.peer.Peer.{Peer}
use Rattle.node_turns.specs.declared.ready_queues.ReadyQueues.{ReadyQueues}
use Rattle.node_turns.specs.Turns.{IsReady}
use Rattle.node_table.proofs.Slots.{sum_of_write}

module _ {T : Type 0} where
  pub never_none : {A : Type 0} (slot : Option (Peer T)) (peer : Peer T) → slot ≡ Some peer → slot ≡ None → A
  never_none slot peer some none = absurd (cc)

  -- a connection changed: there are as many as there were, and the others are as they were
  pub size_after_write : (slots : List (Option (Peer T))) (key : ℕ) (old new : Peer T) → get_or slots key None ≡ Some old
      → count_by is_some (set slots key (Some new)) ≡ count_by is_some slots
  size_after_write slots key old new there = omega (arith, sum_of_write (λ slot. cond (is_some slot) 1 0) refl slots key old (Some new) there)

  pub others_after_write : (slab : Slab (Peer T)) (key : ℕ) (old new : Peer T) → get slab key ≡ Some old
      → (other : ℕ) → other ≢ key → get (with_value slab key new) other ≡ get slab other
  others_after_write slab key old new there = (Updates-with_value slab key new (subst (λ slot. IsSome slot) (sym there) refl)).others

  pub there_after_write : (slab : Slab (Peer T)) (key : ℕ) (old new : Peer T) → get slab key ≡ Some old → IsSome (get (with_value slab key new) key)
  there_after_write slab key old new there =
      subst (λ slot. IsSome slot) (sym (Updates-with_value slab key new (subst (λ slot. IsSome slot) (sym there) refl)).changed) refl

  pub known_after_removal : (old new : Slab (Peer T)) (key : ℕ) (queues left : ReadyQueues) → Updates old new key None
      → ((other : ℕ) → IsReady queues other → ContainsKey old other) → ((other : ℕ) → IsReady left other → IsReady queues other × (other ≢ key))
      → (other : ℕ) → IsReady left other → ContainsKey new other
  known_after_removal old new key queues left updates known gone other is =
      let was = gone other is in subst (λ slot. IsSome slot) (sym (updates.others other was.1)) (known other was.0)

  pub known_after_update : (old new : Slab (Peer T)) (key : ℕ) (peer : Peer T) (queues left : ReadyQueues) → Updates old new key (Some peer)
      → ((other : ℕ) → IsReady queues other → ContainsKey old other) → ((other : ℕ) → IsReady left other → IsReady queues other)
      → (other : ℕ) → IsReady left other → ContainsKey new other
  known_after_update old new key peer queues left updates known listed other is = elim (cases_eq other key) [
    | inl same ↦ subst (λ slot. IsSome slot) (sym (ap (get new) same ∙ updates.changed)) refl
    | inr differs ↦ subst (λ slot. IsSome slot) (sym (updates.others other differs)) (known other (listed other is))
  ]

  -- a connection changed, and others are no longer ready
  pub known_after_write : (slab : Slab (Peer T)) (key : ℕ) (old new : Peer T) (queues left : ReadyQueues) → get slab key ≡ Some old
      → ((other : ℕ) → IsReady queues other → ContainsKey slab other) → ((other : ℕ) → IsReady left other → IsReady queues other)
      → (other : ℕ) → IsReady left other → ContainsKey (with_value slab key new) other
  known_after_write slab key old new queues left there known listed =
      known_after_update slab (with_value slab key new) key new queues left (Updates-with_value slab key new (subst (λ slot. IsSome slot) (sym there) refl)) known listed

  -- a connection was marked as ready
  pub known_after_mark : (slab : Slab (Peer T)) (key : ℕ) (old new : ReadyQueues) → ContainsKey slab key → ((other : ℕ) → IsReady old other → ContainsKey slab other)
      → ((other : ℕ) → IsReady new other → IsReady old other ⊎ (other ≡ key)) → (other : ℕ) → IsReady new other → ContainsKey slab other
  known_after_mark slab key old new there known marked other is = elim (marked other is) [
    | inl was ↦ known other was
    | inr same ↦ subst (λ k. ContainsKey slab k) (sym same) there
  ]
