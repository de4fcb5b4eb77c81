-- Which keys are ready after a step of the queues.
use Rattle.std.proofs.Common.{◌≡◌, ◌≢◌, ◌⊎◌, ℕ, List, [], ◌∷◌, length, get_or, set, Option, Some, None, IsSome, refl, sym, ap, subst, ◌∙◌, arith, inl, inr}
use Rattle.std.proofs.lemmas.Bool.{cases_eq, cases_lt}
use Rattle.std.proofs.lemmas.List.{get_or-set_other, get_or-set_same, get_or_past, set_past}
use Rattle.node_turns.specs.declared.round_queue.RoundQueue.{RoundQueue}
use Rattle.node_turns.specs.Flags.{times, without, HasKey, IsAdded, IsDropped}
use Rattle.node_turns.specs.Rounds.{home_of, HasHome, IsAddedTo, IsDroppedFrom, IsQueued, IsRemovedFrom, IsSameRounds, IsTakenFrom}
use Rattle.node_turns.proofs.Flags.{times_one, times_both}
use Rattle.node_turns.proofs.Without.{times_same, times_other}

pub has_behind_first : (keys : List ℕ) (first key : ℕ) → HasKey keys key → HasKey (first ∷ keys) key
has_behind_first keys first key has = omega (arith, times_both key (first ∷ []) keys, has)

pub has_in_longer : (old new : List ℕ) (key other : ℕ) → IsDropped key old new → HasKey new other → HasKey old other
has_in_longer old new key other (inl same) has = subst (λ keys. HasKey keys other) same has
has_in_longer old new key other (inr dropped) has =
    let is = ap (times other) dropped in omega (arith, has, is, times_both other new (key ∷ []))

pub has_in_without : (keys : List ℕ) (key other : ℕ) → HasKey (without key keys) other → HasKey keys other × (other ≢ key)
has_in_without keys key other has =
    let apart : other ≢ key = λ same. (let none : times other (without key keys) ≡ 0 = ap (λ k. times k (without key keys)) same ∙ times_same key keys in omega (arith, has, none)) in
    (omega (arith, has, times_other key other keys apart), apart)

pub has_in_added : (old new : List ℕ) (key other : ℕ) → IsAdded key old new → HasKey new other → HasKey old other ⊎ (other ≡ key)
has_in_added old new key other (inl there) has = inl (subst (λ keys. HasKey keys other) there.1 has)
has_in_added old new key other (inr added) has = elim (times_one other key) [
  | inl same ↦ inr (sym same.0)
  | inr differs ↦ inl (let is = ap (times other) added.1 in omega (arith, has, is, times_both other old (key ∷ []), differs.1))
]

-- a key has the home that it had, if another key's changed
home_other : (homes : List (Option ℕ)) (key other : ℕ) (home : Option ℕ) → other ≢ key → IsSome (get_or (set homes key home) other None) → IsSome (get_or homes other None)
home_other homes key other home apart some = subst (λ h. IsSome h) (get_or-set_other homes key other home None apart) some

-- and has none, if its own did
home_none : (homes : List (Option ℕ)) (key : ℕ) → get_or (set homes key None) key None ≡ None
home_none homes key = elim (cases_lt key (length homes)) [
  | inl within ↦ get_or-set_same homes key None None within
  | inr past ↦ ap (λ l. get_or l key None) (set_past homes key None past) ∙ get_or_past homes key None past
]

pub never_some : {A : Type 0} (home : Option ℕ) → home ≡ None → IsSome home → A
never_some home none some = absurd (cc)

pub queued_same : (old new : RoundQueue) → IsSameRounds old new → (key : ℕ) → IsQueued new key → IsQueued old key
queued_same old new same key queued = subst (λ homes. IsSome (get_or homes key None)) same.homes queued

queued_after_none : (key : ℕ) (old new : RoundQueue) → HasHome key None old new → (other : ℕ) → IsQueued new other → IsQueued old other × (other ≢ key)
queued_after_none key old new home other queued =
    let some : IsSome (get_or (set old.homes.items key None) other None) = subst (λ homes. IsSome (get_or homes other None)) home queued in
    let apart : other ≢ key = λ same. never_some _ (ap (λ k. get_or (set old.homes.items key None) k None) same ∙ home_none old.homes.items key) some in
    (home_other old.homes.items key other None apart some, apart)

pub queued_taken : (key : ℕ) (old new : RoundQueue) → IsTakenFrom key old new → (other : ℕ) → IsQueued new other → IsQueued old other
queued_taken key old new taken other queued = (queued_after_none key old new taken.home other queued).0

pub queued_added : (slot key : ℕ) (old new : RoundQueue) → IsAddedTo slot key old new → (other : ℕ) → IsQueued new other → IsQueued old other ⊎ (other ≡ key)
queued_added slot key old new (inl there) other queued = inl (queued_same old new there.1 other queued)
queued_added slot key old new (inr added) other queued = elim (cases_eq other key) [
  | inl same ↦ inr same
  | inr apart ↦ inl (home_other old.homes.items key other (Some slot) apart (subst (λ homes. IsSome (get_or homes other None)) added.home queued))
]

pub queued_removed : (key : ℕ) (old new : RoundQueue) → IsRemovedFrom key old new → (other : ℕ) → IsQueued new other → IsQueued old other × (other ≢ key)
queued_removed key old new (inl absent) other queued =
    let was : IsQueued old other = subst (λ queue. IsQueued queue other) absent.1 queued in
    (was, λ same. never_some _ (ap (home_of old) same ∙ absent.0) was)
queued_removed key old new (inr out) other queued = queued_after_none key old new out.1.home other queued

pub queued_dropped : (key : ℕ) (old new : RoundQueue) → IsDroppedFrom key old new → (other : ℕ) → IsQueued new other → IsQueued old other
queued_dropped key old new (inl same) other queued = subst (λ queue. IsQueued queue other) same queued
queued_dropped key old new (inr (slot, keys, ends, out)) other queued = (queued_after_none key old new out.home other queued).0

-- the first key of a queue was in it
pub was_queued : (key : ℕ) (old new : RoundQueue) → IsTakenFrom key old new → IsQueued old key
was_queued key old new taken = subst (λ h. IsSome h) (sym taken.was) refl
