-- Parts put among others.
use Rattle.std.proofs.Common.{if◌then◌else◌, ◌≡◌, ◌<◌, ◌≤◌, ◌⊎◌, inl, inr, ℕ, Bool, true, false}
use Rattle.std.proofs.Common.{List, [], ◌∷◌, length, Some, None, All, nat_lt, refl, sym, ◌∙◌, ap, arith}
use Rattle.std.proofs.lemmas.Bool.{ltb-true, ltb-false, cases_lt}
use Rattle.std.proofs.lemmas.List.Elements.{All-head, All-tail, All-cons}
use Rattle.feed_model.specs.History.{or_else, byte_at}
use Rattle.feed_model.specs.Reply.{max_piece}
use Rattle.feed_model.specs.Content.{Part, byte_in, end_of, ArePartsFrom, AreParts}
use Rattle.feed_model.specs.Change.{insert_part, merged}
use Rattle.feed_parts.proofs.Places.{cases_option, first_none, second_none, neither, either_way, or_else_assoc, byte_at_inside, none_behind}

-- all of the one list and the other
all_insert : (P : Part → Type 0) (q : Part) (ps : List Part) → P q → All P ps → All P (insert_part q ps)
all_insert P q [] one all = All-cons P q [] one all
all_insert P q (p ∷ ps) one all = by (nat_lt q.first p.first) (all_insert P q ps one (All-tail P p ps all))
  where
    by : (b : Bool) → All P (insert_part q ps) → All P (if b then q ∷ p ∷ ps else p ∷ insert_part q ps)
    by true again = All-cons P q (p ∷ ps) one all
    by false again = All-cons P p (insert_part q ps) (All-head P p ps all) again

pub all_merged : (P : Part → Type 0) (ps qs : List Part) → All P ps → All P qs → All P (merged ps qs)
all_merged P ps [] f g = f
all_merged P ps (q ∷ qs) f g = all_merged P (insert_part q ps) qs (all_insert P q ps (All-head P q qs g) f) (All-tail P q qs g)

-- Lists with no place in both.
insert_bytes : (q : Part) (ps : List Part) (place : ℕ) → (byte_in ps place ≡ None) ⊎ (byte_at q.first q.bytes place ≡ None)
    → byte_in (insert_part q ps) place ≡ or_else (byte_in ps place) (byte_at q.first q.bytes place)
insert_bytes q [] place apart = second_none (byte_at q.first q.bytes place) None refl
insert_bytes q (p ∷ ps) place apart = by (nat_lt q.first p.first) (insert_bytes q ps place (behind apart))
  where
    behind : (byte_in (p ∷ ps) place ≡ None) ⊎ (byte_at q.first q.bytes place ≡ None) → (byte_in ps place ≡ None) ⊎ (byte_at q.first q.bytes place ≡ None)
    behind (inl none) = inl (neither (byte_at p.first p.bytes place) (byte_in ps place) none).1
    behind (inr none) = inr none

    by : (b : Bool) → byte_in (insert_part q ps) place ≡ or_else (byte_in ps place) (byte_at q.first q.bytes place)
        → byte_in (if b then q ∷ p ∷ ps else p ∷ insert_part q ps) place ≡ or_else (byte_in (p ∷ ps) place) (byte_at q.first q.bytes place)
    by true again = sym (either_way (byte_in (p ∷ ps) place) (byte_at q.first q.bytes place) apart)
    by false again = ap (or_else (byte_at p.first p.bytes place)) again ∙ sym (or_else_assoc (byte_at p.first p.bytes place) (byte_in ps place) (byte_at q.first q.bytes place))

still_apart : (at : ℕ) (q : Part) (ps qs : List Part) (place : ℕ) → ArePartsFrom at (q ∷ qs) → (byte_in ps place ≡ None) ⊎ (byte_in (q ∷ qs) place ≡ None)
    → (byte_in (insert_part q ps) place ≡ None) ⊎ (byte_in qs place ≡ None)
still_apart at q ps qs place w (inr none) = inr (neither (byte_at q.first q.bytes place) (byte_in qs place) none).1
still_apart at q ps qs place w (inl none) = by (cases_option (byte_at q.first q.bytes place))
  where
    by : (byte_at q.first q.bytes place ≡ None) ⊎ ((x : ℕ) × (byte_at q.first q.bytes place ≡ Some x)) → (byte_in (insert_part q ps) place ≡ None) ⊎ (byte_in qs place ≡ None)
    by (inl lacks) = inl (insert_bytes q ps place (inl none) ∙ first_none (byte_in ps place) (byte_at q.first q.bytes place) none ∙ lacks)
    by (inr some) = inr (none_behind at q qs w place some.0 some.1)

one_apart : (q : Part) (ps qs : List Part) (place : ℕ) → (byte_in ps place ≡ None) ⊎ (byte_in (q ∷ qs) place ≡ None)
    → (byte_in ps place ≡ None) ⊎ (byte_at q.first q.bytes place ≡ None)
one_apart q ps qs place (inl none) = inl none
one_apart q ps qs place (inr none) = inr (neither (byte_at q.first q.bytes place) (byte_in qs place) none).0

pub merged_bytes : (at : ℕ) (ps qs : List Part) (place : ℕ) → ArePartsFrom at qs → (byte_in ps place ≡ None) ⊎ (byte_in qs place ≡ None)
    → byte_in (merged ps qs) place ≡ or_else (byte_in ps place) (byte_in qs place)
merged_bytes at ps [] place w apart = sym (second_none (byte_in ps place) None refl)
merged_bytes at ps (q ∷ qs) place w apart =
    merged_bytes (end_of q) (insert_part q ps) qs place w.3 (still_apart at q ps qs place w apart)
    ∙ ap (λ o. or_else o (byte_in qs place)) (insert_bytes q ps place (one_apart q ps qs place apart))
    ∙ or_else_assoc (byte_in ps place) (byte_at q.first q.bytes place) (byte_in qs place)

insert_parts : (at : ℕ) (q : Part) (ps : List Part) → ArePartsFrom at ps → at ≤ q.first → 0 < length q.bytes → length q.bytes ≤ max_piece
    → ((place : ℕ) → (byte_in ps place ≡ None) ⊎ (byte_at q.first q.bytes place ≡ None)) → ArePartsFrom at (insert_part q ps)
insert_parts at q [] w le some few apart = (le, some, few, tt)
insert_parts at q (p ∷ ps) w le some few apart = by (nat_lt q.first p.first) refl (insert_parts (end_of p) q ps w.3)
  where
    both : (place : ℕ) → p.first ≤ place → place < end_of p → q.first ≤ place → place < end_of q → ⊥
    both place from to from' to' = clash (apart place)
      where
        clash : (byte_in (p ∷ ps) place ≡ None) ⊎ (byte_at q.first q.bytes place ≡ None) → ⊥
        clash (inl none) = let u = sym (neither (byte_at p.first p.bytes place) (byte_in ps place) none).0 ∙ byte_at_inside p.first p.bytes place from to in absurd (cc u)
        clash (inr none) = let u = sym none ∙ byte_at_inside q.first q.bytes place from' to' in absurd (cc u)

    before : q.first < p.first → (p.first < end_of q) ⊎ (end_of q ≤ p.first) → end_of q ≤ p.first
    before lt (inl over) = absurd (both p.first (omega arith) (omega (arith, w.1)) (omega arith) over)
    before lt (inr past) = past

    behind : p.first ≤ q.first → (q.first < end_of p) ⊎ (end_of p ≤ q.first) → end_of p ≤ q.first
    behind ge (inl over) = absurd (both q.first ge over (omega arith) (omega (arith, some)))
    behind ge (inr past) = past

    rest : (place : ℕ) → (byte_in ps place ≡ None) ⊎ (byte_at q.first q.bytes place ≡ None)
    rest place = of (apart place)
      where
        of : (byte_in (p ∷ ps) place ≡ None) ⊎ (byte_at q.first q.bytes place ≡ None) → (byte_in ps place ≡ None) ⊎ (byte_at q.first q.bytes place ≡ None)
        of (inl none) = inl (neither (byte_at p.first p.bytes place) (byte_in ps place) none).1
        of (inr none) = inr none

    by : (b : Bool) → nat_lt q.first p.first ≡ b → (end_of p ≤ q.first → 0 < length q.bytes → length q.bytes ≤ max_piece
        → ((place : ℕ) → (byte_in ps place ≡ None) ⊎ (byte_at q.first q.bytes place ≡ None)) → ArePartsFrom (end_of p) (insert_part q ps))
        → ArePartsFrom at (if b then q ∷ p ∷ ps else p ∷ insert_part q ps)
    by true t again = (le, some, few, (before (ltb-true q.first p.first t) (cases_lt p.first (end_of q)), w.1, w.2, w.3))
    by false t again = (w.0, w.1, w.2, again (behind (ltb-false q.first p.first t) (cases_lt q.first (end_of p))) some few rest)

pub merged_parts : (at : ℕ) (ps qs : List Part) → AreParts ps → ArePartsFrom at qs → ((place : ℕ) → (byte_in ps place ≡ None) ⊎ (byte_in qs place ≡ None)) → AreParts (merged ps qs)
merged_parts at ps [] w v apart = w
merged_parts at ps (q ∷ qs) w v apart =
    merged_parts (end_of q) (insert_part q ps) qs (insert_parts 0 q ps w (omega arith) v.1 v.2 (λ place. one_apart q ps qs place (apart place))) v.3
    (λ place. still_apart at q ps qs place v (apart place))
