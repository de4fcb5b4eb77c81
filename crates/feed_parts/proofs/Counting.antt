-- How many places of a file are missing.
use Rattle.std.proofs.Common.{if◌then◌else◌, ◌≡◌, ◌<◌, ◌≤◌, ◌+◌, ◌-◌, ◌⊎◌, min, inl, inr}
use Rattle.std.proofs.Common.{ℕ, zero, suc, Bool, true, false, List, [], ◌∷◌, length, Option, Some, None, All}
use Rattle.std.proofs.Common.{nat_lt, refl, sym, ◌∙◌, arith}
use Rattle.std.proofs.lemmas.Bool.{cases_lt}
use Rattle.std.proofs.lemmas.List.Elements.{All-head, All-tail}
use Rattle.std.proofs.lemmas.List.Sums.{sum_by-cons}
use Rattle.feed_model.specs.History.{or_else, byte_at}
use Rattle.feed_model.specs.Reply.{missing_below}
use Rattle.feed_model.specs.Content.{Part, byte_in, end_of, ArePartsFrom}
use Rattle.feed_model.specs.Change.{insert_part, merged}
use Rattle.feed_model.specs.Parts.{AreWithin}
use Rattle.feed_parts.specs.Piece.{total_length}
use Rattle.feed_parts.proofs.Places.{cases_option, first_none, first_some, byte_at_before, byte_at_after, byte_at_inside, none_behind}

pub total_cons : (p : Part) (ps : List Part) → total_length (p ∷ ps) ≡ length p.bytes + total_length ps
total_cons p ps = sum_by-cons (λ q. length q.bytes) p ps

-- the length of parts that are put together
total_insert : (q : Part) (ps : List Part) → total_length (insert_part q ps) ≡ total_length ps + length q.bytes
total_insert q [] = omega (arith, total_cons q [])
total_insert q (p ∷ ps) = by (nat_lt q.first p.first) (total_insert q ps)
  where
    by : (b : Bool) → total_length (insert_part q ps) ≡ total_length ps + length q.bytes
        → total_length (if b then q ∷ p ∷ ps else p ∷ insert_part q ps) ≡ total_length (p ∷ ps) + length q.bytes
    by true again = omega (arith, total_cons q (p ∷ ps))
    by false again = omega (arith, total_cons p (insert_part q ps), total_cons p ps, again)

pub total_merged : (ps qs : List Part) → total_length (merged ps qs) ≡ total_length ps + total_length qs
total_merged ps [] = omega arith
total_merged ps (q ∷ qs) = omega (arith, total_merged (insert_part q ps) qs, total_insert q ps, total_cons q qs)

-- one place more
missing_more : (f : ℕ → Option ℕ) (n : ℕ) → f n ≡ None → missing_below f (suc n) ≡ missing_below f n + 1
missing_more f n e = rw e refl

missing_same : (f : ℕ → Option ℕ) (n x : ℕ) → f n ≡ Some x → missing_below f (suc n) ≡ missing_below f n
missing_same f n x e = let u : missing_below f (suc n) ≡ missing_below f n + 0 = rw e refl in omega (arith, u)

-- parts inside a file have no more bytes than it
total_from : (at size : ℕ) (ps : List Part) → at ≤ size → ArePartsFrom at ps → All (λ p. end_of p ≤ size) ps → at + total_length ps ≤ size
total_from at size [] le w all = omega arith
total_from at size (p ∷ ps) le w all =
    let inside : end_of p ≤ size = All-head (λ q. end_of q ≤ size) p ps all in
    omega (arith, w.0, total_cons p ps, total_from (end_of p) size ps inside w.3 (All-tail (λ q. end_of q ≤ size) p ps all))

pub total_within : (size : ℕ) (ps : List Part) → AreWithin size ps → total_length ps ≤ size
total_within size ps w = omega (arith, total_from 0 size ps (omega arith) w.parts w.inside)

-- two kinds of bytes with no place in common
missing_both : (f g : ℕ → Option ℕ) → ((place : ℕ) → (f place ≡ None) ⊎ (g place ≡ None)) → (n : ℕ)
    → missing_below f n + missing_below g n ≡ missing_below (λ place. or_else (f place) (g place)) n + n
missing_both f g apart zero = refl
missing_both f g apart (suc n) = by (cases_option (f n)) (cases_option (g n)) (apart n) (missing_both f g apart n)
  where
    by : (f n ≡ None) ⊎ ((x : ℕ) × (f n ≡ Some x)) → (g n ≡ None) ⊎ ((x : ℕ) × (g n ≡ Some x)) → (f n ≡ None) ⊎ (g n ≡ None)
        → missing_below f n + missing_below g n ≡ missing_below (λ place. or_else (f place) (g place)) n + n
        → missing_below f (suc n) + missing_below g (suc n) ≡ missing_below (λ place. or_else (f place) (g place)) (suc n) + suc n
    by (inl a) (inl b) c again = omega (arith, again, missing_more f n a, missing_more g n b, missing_more (λ place. or_else (f place) (g place)) n (first_none (f n) (g n) a ∙ b))
    by (inl a) (inr b) c again = omega (arith, again, missing_more f n a, missing_same g n b.0 b.1, missing_same (λ place. or_else (f place) (g place)) n b.0 (first_none (f n) (g n) a ∙ b.1))
    by (inr a) (inl b) c again = omega (arith, again, missing_same f n a.0 a.1, missing_more g n b, missing_same (λ place. or_else (f place) (g place)) n a.0 (first_some (f n) (g n) a.0 a.1))
    by (inr a) (inr b) (inl c) again = absurd (let u : None ≡ Some a.0 = sym c ∙ a.1 in cc)
    by (inr a) (inr b) (inr c) again = absurd (let u : None ≡ Some b.0 = sym c ∙ b.1 in cc)

missing_nothing : (n : ℕ) → missing_below (byte_in []) n ≡ n
missing_nothing zero = refl
missing_nothing (suc n) = omega (arith, missing_more (byte_in []) n refl, missing_nothing n)

-- the bytes of one part
missing_one : (first : ℕ) (bytes : List ℕ) (n : ℕ) → missing_below (byte_at first bytes) n + min (n - first) (length bytes) ≡ n
missing_one first bytes zero = omega arith
missing_one first bytes (suc n) = by (cases_lt n first) (cases_lt n (first + length bytes)) (missing_one first bytes n)
  where
    by : (n < first) ⊎ (first ≤ n) → (n < first + length bytes) ⊎ (first + length bytes ≤ n) → missing_below (byte_at first bytes) n + min (n - first) (length bytes) ≡ n
        → missing_below (byte_at first bytes) (suc n) + min (suc n - first) (length bytes) ≡ suc n
    by (inl before) to again = omega (arith, again, missing_more (byte_at first bytes) n (byte_at_before first bytes n before))
    by (inr from) (inl below) again = omega (arith, again, missing_same (byte_at first bytes) n _ (byte_at_inside first bytes n from below))
    by (inr from) (inr past) again = omega (arith, again, missing_more (byte_at first bytes) n (byte_at_after first bytes n past))

missing_from : (at size : ℕ) (ps : List Part) → ArePartsFrom at ps → All (λ p. end_of p ≤ size) ps → missing_below (byte_in ps) size + total_length ps ≡ size
missing_from at size [] w inside = omega (arith, missing_nothing size)
missing_from at size (p ∷ ps) w inside =
    let here : end_of p ≤ size = All-head (λ q. end_of q ≤ size) p ps inside in
    let rest = missing_from (end_of p) size ps w.3 (All-tail (λ q. end_of q ≤ size) p ps inside) in
    let both : missing_below (byte_at p.first p.bytes) size + missing_below (byte_in ps) size ≡ missing_below (byte_in (p ∷ ps)) size + size = missing_both (byte_at p.first p.bytes)
    (byte_in ps) apart size in
    omega (arith, both, missing_one p.first p.bytes size, rest, total_cons p ps, here)
  where
    apart : (place : ℕ) → (byte_at p.first p.bytes place ≡ None) ⊎ (byte_in ps place ≡ None)
    apart place = by (cases_option (byte_at p.first p.bytes place))
      where
        by : (byte_at p.first p.bytes place ≡ None) ⊎ ((x : ℕ) × (byte_at p.first p.bytes place ≡ Some x)) → (byte_at p.first p.bytes place ≡ None) ⊎ (byte_in ps place ≡ None)
        by (inl none) = inl none
        by (inr some) = inr (none_behind at p ps w place some.0 some.1)

-- the bytes of the parts and the missing places together are as many as the places of the file
pub missing_total : (size : ℕ) (ps : List Part) → AreWithin size ps → missing_below (byte_in ps) size + total_length ps ≡ size
missing_total size ps w = missing_from 0 size ps w.parts w.inside

-- With new parts so much less is missing.
pub missing_merged : (size : ℕ) (ps new : List Part) → AreWithin size ps → AreWithin size (merged ps new)
    → missing_below (byte_in (merged ps new)) size + total_length new ≡ missing_below (byte_in ps) size
missing_merged size ps new before after = omega (arith, missing_total size ps before, missing_total size (merged ps new) after, total_merged ps new)
