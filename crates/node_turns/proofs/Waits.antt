-- None of a queue waits for ever.
use Rattle.std.proofs.Common.{◌≡◌, ◌+◌, ◌<◌, ◌≤◌, ℕ, zero, suc, Bool, true, false, cond, not, List, [], ◌∷◌, ◌++◌, length, length-append, append_assoc, refl, sym, ap, ◌∙◌, arith, inl, inr}
use Rattle.std.specs.Prelude.{filter}
use Rattle.std.proofs.lemmas.List.Elements.{filter-append}
use Rattle.std.proofs.lemmas.List.Sums.{length-filter, count_by-le-length}
use Rattle.node_turns.specs.Flags.{has_key, HasKey}
use Rattle.node_turns.specs.Served.{HasTurned, IsServedWithin, EachIsServed}
use Rattle.node_turns.proofs.Flags.{has_here, times_both}

-- a key of the queue is among the first ones, or there are fewer before it
data Split (served rest before after : List ℕ) (key : ℕ) : Type 0 where
  Here : HasKey served key → Split served rest before after key
  Later : (left : List ℕ) → length left + length served ≡ length before → rest ≡ left ++ key ∷ after → Split served rest before after key

has_later : (keys : List ℕ) (first key : ℕ) → HasKey keys key → HasKey (first ∷ keys) key
has_later keys first key has = omega (arith, times_both key (first ∷ []) keys, has)

split : (served rest before after : List ℕ) (key : ℕ) → served ++ rest ≡ before ++ key ∷ after → Split served rest before after key
split [] rest before after key is = Later before (omega arith) is
split (first ∷ served) rest [] after key is = Here (let same : first ≡ key = cc in rw same (has_here served key))
split (first ∷ served) rest (other ∷ before) after key is = more (split served rest before after key (cc))
  where
    more : Split served rest before after key → Split (first ∷ served) rest (other ∷ before) after key
    more (Here has) = Here (has_later served first key has)
    more (Later left long same) = Later left (omega (arith, long)) same

within : (bound : ℕ) (queue : ℕ → List ℕ) (turned : (turn : ℕ) → HasTurned (queue turn) (queue (suc turn))) (before after : List ℕ) (key : ℕ)
    → length before < bound → queue 0 ≡ before ++ key ∷ after → IsServedWithin queue turned key (length before)
within zero queue turned before after key less is = absurd (omega (arith, less))
within (suc bound) queue turned before after key less is =
    now (has_key key (turned 0).removed) refl
    (λ left later fewer same. within bound (λ turn. queue (suc turn)) (λ turn. turned (suc turn)) left later key fewer same)
  where
    first : HasTurned (queue 0) (queue 1)
    first = turned 0

    stays : ℕ → Bool
    stays other = not (has_key other first.removed)

    -- those before the key that stay
    ahead : List ℕ
    ahead = filter stays before

    fewer : length ahead ≤ length before
    fewer = omega (arith, length-filter stays before, count_by-le-length stays before)

    left_over : stays key ≡ true → ahead ++ key ∷ filter stays after ≡ first.served ++ first.rest
    left_over there =
        sym (filter-append stays before (key ∷ after) ∙ ap (λ b. ahead ++ cond b (key ∷ filter stays after) (filter stays after)) there)
        ∙ sym (ap (filter stays) is) ∙ first.was

    long : length (ahead ++ key ∷ filter stays after) ≡ length ahead + suc (length (filter stays after))
    long = length-append ahead (key ∷ filter stays after)

    some : stays key ≡ true → 0 < length first.served
    some there = first.some (omega (arith, ap (λ keys. length keys) (left_over there), long))

    by : stays key ≡ true → Split first.served first.rest ahead (filter stays after) key
        → ((left later : List ℕ) → length left < bound → queue 1 ≡ left ++ key ∷ later
        → IsServedWithin (λ turn. queue (suc turn)) (λ turn. turned (suc turn)) key (length left))
        → IsServedWithin queue turned key (length before)
    by there (Here has) again = record { turn = 0; early = omega arith; served = inl has }
    by there (Later left shorter same) again =
        let next = again left (filter stays after ++ first.added) (omega (arith, shorter, some there, fewer, less))
        (first.is ∙ ap (λ keys. keys ++ first.added) same ∙ append_assoc left (key ∷ filter stays after) first.added) in
        record { turn = suc next.turn; early = omega (arith, next.early, shorter, some there, fewer); served = next.served }

    now : (gone : Bool) → has_key key first.removed ≡ gone
        → ((left later : List ℕ) → length left < bound → queue 1 ≡ left ++ key ∷ later
        → IsServedWithin (λ turn. queue (suc turn)) (λ turn. turned (suc turn)) key (length left))
        → IsServedWithin queue turned key (length before)
    now true gone again = record { turn = 0; early = omega arith; served = inr gone }
    now false stay again = by (ap not stay) (split first.served first.rest ahead (filter stays after) key (sym (left_over (ap not stay)))) again

pub each_served : EachIsServed
each_served queue turned before after key is = within (suc (length before)) queue turned before after key (omega arith) is
