-- The concatenated parts of a complete file.
use Rattle.std.proofs.Common.{◌≡◌, ◌<◌, ◌≤◌, ◌+◌, ◌-◌, ◌++◌, ◌⊎◌, inl, inr, ℕ, List, [], ◌∷◌}
use Rattle.std.proofs.Common.{length, get_or, take, Some, None, IsSome, Result, Ok, Err, All, slice_get, length-append}
use Rattle.std.proofs.Common.{append_assoc, refl, sym, ◌∙◌, ap, subst, arith}
use Rattle.std.specs.Io.KnownBytes.{ReadConsumes}
use Rattle.std.proofs.lemmas.Bool.{cases_lt}
use Rattle.std.proofs.lemmas.List.{get_or_append_left, get_or-append_right}
use Rattle.std.proofs.lemmas.List.Elements.{All-head, All-tail}
use Rattle.std.proofs.lemmas.Option.{slice_get-get_or}
use Rattle.feed_model.specs.History.{byte_at}
use Rattle.feed_model.specs.Content.{Part, byte_in, end_of, IsText, ArePartsFrom}
use Rattle.feed_model.specs.Parts.{AreWithin}
use Rattle.feed_parts.specs.Piece.{joined}
use Rattle.feed_parts.proofs.Places.{first_none, first_some, both_none, some_not_none, byte_at_before, byte_at_after, byte_at_inside, none_before}

-- what the parts are from a place on
record IsTextFrom (size at : ℕ) (ps : List Part) : Type 0 where
  count : length (joined ps) + at ≡ size
  bytes : (place : ℕ) → at ≤ place → place < size → byte_in ps place ≡ slice_get (joined ps) (place - at)

text_from : (size at : ℕ) (ps : List Part) → ArePartsFrom at ps → All (λ p. end_of p ≤ size) ps → at ≤ size
    → ((place : ℕ) → at ≤ place → place < size → IsSome (byte_in ps place)) → IsTextFrom size at ps
text_from size at [] w inside le some = by (cases_lt at size)
  where
    by : (at < size) ⊎ (size ≤ at) → IsTextFrom size at []
    by (inl lt) = absurd (some_not_none None (some at (omega arith) lt) refl)
    by (inr ge) = record { count = omega arith; bytes = λ place from to. absurd (omega arith) }
text_from size at (p ∷ ps) w inside le some =
    let ends : end_of p ≤ size = All-head (λ q. end_of q ≤ size) p ps inside in
    by ends (cases_lt at p.first) (text_from size (end_of p) ps w.3 (All-tail (λ q. end_of q ≤ size) p ps inside) ends
    (λ place past to. subst IsSome (later place past) (some place (omega (arith, w.0, past)) to)))
  where
    later : (place : ℕ) → end_of p ≤ place → byte_in (p ∷ ps) place ≡ byte_in ps place
    later place past = first_none (byte_at p.first p.bytes place) (byte_in ps place) (byte_at_after p.first p.bytes place past)

    gap : at < p.first → byte_in (p ∷ ps) at ≡ None
    gap lt = both_none (byte_at p.first p.bytes at) (byte_in ps at) (byte_at_before p.first p.bytes at lt) (none_before (end_of p) ps w.3 at (omega arith))

    long : length (p.bytes ++ joined ps) ≡ length p.bytes + length (joined ps)
    long = length-append p.bytes (joined ps)

    here : IsTextFrom size (end_of p) ps → p.first ≡ at → (place : ℕ) → at ≤ place → place < size → (place < end_of p) ⊎ (end_of p ≤ place)
        → byte_in (p ∷ ps) place ≡ slice_get (p.bytes ++ joined ps) (place - at)
    here again e place from to (inl lt) =
        let same : place - p.first ≡ place - at = omega (arith, e) in
        let short : place - at < length p.bytes = omega (arith, e) in
        let byte = byte_at_inside p.first p.bytes place (omega (arith, e)) lt in
        first_some (byte_at p.first p.bytes place) (byte_in ps place) _ byte
        ∙ ap (λ i. Some (get_or p.bytes i 0)) same
        ∙ ap Some (sym (get_or_append_left p.bytes (joined ps) 0 (place - at) short))
        ∙ sym (slice_get-get_or (p.bytes ++ joined ps) (place - at) 0 (omega (arith, long, short)))
    here again e place from to (inr past) =
        let index : (place - at) - length p.bytes ≡ place - end_of p = omega (arith, e) in
        let within : place - end_of p < length (joined ps) = omega (arith, again.count, past, to) in
        let over : length p.bytes ≤ place - at = omega (arith, e, past) in
        later place past ∙ again.bytes place past to
        ∙ slice_get-get_or (joined ps) (place - end_of p) 0 within
        ∙ ap (λ i. Some (get_or (joined ps) i 0)) (sym index)
        ∙ ap Some (sym (get_or-append_right p.bytes (joined ps) (length p.bytes) (place - at) 0 refl over))
        ∙ sym (slice_get-get_or (p.bytes ++ joined ps) (place - at) 0 (omega (arith, long, within, over, index)))

    by : end_of p ≤ size → (at < p.first) ⊎ (p.first ≤ at) → IsTextFrom size (end_of p) ps → IsTextFrom size at (p ∷ ps)
    by ends (inl lt) again = absurd (some_not_none (byte_in (p ∷ ps) at) (some at (omega arith) (omega (arith, ends))) (gap lt))
    by ends (inr ge) again =
        let e : p.first ≡ at = omega (arith, w.0) in
        record { count = omega (arith, long, again.count, e); bytes = λ place from to. here again e place from to (cases_lt place (end_of p)) }

pub joined_text : (size : ℕ) (ps : List Part) → AreWithin size ps → ((place : ℕ) → place < size → IsSome (byte_in ps place)) → IsText size ps (joined ps)
joined_text size ps within some =
    let text = text_from size 0 ps within.parts within.inside (omega arith) (λ place from to. some place to) in
    record { count = omega (arith, text.count); bytes = λ place to. (let index : place - 0 ≡ place = omega arith in text.bytes place (omega arith) to ∙ ap (slice_get (joined ps)) index) }

-- what is read of a part that has bytes is read of what begins with it
pub read_front : {E : Type 0} (all front rest new buf : List ℕ) (r : Result ℕ E) → all ≡ front ++ rest → 0 < length front → ReadConsumes (Some front) (Some new) r buf
    → ReadConsumes (Some all) (Some (new ++ rest)) r buf
read_front all front rest new buf (Ok n) is some read = (
  is ∙ ap (λ xs. xs ++ rest) read.0 ∙ append_assoc (take n buf) new rest,
  λ none room.
      let gone : new ≡ [] = read.1 none room in
      let empty : front ≡ [] = read.0 ∙ ap (λ k. take k buf ++ new) none ∙ gone in
      absurd (omega (arith, some, ap length empty)),
)
read_front all front rest new buf (Err e) is some read = ap (λ xs. xs ++ rest) read ∙ sym is

pub no_bytes : (bytes : List ℕ) → length bytes ≡ 0 → bytes ≡ []
no_bytes [] none = refl
no_bytes (b ∷ bytes) none = absurd (omega (arith, none))
