-- The bytes of a part from a place on, beside the other parts.
use Rattle.std.proofs.Common.{◌≡◌, ◌≤◌, ◌<◌, ◌+◌, ◌-◌, ◌∙◌, ℕ, zero, suc, List, [], ◌∷◌, All, None, drop, get_or, length, slice_get, refl, sym, ap, arith, subst}
use Rattle.std.proofs.Math.ListN.{get_or-map}
use Rattle.std.proofs.lemmas.List.{length-drop}
use Rattle.std.proofs.lemmas.List.Elements.{All-head, All-tail}
use Rattle.feed_model.specs.Content.{ArePartsFrom, Part, byte_in, end_of}
use Rattle.feed_model.specs.History.{byte_at}
use Rattle.feed_parts.specs.Segments.{HasRun}
use Rattle.feed_parts.specs.Shown.{shown_part, shown_parts}
use Rattle.feed_parts.specs.declared.part.Part as code_part
use Rattle.feed_parts.proofs.Places.{both_none, byte_at_after, byte_at_before, byte_at_from, byte_at_inside, first_none, first_some, none_before}

-- no part begins before they all do
begins : (at : ℕ) (ps : List code_part.Part) → ArePartsFrom at (shown_parts ps) → (i : ℕ) (d : code_part.Part) → i < length ps → at ≤ (get_or ps i d).first
begins at [] parts i d h = absurd (omega (arith, h))
begins at (p ∷ ps) parts zero d h = parts.0
begins at (p ∷ ps) parts (suc i) d h = let later = begins (end_of (shown_part p)) ps parts.3 i d (omega arith) in omega (arith, parts.0, later)

-- at a place of a part its byte is that of all
pub byte_here : (at : ℕ) (ps : List code_part.Part) → ArePartsFrom at (shown_parts ps) → (i : ℕ) (d : code_part.Part) → i < length ps
    → (place : ℕ) → (get_or ps i d).first ≤ place → place < (get_or ps i d).first + length (get_or ps i d).bytes.items
    → byte_in (shown_parts ps) place ≡ byte_at (get_or ps i d).first (get_or ps i d).bytes.items place
byte_here at [] parts i d h place low high = absurd (omega (arith, h))
byte_here at (p ∷ ps) parts zero d h place low high =
    let here = byte_at_inside p.first p.bytes.items place low high in
    first_some _ _ _ here ∙ sym here
byte_here at (p ∷ ps) parts (suc i) d h place low high =
    let later = begins (end_of (shown_part p)) ps parts.3 i d (omega arith) in
    let none = byte_at_after p.first p.bytes.items place (omega (arith, later, low)) in
    first_none _ _ none ∙ byte_here (end_of (shown_part p)) ps parts.3 i d (omega arith) place low high

pub slice_get-drop : (n : ℕ) (xs : List ℕ) (k : ℕ) → slice_get (drop n xs) k ≡ slice_get xs (n + k)
slice_get-drop zero xs k = let same : 0 + k ≡ k = omega arith in rw same refl
slice_get-drop (suc n) [] k = refl
slice_get-drop (suc n) (x ∷ xs) k = let same : suc n + k ≡ suc (n + k) = omega arith in rw same (slice_get-drop n xs k)

-- the bytes of a part from a place on are those of all
pub run_from : (at : ℕ) (ps : List code_part.Part) → ArePartsFrom at (shown_parts ps) → (i : ℕ) (d : code_part.Part) → i < length ps
    → (place : ℕ) → (get_or ps i d).first ≤ place
    → HasRun (shown_parts ps) place (drop (place - (get_or ps i d).first) (get_or ps i d).bytes.items)
run_from at ps parts i d h place low k within =
    let p = get_or ps i d in
    let skipped = place - p.first in
    let inside : place + k < p.first + length p.bytes.items = omega (arith, within, length-drop skipped p.bytes.items) in
    let same : (place + k) - p.first ≡ skipped + k = omega arith in
    byte_here at ps parts i d h (place + k) (omega arith) inside
    ∙ byte_at_from p.first p.bytes.items (place + k) (omega arith) ∙ ap (slice_get p.bytes.items) same ∙ sym (slice_get-drop skipped p.bytes.items k)

pub no_run : (parts : List Part) (place : ℕ) → HasRun parts place []
no_run parts place k h = absurd (omega (arith, h))

-- the same of the part that was read at this index
pub run_part : (at : ℕ) (ps : List code_part.Part) → ArePartsFrom at (shown_parts ps) → (i : ℕ) (p : code_part.Part) → i < length ps → p ≡ get_or ps i p
    → (place : ℕ) → p.first ≤ place → HasRun (shown_parts ps) place (drop (place - p.first) p.bytes.items)
run_part at ps parts i p h is place low =
    let there : (get_or ps i p).first ≤ place = subst (λ (q : code_part.Part). q.first ≤ place) is low in
    subst (λ (q : code_part.Part). HasRun (shown_parts ps) place (drop (place - q.first) q.bytes.items)) (sym is) (run_from at ps parts i p h place there)

pub first_within : (ps : List code_part.Part) (i : ℕ) (p : code_part.Part) (place : ℕ) → p ≡ get_or ps i p
    → ((d : Part) → (get_or (shown_parts ps) i d).first ≤ place) → p.first ≤ place
first_within ps i p place is low =
    subst (λ (q : code_part.Part). q.first ≤ place) (sym is) (rw (get_or-map shown_part ps i p) at (low (shown_part p)))

-- parts that all begin later lack the place
pub none_ahead_of : (ps : List Part) (place : ℕ) → All (λ p. place < p.first) ps → byte_in ps place ≡ None
none_ahead_of [] place later = refl
none_ahead_of (p ∷ ps) place later =
    both_none _ _ (byte_at_before p.first p.bytes place (All-head (λ (q : Part). place < q.first) p ps later)) (none_ahead_of ps place (All-tail (λ (q : Part). place < q.first) p ps later))

none_begun : (at : ℕ) (ps : List code_part.Part) → ArePartsFrom at (shown_parts ps) → (place : ℕ) → ((d : code_part.Part) → 0 < length ps → place < (get_or ps 0 d).first)
    → byte_in (shown_parts ps) place ≡ None
none_begun at [] parts place before = refl
none_begun at (p ∷ ps) parts place before = none_before p.first (shown_parts (p ∷ ps)) (omega arith, parts.1, parts.2, parts.3) place (before p (omega arith))

-- a place behind a part, before which no later part begins, is missing
none_here : (at : ℕ) (ps : List code_part.Part) → ArePartsFrom at (shown_parts ps) → (i : ℕ) (d : code_part.Part) → i < length ps
    → (place : ℕ) → (get_or ps i d).first + length (get_or ps i d).bytes.items ≤ place
    → ((k : ℕ) (e : code_part.Part) → i < k → k < length ps → place < (get_or ps k e).first) → byte_in (shown_parts ps) place ≡ None
none_here at [] parts i d h place behind before = absurd (omega (arith, h))
none_here at (p ∷ ps) parts zero d h place behind before =
    both_none _ _ (byte_at_after p.first p.bytes.items place behind)
    (none_begun (end_of (shown_part p)) ps parts.3 place (λ e some. before 1 e (omega arith) (omega (arith, some))))
none_here at (p ∷ ps) parts (suc i) d h place behind before =
    let later = begins (end_of (shown_part p)) ps parts.3 i d (omega arith) in
    both_none _ _ (byte_at_after p.first p.bytes.items place (omega (arith, later, behind)))
    (none_here (end_of (shown_part p)) ps parts.3 i d (omega arith) place behind (λ k e lt within. before (suc k) e (omega arith) (omega (arith, within))))

-- the same of the part that was read at this index
pub none_past : (at : ℕ) (ps : List code_part.Part) → ArePartsFrom at (shown_parts ps) → (i : ℕ) (p : code_part.Part) → i < length ps → p ≡ get_or ps i p
    → (place : ℕ) → p.first + length p.bytes.items ≤ place
    → ((k : ℕ) (d : Part) → i < k → k < length ps → place < (get_or (shown_parts ps) k d).first) → byte_in (shown_parts ps) place ≡ None
none_past at ps parts i p h is place behind before =
    none_here at ps parts i p h place (subst (λ (q : code_part.Part). q.first + length q.bytes.items ≤ place) is behind)
    (λ k e lt within. rw (get_or-map shown_part ps k e) at (before k (shown_part e) lt within))
