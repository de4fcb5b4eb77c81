-- The contents of a writer after one text is written after another.
use Rattle.std.proofs.Common.{◌≡◌, ◌<◌, ◌+◌, ℕ, List, [], ◌∷◌, ◌++◌, take, length, get_or, Option, Some, None, sym, ap, ◌∙◌, append_assoc}
use Rattle.std.specs.List.{flat_map}
use Rattle.std.specs.Io.KnownBytes.{Appends}
use Rattle.std.proofs.lemmas.Grind.{flat_map-append}
use Rattle.std.proofs.lemmas.List.{take_more, append-nil}

-- the one, and then the other
pub appends_more : (old mid new : Option (List ℕ)) (bs cs : List ℕ) → Appends old mid bs → Appends mid new cs → Appends old new (bs ++ cs)
appends_more None mid new bs cs first second = tt
appends_more (Some xs) None new bs cs first second = absurd first
appends_more (Some xs) (Some ys) None bs cs first second = absurd second
appends_more (Some xs) (Some ys) (Some zs) bs cs first second = second ∙ rw first (append_assoc xs bs cs)

-- the same bytes, put otherwise
pub appends_same : (old new : Option (List ℕ)) (bs cs : List ℕ) → bs ≡ cs → Appends old new bs → Appends old new cs
appends_same old new bs cs same written = rw (← same) written

-- the text of one item more
flat_map-take_more : {X : Type 0} (f : X → List ℕ) (xs : List X) (i : ℕ) (d : X) → i < length xs
    → flat_map f (take (i + 1) xs) ≡ flat_map f (take i xs) ++ f (get_or xs i d)
flat_map-take_more f xs i d within =
    ap (flat_map f) (take_more xs i d within)
    ∙ flat_map-append f (take i xs) (get_or xs i d ∷ [])
    ∙ ap (λ bs. flat_map f (take i xs) ++ bs) (append-nil (f (get_or xs i d)))

-- one item more of a list, after a front
pub appends_item : {X : Type 0} (f : X → List ℕ) (old mid new : Option (List ℕ)) (front : List ℕ) (xs : List X) (i : ℕ) (d : X) → i < length xs
    → Appends old mid (front ++ flat_map f (take i xs)) → Appends mid new (f (get_or xs i d)) → Appends old new (front ++ flat_map f (take (i + 1) xs))
appends_item f old mid new front xs i d within first second =
    appends_same old new _ _
    (append_assoc front (flat_map f (take i xs)) (f (get_or xs i d)) ∙ ap (λ bs. front ++ bs) (sym (flat_map-take_more f xs i d within)))
    (appends_more old mid new _ _ first second)
