-- The text of one more row.
use Rattle.std.proofs.Common.{◌≡◌, ◌<◌, ◌+◌, ℕ, List, [], ◌∷◌, ◌++◌, map, take, length, get_or, sym, ap, ◌∙◌, append_assoc}
use Rattle.std.specs.List.{flat_map}
use Rattle.std.proofs.lemmas.Grind.{flat_map-append}
use Rattle.std.proofs.lemmas.List.{append-nil, map-append, take_more}
use Rattle.feed_metrics.specs.Exposition.{Family, Line, Sample, exposition, line_text, lines_of}

pub lines_add : (line : Sample → Line) (a b : List Sample)
    → flat_map line_text (map line (a ++ b)) ≡ flat_map line_text (map line a) ++ flat_map line_text (map line b)
lines_add line a b = ap (flat_map line_text) (map-append line a b) ∙ flat_map-append line_text (map line a) (map line b)

pub families_add : (a b : List Family) → exposition (a ++ b) ≡ exposition a ++ exposition b
families_add a b = ap (flat_map line_text) (flat_map-append lines_of a b) ∙ flat_map-append line_text (flat_map lines_of a) (flat_map lines_of b)

pub row_written : {X Y Z : Type 0} (show : List Z → List ℕ) → ((a b : List Z) → show (a ++ b) ≡ show a ++ show b)
    → (f : Y → List Z) (plain : X → Y) (xs : List X) (i : ℕ) (d : X) (old one new : List ℕ) → i < length xs
    → one ≡ old ++ show (flat_map f (map plain (take i xs))) → new ≡ one ++ show (f (plain (get_or xs i d)))
    → new ≡ old ++ show (flat_map f (map plain (take (i + 1) xs)))
row_written show adds f plain xs i d old one new within first second =
    let next = get_or xs i d in
    let rows = map plain (take i xs) in
    second ∙ ap (λ t. t ++ show (f (plain next))) first ∙ append_assoc old (show (flat_map f rows)) (show (f (plain next)))
    ∙ ap (λ t. old ++ t) (sym (ap (λ all. show (flat_map f (map plain all))) (take_more xs i d within)
    ∙ ap (λ all. show (flat_map f all)) (map-append plain (take i xs) (next ∷ []))
    ∙ ap show (flat_map-append f rows (plain next ∷ []) ∙ ap (λ t. flat_map f rows ++ t) (append-nil (f (plain next))))
    ∙ adds (flat_map f rows) (f (plain next))))
