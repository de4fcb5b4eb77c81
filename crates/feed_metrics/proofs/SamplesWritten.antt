-- The lines of one more sample of a row.
use Rattle.std.proofs.Common.{◌≡◌, ◌+◌, ℕ, List, [], ◌∷◌, ◌++◌, map, refl, ap, ◌∙◌, add-one, append_assoc}
use Rattle.std.specs.List.{flat_map}
use Rattle.std.proofs.lemmas.List.{append-nil, map-append}
use Rattle.std.proofs.lemmas.Grind.{flat_map-append}
use Rattle.feed_metrics.specs.Exposition.{Line, Sample, line_text}
use Rattle.feed_metrics.specs.Rows.{below}

-- the text of the samples of the first places
abbrev pub texts_below : (Sample → Line) → (ℕ → Sample) → ℕ → List ℕ
texts_below line sample k = flat_map line_text (map line (map sample (below k)))

next_text : (line : Sample → Line) (sample : ℕ → Sample) (k : ℕ) → texts_below line sample (k + 1) ≡ texts_below line sample k ++ line_text (line (sample k))
next_text line sample k =
    rw (add-one k) (ap (λ samples. flat_map line_text (map line samples)) (map-append sample (below k) (k ∷ []))
    ∙ ap (flat_map line_text) (map-append line (map sample (below k)) (sample k ∷ []))
    ∙ flat_map-append line_text (map line (map sample (below k))) (line (sample k) ∷ [])
    ∙ ap (λ t. texts_below line sample k ++ t) (append-nil (line_text (line (sample k)))))

pub sample_written : (line : Sample → Line) (sample : ℕ → Sample) (k : ℕ) (old one new : List ℕ) → one ≡ old ++ texts_below line sample k → new ≡ one ++ line_text (line (sample k))
    → new ≡ old ++ texts_below line sample (k + 1)
sample_written line sample k old one new first second =
    second ∙ ap (λ t. t ++ line_text (line (sample k))) first ∙ append_assoc old (texts_below line sample k) (line_text (line (sample k)))
    ∙ ap (λ t. old ++ t) (rw (next_text line sample k) refl)
