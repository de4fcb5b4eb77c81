-- A series is found in the rows of its name alone.
use Rattle.std.proofs.Common.{◌≡◌, ℕ, List, [], ◌∷◌, ◌++◌, map, Bool, true, false, refl, sym, ap, ◌∙◌, inl, inr}
use Rattle.std.specs.Prelude.{◌||◌}
use Rattle.std.specs.List.{filter, flat_map, list_any}
use Rattle.std.specs.Str.{bytes_eq}
use Rattle.std.proofs.lemmas.Bool.{cases_Bool}
use Rattle.std.proofs.lemmas.List.{map-append}
use Rattle.std.proofs.lemmas.Grind.{flat_map-append}
use Rattle.feed_metrics.specs.Exposition.{lines_of, sample_line}
use Rattle.feed_metrics.specs.Rows.{FamilyRow, SampleRow, Values, below, families_in, families_of, is_shown, sample_at, samples_from, samples_of}
use Rattle.feed_metrics.specs.Series.{line_values, values_of}

neither : (s t : Bool) → (s || t) ≡ false → (s ≡ false) × (t ≡ false)
neither true t holds = absurd (cc)
neither false t holds = (refl, holds)

-- a row has samples of the name
abbrev has_name : {L S : Type 0} → List ℕ → List ℕ → SampleRow L S → Bool
has_name name family row = bytes_eq (family ++ row.suffix) name

abbrev pub is_named : {L S : Type 0} → List ℕ → FamilyRow L S → Bool
is_named name row = list_any (has_name name row.name) row.samples

module _ (name : List ℕ) (labels : List (List ℕ × List ℕ)) where
  module _ {L S : Type 0} (v : Values L S) where
    sample_missed : (family : List ℕ) (row : SampleRow L S) (ks : List ℕ) → has_name name family row ≡ false
        → values_of name labels (map (sample_line family) (map (sample_at v row) ks)) ≡ []
    sample_missed family row [] other = refl
    sample_missed family row (k ∷ ks) other = rw other (sample_missed family row ks other)

    rows_missed : (family : List ℕ) (rows : List (SampleRow L S)) → list_any (has_name name family) rows ≡ false
        → values_of name labels (map (sample_line family) (samples_from v rows)) ≡ []
    rows_missed family [] other = refl
    rows_missed family (row ∷ rows) other =
        let parts = neither (has_name name family row) (list_any (has_name name family) rows) other in
        ap (values_of name labels) (map-append (sample_line family) (samples_of v row) (samples_from v rows))
        ∙ flat_map-append (line_values name labels) (map (sample_line family) (samples_of v row)) (map (sample_line family) (samples_from v rows))
        ∙ ap (λ values. values ++ values_of name labels (map (sample_line family) (samples_from v rows)))
        (sample_missed family row (below (v.count row.source)) parts.0)
        ∙ rows_missed family rows parts.1

    one_missed : (row : FamilyRow L S) → is_named name row ≡ false → values_of name labels (flat_map lines_of (families_of v row)) ≡ []
    one_missed row other = elim (cases_Bool (is_shown v row)) [
      | inl e ↦ rw e
          (flat_map-append (line_values name labels) (map (sample_line row.name) (samples_from v row.samples)) []
          ∙ ap (λ values. values ++ []) (rows_missed row.name row.samples other))
      | inr e ↦ rw e refl
    ]

    split : (row : FamilyRow L S) (rows : List (FamilyRow L S)) → values_of name labels (flat_map lines_of (families_in v (row ∷ rows)))
        ≡ values_of name labels (flat_map lines_of (families_of v row)) ++ values_of name labels (flat_map lines_of (families_in v rows))
    split row rows =
        ap (values_of name labels) (flat_map-append lines_of (families_of v row) (families_in v rows))
        ∙ flat_map-append (line_values name labels) (flat_map lines_of (families_of v row)) (flat_map lines_of (families_in v rows))

    pub found : (rows : List (FamilyRow L S)) → values_of name labels (flat_map lines_of (families_in v rows))
        ≡ values_of name labels (flat_map lines_of (families_in v (filter (is_named name) rows)))
    found [] = refl
    found (row ∷ rows) = elim (cases_Bool (is_named name row)) [
      | inl e ↦ rw e
          (split row rows ∙ ap (λ values. values_of name labels (flat_map lines_of (families_of v row)) ++ values) (found rows)
          ∙ sym (split row (filter (is_named name) rows)))
      | inr e ↦ rw e (split row rows ∙ ap (λ values. values ++ values_of name labels (flat_map lines_of (families_in v rows))) (one_missed row e) ∙ found rows)
    ]
