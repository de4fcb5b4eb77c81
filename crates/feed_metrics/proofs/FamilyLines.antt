-- The lines of families are lines of the format, if the names of their rows are names and each value is a number.
use Rattle.std.proofs.Common.{◌≡◌, ℕ, List, [], ◌∷◌, ◌++◌, map, Bool, true, Some, refl, ap, ◌∙◌, inl, inr}
use Rattle.std.specs.Prelude.{◌&&◌}
use Rattle.std.specs.List.{list_all, flat_map}
use Rattle.std.proofs.lemmas.Bool.{cases_Bool}
use Rattle.std.proofs.lemmas.List.{map-append}
use Rattle.std.proofs.lemmas.List.Folds.{list_all-map}
use Rattle.feed_metrics.specs.Exposition.{Family, exposition, lines_of, sample_line}
use Rattle.feed_metrics.specs.ExpositionReader.{is_name_byte, is_number_byte, is_help_byte, is_label_name, is_line, is_name, read_text}
use Rattle.feed_metrics.specs.Rows.{FamilyRow, LabelRow, SampleRow, Values, below, families_in, families_of, is_shown, kind_name}
use Rattle.feed_metrics.specs.Rows.{label_at, labels_at, sample_at, samples_from, samples_of}
use Rattle.feed_metrics.proofs.Numbers.{both, front}
use Rattle.feed_metrics.proofs.LinesRead.{text_read}

all_append : {X : Type 0} (test : X → Bool) (xs ys : List X) → list_all test xs ≡ true → list_all test ys ≡ true → list_all test (xs ++ ys) ≡ true
all_append test [] ys one two = two
all_append test (x ∷ xs) ys one two =
    let parts = both (test x) (list_all test xs) one in
    front (test x) (list_all test (xs ++ ys)) parts.0 (all_append test xs ys parts.1 two)

all_of : {X Y : Type 0} (test : Y → Bool) (h : X → Y) (xs : List X) → ((x : X) → test (h x) ≡ true) → list_all test (map h xs) ≡ true
all_of test h [] holds = refl
all_of test h (x ∷ xs) holds = front (test (h x)) (list_all test (map h xs)) (holds x) (all_of test h xs holds)

abbrev is_good_label : {L : Type 0} → LabelRow L → Bool
is_good_label row = list_all is_name_byte row.name

abbrev is_good_sample : {L S : Type 0} → List ℕ → SampleRow L S → Bool
is_good_sample name row = is_name (name ++ row.suffix) && list_all is_good_label row.labels

abbrev pub is_good_family : {L S : Type 0} → FamilyRow L S → Bool
is_good_family row =
    (list_all is_name_byte row.name && list_all is_help_byte row.help)
    && (list_all is_help_byte (kind_name row.kind) && list_all (is_good_sample row.name) row.samples)

module _ {L S : Type 0} (v : Values L S) (numbers : (source : S) (k : ℕ) → list_all is_number_byte (v.value source k) ≡ true) where
  sample_good : (name : List ℕ) (row : SampleRow L S) → is_good_sample name row ≡ true → (k : ℕ) → is_line (sample_line name (sample_at v row k)) ≡ true
  sample_good name row good k =
      let parts = both (is_name (name ++ row.suffix)) (list_all is_good_label row.labels) good in
      front (is_name (name ++ row.suffix)) (list_all is_label_name (labels_at v k row.labels) && list_all is_number_byte (v.value row.source k)) parts.0
      (front (list_all is_label_name (labels_at v k row.labels)) (list_all is_number_byte (v.value row.source k))
      (list_all-map is_label_name (label_at v k) row.labels ∙ parts.1) (numbers row.source k))

  samples_good : (name : List ℕ) (row : SampleRow L S) → is_good_sample name row ≡ true → (ks : List ℕ) → list_all is_line (map (sample_line name) (map (sample_at v row) ks)) ≡ true
  samples_good name row good [] = refl
  samples_good name row good (k ∷ ks) =
      front (is_line (sample_line name (sample_at v row k))) (list_all is_line (map (sample_line name) (map (sample_at v row) ks)))
      (sample_good name row good k) (samples_good name row good ks)

  rows_good : (name : List ℕ) (rows : List (SampleRow L S)) → list_all (is_good_sample name) rows ≡ true → list_all is_line (map (sample_line name) (samples_from v rows)) ≡ true
  rows_good name [] good = refl
  rows_good name (row ∷ rows) good =
      let parts = both (is_good_sample name row) (list_all (is_good_sample name) rows) good in
      ap (list_all is_line) (map-append (sample_line name) (samples_of v row) (samples_from v rows))
      ∙ all_append is_line (map (sample_line name) (samples_of v row)) (map (sample_line name) (samples_from v rows))
      (samples_good name row parts.0 (below (v.count row.source))) (rows_good name rows parts.1)

  family_good : (row : FamilyRow L S) (rest : List Family) → is_good_family row ≡ true → list_all is_line (flat_map lines_of rest) ≡ true
      → list_all is_line (flat_map lines_of (families_of v row ++ rest)) ≡ true
  family_good row rest good more =
      let halves = both (list_all is_name_byte row.name && list_all is_help_byte row.help)
      (list_all is_help_byte (kind_name row.kind) && list_all (is_good_sample row.name) row.samples) good in
      let one = both (list_all is_name_byte row.name) (list_all is_help_byte row.help) halves.0 in
      let two = both (list_all is_help_byte (kind_name row.kind)) (list_all (is_good_sample row.name) row.samples) halves.1 in
      elim (cases_Bool (is_shown v row)) [
        | inl e ↦ rw e
            (front (list_all is_name_byte row.name && list_all is_help_byte row.help) _ halves.0
            (front (list_all is_name_byte row.name && list_all is_help_byte (kind_name row.kind)) _
            (front (list_all is_name_byte row.name) (list_all is_help_byte (kind_name row.kind)) one.0 two.0)
            (all_append is_line (map (sample_line row.name) (samples_from v row.samples)) (flat_map lines_of rest) (rows_good row.name row.samples two.1) more)))
        | inr e ↦ rw e more
      ]

  families_good : (rows : List (FamilyRow L S)) → list_all is_good_family rows ≡ true → list_all is_line (flat_map lines_of (families_in v rows)) ≡ true
  families_good [] good = refl
  families_good (row ∷ rows) good =
      let parts = both (is_good_family row) (list_all is_good_family rows) good in
      family_good row (families_in v rows) parts.0 (families_good rows parts.1)

  pub families_read : (rows : List (FamilyRow L S)) → list_all is_good_family rows ≡ true
      → read_text (exposition (families_in v rows)) ≡ Some (flat_map lines_of (families_in v rows))
  families_read rows good = text_read (flat_map lines_of (families_in v rows)) (families_good rows good)
