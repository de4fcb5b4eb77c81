-- The rows of families: what is constant of them, and the families that they are with values.
use Rattle.std.specs.Prelude.{ℕ, zero, suc, List, [], ◌∷◌, ◌++◌, map, slice_get, nat_lt, if◌then◌else◌, unwrap_or, Bool, true}
use Rattle.std.specs.List.{flat_map, list_any}
use Rattle.std.specs.Borrow.{Bor}
use Rattle.feed_metrics.specs.declared.row.FamilyKind.{FamilyKind}
use Rattle.feed_metrics.specs.declared.row.Shown.{Shown}
use Rattle.feed_metrics.specs.declared.row.Shown.TheVariants as shown
use Rattle.feed_metrics.specs.declared.row.TheConstants.{KINDS}
use Rattle.feed_metrics.specs.contracts.row.FamilyKind as family_kind
use denote.Enum.Declared.{tag_of}
use Rattle.feed_metrics.specs.Exposition.{Sample, Family}

-- ---- the rows, without the addresses of their texts

-- a label: its name, its value, and which source says more of the value
pub record LabelRow (L : Type 0) : Type 0 where
  pub name : List ℕ
  pub value : List ℕ
  pub source : L

-- samples: what follows the name of the family, the labels, and the source of the values
pub record SampleRow (L S : Type 0) : Type 0 where
  pub suffix : List ℕ
  pub labels : List (LabelRow L)
  pub source : S

-- a family: its name, its help, its type, when it is shown, and its samples
pub record FamilyRow (L S : Type 0) : Type 0 where
  pub name : List ℕ
  pub help : List ℕ
  pub kind : FamilyKind
  pub shown : Shown
  pub samples : List (SampleRow L S)

-- of a parameter
abbrev pub plain_label : {L : Type 0} → Bor (List ℕ) × Bor (List ℕ) × L → LabelRow L
plain_label row = record { name = row.0.now; value = row.1.now; source = row.2 }

abbrev pub plain_labels : {L : Type 0} → List (Bor (List ℕ) × Bor (List ℕ) × L) → List (LabelRow L)
plain_labels rows = map plain_label rows

abbrev pub plain_sample : {L S : Type 0} → Bor (List ℕ) × Bor (List (Bor (List ℕ) × Bor (List ℕ) × L)) × S → SampleRow L S
plain_sample row = record { suffix = row.0.now; labels = plain_labels row.1.now; source = row.2 }

abbrev pub plain_samples : {L S : Type 0} → List (Bor (List ℕ) × Bor (List (Bor (List ℕ) × Bor (List ℕ) × L)) × S) → List (SampleRow L S)
plain_samples rows = map plain_sample rows

abbrev pub plain_family : {L S : Type 0}
    → Bor (List ℕ) × Bor (List ℕ) × FamilyKind × Shown × Bor (List (Bor (List ℕ) × Bor (List (Bor (List ℕ) × Bor (List ℕ) × L)) × S)) → FamilyRow L S
plain_family row = record { name = row.0.now; help = row.1.now; kind = row.2; shown = row.3; samples = plain_samples row.4.now }

abbrev pub plain_families : {L S : Type 0}
    → List (Bor (List ℕ) × Bor (List ℕ) × FamilyKind × Shown × Bor (List (Bor (List ℕ) × Bor (List (Bor (List ℕ) × Bor (List ℕ) × L)) × S))) → List (FamilyRow L S)
plain_families rows = map plain_family rows

-- of a constant
abbrev pub Text : Type 0
Text = record { now : List ℕ }

abbrev pub label_of : {L : Type 0} → Text × Text × L → LabelRow L
label_of row = record { name = row.0.now; value = row.1.now; source = row.2 }

abbrev pub sample_of : {L S : Type 0} → Text × record { now : List (Text × Text × L) } × S → SampleRow L S
sample_of row = record { suffix = row.0.now; labels = map label_of row.1.now; source = row.2 }

abbrev pub family_of : {L S : Type 0}
    → Text × Text × FamilyKind × Shown × record { now : List (Text × record { now : List (Text × Text × L) } × S) } → FamilyRow L S
family_of row = record { name = row.0.now; help = row.1.now; kind = row.2; shown = row.3; samples = map sample_of row.4.now }

-- the names of constants by their places
abbrev pub names_of : List Text → List (List ℕ)
names_of names = map (λ (name : Text). name.now) names

-- the name at a place, or nothing
abbrev pub name_at : List (List ℕ) → ℕ → List ℕ
name_at names k = unwrap_or (slice_get names k) []

-- the name of a type
abbrev pub kind_name : FamilyKind → List ℕ
kind_name kind = name_at (names_of KINDS) (tag_of family_kind.the_type kind)

-- ---- the values

-- what sources say: how many samples, the value of the sample at a place, and that of its label; a row may say a part of it
pub record Values (L S : Type 0) : Type 0 where
  pub count : S → ℕ
  pub value : S → ℕ → List ℕ
  pub label : L → List ℕ → ℕ → List ℕ

-- 0, 1 and so on
abbrev pub below : ℕ → List ℕ
below zero = []
below (suc k) = below k ++ k ∷ []

module _ {L S : Type 0} (v : Values L S) where
  -- the labels of the sample at a place
  abbrev pub label_at : ℕ → LabelRow L → List ℕ × List ℕ
  label_at k row = (row.name, v.label row.source row.value k)

  abbrev pub labels_at : ℕ → List (LabelRow L) → List (List ℕ × List ℕ)
  labels_at k labels = map (label_at k) labels

  abbrev pub sample_at : SampleRow L S → ℕ → Sample
  sample_at row k = record { suffix = row.suffix; labels = labels_at k row.labels; value = v.value row.source k }

  -- the samples of a row
  abbrev pub samples_of : SampleRow L S → List Sample
  samples_of row = map (sample_at row) (below (v.count row.source))

  abbrev pub samples_from : List (SampleRow L S) → List Sample
  samples_from rows = flat_map samples_of rows

  -- a row has samples
  abbrev pub has_samples : List (SampleRow L S) → Bool
  has_samples rows = list_any (λ (row : SampleRow L S). nat_lt 0 (v.count row.source)) rows

  abbrev pub shown_by : Shown → List (SampleRow L S) → Bool
  shown_by shown.Always rows = true
  shown_by shown.IfAny rows = has_samples rows

  abbrev pub is_shown : FamilyRow L S → Bool
  is_shown row = shown_by row.shown row.samples

  -- the family of a row, if it is shown
  abbrev pub families_of : FamilyRow L S → List Family
  families_of row =
      if is_shown row
      then (record { name = row.name; help = row.help; kind = kind_name row.kind; samples = samples_from row.samples }) ∷ []
      else []

  abbrev pub families_in : List (FamilyRow L S) → List Family
  families_in rows = flat_map families_of rows
