-- Families of metrics, and their text in the Prometheus exposition format, version 0.0.4.
use Rattle.std.specs.Prelude.{ℕ, List, [], ◌∷◌, ◌++◌, codes, map}
use Rattle.std.specs.List.{flat_map}
use Rattle.feed_metrics.specs.Labels.{label_text}

-- the concatenation of texts
abbrev joined : List (List ℕ) → List ℕ
joined texts = flat_map (λ text. text) texts

-- a line: the help or the type of a family, or a sample's name, its labels and its value in digits
pub data Line : Type 0 where
  Help : List ℕ → List ℕ → Line
  Kind : List ℕ → List ℕ → Line
  Value : List ℕ → List (List ℕ × List ℕ) → List ℕ → Line

-- a sample: what follows the name of its family, its labels by name, and its value in digits
pub record Sample : Type 0 where
  pub suffix : List ℕ
  pub labels : List (List ℕ × List ℕ)
  pub value : List ℕ

-- a family: its name, its help, the name of its type, and its samples
pub record Family : Type 0 where
  pub name : List ℕ
  pub help : List ℕ
  pub kind : List ℕ
  pub samples : List Sample

-- the line of a sample of a family with this name
abbrev pub sample_line : List ℕ → Sample → Line
sample_line name s = Value (name ++ s.suffix) s.labels s.value

-- the lines of a family: its help, its type and its samples
abbrev pub lines_of : Family → List Line
lines_of f = Help f.name f.help ∷ Kind f.name f.kind ∷ map (sample_line f.name) f.samples

-- a label behind a mark
abbrev pub label_pair : List ℕ → List ℕ × List ℕ → List ℕ
label_pair mark label = joined (mark ∷ label.0 ∷ codes "=\"" ∷ label_text label.1 ∷ codes "\"" ∷ [])

-- further labels, to the end
unfoldable pub more_labels : List (List ℕ × List ℕ) → List ℕ
more_labels labels = flat_map (label_pair (codes ",")) labels ++ codes "}"

-- the labels
abbrev pub labels_text : List (List ℕ × List ℕ) → List ℕ
labels_text [] = []
labels_text (label ∷ labels) = label_pair (codes "{") label ++ more_labels labels

-- a mark, a name, and the rest of a line
abbrev pub comment_text : List ℕ → List ℕ → List ℕ → List ℕ
comment_text mark name text = joined (mark ∷ name ∷ codes " " ∷ text ∷ codes "\n" ∷ [])

-- the text of a line
unfoldable pub line_text : Line → List ℕ
line_text (Help name text) = comment_text (codes "# HELP ") name text
line_text (Kind name kind) = comment_text (codes "# TYPE ") name kind
line_text (Value name labels value) = name ++ (labels_text labels ++ joined (codes " " ∷ value ∷ codes "\n" ∷ []))

-- the text of families: that of their lines
abbrev pub exposition : List Family → List ℕ
exposition families = flat_map line_text (flat_map lines_of families)
