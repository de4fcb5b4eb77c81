-- The labels in use among the fields of a header.
use Rattle.std.specs.Prelude.{◌≡◌, ◌∷◌, ◌++◌, [], ℕ, List, Some, if◌then◌else◌, is_some, length, map}
use Rattle.std.specs.Option.{option_or}
use Rattle.feed_kbart.specs.Columns.{column, is_twice}
use Rattle.feed_kbart.specs.Labels.{is_label, used_labels}
use Rattle.feed_kbart.specs.declared.header.Found.{Found}
use Rattle.feed_kbart.specs.declared.header.HeaderLabels.{HeaderLabels}
use Rattle.feed_kbart.specs.declared.header_fields.HeaderFields.{HeaderFields}
use Rattle.feed_kbart.specs.declared.label.Label.{Label}

-- the place of the first field that is the label, and whether two fields are
abbrev pub found_of : List (List ℕ) → Label → Found
found_of header label = record { label = label; first = column label header; is_twice = is_twice header label }

-- the places that were found for each label, in their order
pub record AreLabelsOf (header : List (List ℕ)) (labels : HeaderLabels) : Type 0 where
  pub found : labels.found ≡ map (found_of header) used_labels

-- the same with one more field, at the next place
abbrev pub with_field : ℕ → List ℕ → Found → Found
with_field place field found =
    if is_label found.label field then record { label = found.label; first = option_or found.first (Some place); is_twice = is_some found.first }
    else found

-- these are the fields of a header so far: the labels of all but the last, and the last
pub record AreHeaderFields (fields : List (List ℕ)) (header : HeaderFields) : Type 0 where
  pub ended : List (List ℕ)
  pub are : fields ≡ ended ++ header.field.items ∷ []
  pub place : header.place ≡ length ended
  pub labels : AreLabelsOf ended header.labels
