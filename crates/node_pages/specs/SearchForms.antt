-- The form for a new search, with what the pairs of a query have for its fields.
use Rattle.std.specs.Prelude.{ℕ, ◌||◌, if◌then◌else◌, List, [], ◌∷◌, codes}
use Rattle.feed_answer.specs.Pairs.{has_key}
use Rattle.node_templates.specs.Pages.{Part, with_values}
use Rattle.node_templates.specs.declared.slot.Slot.TheVariants as slot
use Rattle.node_pages.specs.declared.form.TheConstants.{FORM_END}

-- the first value with one of two keys, or nothing
abbrev pub value_at : List ℕ → List ℕ → List (List ℕ × List ℕ) → List ℕ
value_at key other [] = []
value_at key other (pair ∷ pairs) = if has_key key pair || has_key other pair then pair.1 else value_at key other pairs

abbrev pub issn_in : List (List ℕ × List ℕ) → List ℕ
issn_in pairs = value_at (codes "rft.issn") (codes "issn") pairs

abbrev pub isbn_in : List (List ℕ × List ℕ) → List ℕ
isbn_in pairs = value_at (codes "rft.isbn") (codes "isbn") pairs

-- the form with the values of a query, and the end of the page
unfoldable pub form_end : List (List ℕ × List ℕ) → List Part
form_end pairs = with_values (
    (slot.Issn, issn_in pairs)
    ∷ (slot.Isbn, isbn_in pairs)
    ∷ (slot.Date, value_at (codes "rft.date") (codes "date") pairs)
    ∷ (slot.Volume, value_at (codes "rft.volume") (codes "volume") pairs)
    ∷ []) FORM_END
