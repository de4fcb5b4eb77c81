-- Lists of JSON (RFC 8259, section 5), with a line for each item.
use Rattle.std.specs.Prelude.{ℕ, ◌+◌, ◌==◌, if◌then◌else◌, List, [], ◌∷◌, ◌++◌, codes}

-- the separator in front of the item at this place of a list
abbrev pub comma_before : ℕ → List ℕ
comma_before place = if place == 0 then codes "\n" else codes ",\n"

-- the items from this place on, each after its separator
abbrev pub items_from : {A : Type 0} → (A → List ℕ) → ℕ → List A → List ℕ
items_from item place [] = []
items_from item place (x ∷ xs) = (comma_before place ++ item x) ++ items_from item (place + 1) xs

-- a list
abbrev pub json_list : {A : Type 0} → (A → List ℕ) → List A → List ℕ
json_list item xs = codes "[" ++ (items_from item 0 xs ++ codes "\n]\n")
