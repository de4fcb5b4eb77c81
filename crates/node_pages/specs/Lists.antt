-- The lists of a page.
use Rattle.std.specs.Prelude.{ℕ, Bool, if◌then◌else◌, List, [], codes}

-- the value of the slot of a list that has items
abbrev pub list_mark : Bool → List ℕ
list_mark is_empty = if is_empty then [] else codes "list"
