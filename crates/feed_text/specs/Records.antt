-- The text of a file: its byte-order mark, its lines and the fields of each line.
use Rattle.std.specs.Prelude.{ℕ, drop, ◌==◌, ◌||◌, Bool, true, false, List, [], ◌∷◌, ◌++◌, map, filter, nat_eq, if◌then◌else◌}
use Rattle.std.specs.List.{slice_split, starts_with}

-- the byte-order mark of UTF-8
abbrev pub mark : List ℕ
mark = 0xEF ∷ 0xBB ∷ 0xBF ∷ []

-- whether a text begins with a byte-order mark
abbrev pub has_mark : List ℕ → Bool
has_mark text = starts_with nat_eq text mark

-- whether a text begins with two byte-order marks
abbrev pub has_two_marks : List ℕ → Bool
has_two_marks text = starts_with nat_eq text (mark ++ mark)

-- the text without one byte-order mark at its front
abbrev pub drop_mark : List ℕ → List ℕ
drop_mark text = if has_mark text then drop 3 text else text

-- whether a byte is a carriage return or a line feed
abbrev pub ends_line : ℕ → Bool
ends_line b = (b == 13) || (b == 10)

-- whether a byte is a tab
abbrev pub is_tab : ℕ → Bool
is_tab b = b == 9

-- whether a piece has bytes
abbrev pub is_nonempty : List ℕ → Bool
is_nonempty [] = false
is_nonempty (b ∷ bytes) = true

-- the nonempty pieces between the line ends
abbrev pub lines_of : List ℕ → List (List ℕ)
lines_of text = filter is_nonempty (slice_split ends_line text)

-- the fields of each line, in file order
abbrev pub records_in : List ℕ → List (List (List ℕ))
records_in text = map (slice_split is_tab) (lines_of text)

-- the records of a whole file
abbrev pub records_of : List ℕ → List (List (List ℕ))
records_of text = records_in (drop_mark text)
