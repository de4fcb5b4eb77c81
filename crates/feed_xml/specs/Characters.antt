-- The characters of a text that XML 1.0 has (section 2.2), in UTF-8.
use Rattle.std.specs.Prelude.{ℕ, ◌==◌, ◌&&◌, ◌||◌, not, nat_lt, Bool, false, if◌then◌else◌, List, [], ◌∷◌, ◌++◌, map}
use Rattle.feed_xml.specs.Marks.{Mark, byte}
use Rattle.feed_xml.specs.declared.characters.Place.{Place}
use Rattle.feed_xml.specs.declared.characters.Place.TheVariants.{Outside, First, Second}

-- a control character that XML does not have: below U+0020, and no tab, LF or CR
abbrev pub is_control : ℕ → Bool
is_control b = nat_lt b 32 && not (b == 9) && not (b == 10) && not (b == 13)

-- the last byte of U+FFFE or U+FFFF, which XML does not have either
abbrev pub is_last : Place → ℕ → Bool
is_last Second b = (b == 190) || (b == 191)
is_last Outside b = false
is_last First b = false

-- the place after a byte that may begin one of the two
abbrev pub begun : ℕ → Place
begun b = if b == 239 then First else Outside

-- the place after a byte
abbrev pub place_after : Place → ℕ → Place
place_after First b = if b == 191 then Second else begun b
place_after Outside b = begun b
place_after Second b = begun b

-- a byte of a text, in which U+FFFD (EF BF BD) replaces each character that XML does not have
abbrev pub allowed_byte : Place → ℕ → List ℕ
allowed_byte place b = if is_control b then 239 ∷ 191 ∷ 189 ∷ [] else (if is_last place b then 189 ∷ [] else b ∷ [])

-- a text from a place on
abbrev pub allowed_from : Place → List ℕ → List ℕ
allowed_from place [] = []
allowed_from place (b ∷ text) = allowed_byte place b ++ allowed_from (place_after place b) text

-- a text with U+FFFD for each character that XML does not have
abbrev pub allowed : List ℕ → List ℕ
allowed text = allowed_from Outside text

-- bytes as character data
abbrev pub bytes_marks : List ℕ → List Mark
bytes_marks bytes = map byte bytes

-- a text as character data
abbrev pub text_marks : List ℕ → List Mark
text_marks text = bytes_marks (allowed text)
