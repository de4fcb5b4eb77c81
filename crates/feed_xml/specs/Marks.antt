-- A document as its tags and characters (XML 1.0, sections 2.4, 3.1 and 4.6), and the text that is written for them.
use Rattle.std.specs.Prelude.{ℕ, ◌==◌, if◌then◌else◌, List, [], ◌∷◌, ◌++◌, codes}
use Rattle.std.specs.List.{flat_map}

-- a start tag, by the text between `<` and `>`; an end tag, by its name; or a byte of character data
pub data Mark : Type 0 where
  opened : List ℕ → Mark
  closed : List ℕ → Mark
  byte : ℕ → Mark

-- a byte of character data: itself, or a reference
abbrev pub escape_byte : ℕ → List ℕ
escape_byte b =
    if b == 60 then codes "&lt;"
    else (if b == 62 then codes "&gt;"
    else (if b == 38 then codes "&amp;"
    else (if b == 34 then codes "&quot;"
    else (if b == 39 then codes "&apos;"
    else (if b == 13 then codes "&#13;"
    else b ∷ [])))))

-- the text of a tag or a byte
abbrev pub mark_text : Mark → List ℕ
mark_text (opened tag) = 60 ∷ (tag ++ 62 ∷ [])
mark_text (closed name) = 60 ∷ 47 ∷ (name ++ 62 ∷ [])
mark_text (byte b) = escape_byte b

-- the text of a document, or of a part of one
abbrev pub xml_text : List Mark → List ℕ
xml_text marks = flat_map mark_text marks

-- an element: its start tag, its content and its end tag
abbrev pub element : List ℕ → List ℕ → List Mark → List Mark
element tag name content = opened tag ∷ (content ++ closed name ∷ [])
