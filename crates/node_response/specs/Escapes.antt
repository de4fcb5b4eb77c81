-- Escaping texts in an HTML page (WHATWG HTML, sections 13.1.4, 13.1.2.3 and 13.2.3.5), and how a browser decodes them.
use Rattle.std.specs.Prelude.{ℕ, ◌==◌, ◌||◌, nat_lt, Bool, if◌then◌else◌, List, [], ◌∷◌, ◌++◌, codes, Option, Some, None, map, option_map}
use Rattle.std.specs.List.{flat_map}
use Rattle.std.specs.Option.{option_and_then}
use Rattle.std.specs.Str.{bytes_eq}
use Rattle.node_response.specs.Utf8.{in_utf8}

-- a control character of ASCII
abbrev pub is_control : ℕ → Bool
is_control b = nat_lt b 32 || (b == 127)

-- a byte of a text as a page shows it: a space in place of a control character
abbrev pub shown_byte : ℕ → ℕ
shown_byte b = if is_control b then 32 else b

-- a text as a page shows it, in UTF-8
abbrev pub shown : List ℕ → List ℕ
shown text = map shown_byte (in_utf8 text)

-- a byte of a text, escaped for a page
abbrev pub escape_byte : ℕ → List ℕ
escape_byte b =
    if b == 60 then codes "&lt;"
    else (if b == 62 then codes "&gt;"
    else (if b == 34 then codes "&quot;"
    else (if b == 39 then codes "&#39;"
    else (if b == 38 then codes "&amp;"
    else shown_byte b ∷ []))))

-- bytes, escaped for a page
abbrev pub escaped_bytes : List ℕ → List ℕ
escaped_bytes text = flat_map escape_byte text

-- a text in UTF-8, escaped for a page
abbrev pub escaped : List ℕ → List ℕ
escaped text = escaped_bytes (in_utf8 text)

-- `<`, `>`, `"` and `'`
abbrev pub is_markup : ℕ → Bool
is_markup b = (b == 60) || (b == 62) || (b == 34) || (b == 39)

-- the byte of the character reference with this name, which is written between `&` and `;`
abbrev pub referred : List ℕ → Option ℕ
referred name =
    if bytes_eq name (codes "lt") then Some 60
    else (if bytes_eq name (codes "gt") then Some 62
    else (if bytes_eq name (codes "quot") then Some 34
    else (if bytes_eq name (codes "#39") then Some 39
    else (if bytes_eq name (codes "amp") then Some 38
    else None))))

-- a text with one more byte in front
abbrev pub with_byte : ℕ → Option (List ℕ) → Option (List ℕ)
with_byte b text = option_map (λ bytes. b ∷ bytes) text

-- decodes the text of a page, if it has no markup and each `&` begins one of the five references; after an `&`, with
-- the name read so far
abbrev pub undone : Option (List ℕ) → List ℕ → Option (List ℕ)
undone None [] = Some []
undone (Some name) [] = None
undone None (b ∷ text) = if b == 38 then undone (Some []) text else (if is_markup b then None else with_byte b (undone None text))
undone (Some name) (b ∷ text) =
    if b == 59 then option_and_then (λ c. with_byte c (undone None text)) (referred name)
    else undone (Some (name ++ b ∷ [])) text

-- decodes the text of a page
abbrev pub unescaped : List ℕ → Option (List ℕ)
unescaped text = undone None text
