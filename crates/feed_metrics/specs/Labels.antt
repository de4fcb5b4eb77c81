-- The value of a label between its quotes, and how a reader of the format reads it.
use Rattle.std.specs.Prelude.{ℕ, ◌==◌, Bool, true, false, if◌then◌else◌, List, [], ◌∷◌, Option, Some, None, option_map}
use Rattle.std.specs.List.{flat_map}

-- a byte of the value: `\`, `"` and the end of a line are escaped
abbrev pub label_byte : ℕ → List ℕ
label_byte b =
    if b == 92 then 92 ∷ 92 ∷ []
    else (if b == 34 then 92 ∷ 34 ∷ []
    else (if b == 10 then 92 ∷ 110 ∷ []
    else b ∷ []))

-- the value
abbrev pub label_text : List ℕ → List ℕ
label_text text = flat_map label_byte text

-- a value with one more byte in front, and what follows its quote
abbrev pub in_front : ℕ → Option (List ℕ × List ℕ) → Option (List ℕ × List ℕ)
in_front b read = option_map (λ parts. (b ∷ parts.0, parts.1)) read

-- reads a value up to its quote, after a `\` or not; a line does not end in it
abbrev pub read_label : Bool → List ℕ → Option (List ℕ × List ℕ)
read_label false [] = None
read_label true [] = None
read_label false (b ∷ text) =
    if b == 34 then Some ([], text)
    else (if b == 92 then read_label true text
    else (if b == 10 then None
    else in_front b (read_label false text)))
read_label true (b ∷ text) =
    if b == 92 then in_front 92 (read_label false text)
    else (if b == 34 then in_front 34 (read_label false text)
    else (if b == 110 then in_front 10 (read_label false text)
    else None))
