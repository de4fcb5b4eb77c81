-- How a reader of the exposition format reads a text. It knows nothing of rows.
use Rattle.std.specs.Prelude.{ℕ, zero, suc, ◌==◌, ◌&&◌, ◌||◌, Bool, false, not, if◌then◌else◌, List, [], ◌∷◌, codes, length, Option, Some, None, option_map, option_and_then}
use Rattle.std.specs.List.{list_all}
use Rattle.std.specs.Char.{is_ascii_alphanumeric, is_ascii_digit}
use Rattle.feed_metrics.specs.Exposition.{Line, Help, Kind, Value}
use Rattle.feed_metrics.specs.Labels.{read_label}

-- what was read, and what follows it
abbrev pub Read : Type 0 → Type 0
Read T = Option (T × List ℕ)

-- what follows these bytes, if they are there
abbrev pub after : List ℕ → List ℕ → Option (List ℕ)
after [] text = Some text
after (a ∷ front) [] = None
after (a ∷ front) (b ∷ text) = if b == a then after front text else None

-- the longest front whose bytes pass a test, and what follows it
abbrev pub span : (ℕ → Bool) → List ℕ → List ℕ × List ℕ
span test [] = ([], [])
span test (b ∷ text) = if test b then (b ∷ (span test text).0, (span test text).1) else ([], b ∷ text)

-- a byte of a name: a letter, a digit, `_` or `:`
abbrev pub is_name_byte : ℕ → Bool
is_name_byte b = is_ascii_alphanumeric b || ((b == 95) || (b == 58))

-- a byte of a number: a digit or the point
abbrev pub is_number_byte : ℕ → Bool
is_number_byte b = is_ascii_digit b || (b == 46)

-- a byte of the help or of a type: none that ends a line or that the format escapes
abbrev pub is_help_byte : ℕ → Bool
is_help_byte b = not ((b == 10) || (b == 92))

-- bytes to the end of a line
abbrev pub ended : (List ℕ → Line) → List ℕ × List ℕ → Read Line
ended make parts = option_map (λ rest. (make parts.0, rest)) (after (codes "\n") parts.1)

-- ` ` and bytes that pass a test, to the end of a line
abbrev pub behind_space : (ℕ → Bool) → (List ℕ → Line) → List ℕ → Read Line
behind_space test make text = option_and_then (λ rest. ended make (span test rest)) (after (codes " ") text)

-- a name, ` ` and the help or the type
abbrev pub named : (List ℕ → List ℕ → Line) → List ℕ × List ℕ → Read Line
named make parts = behind_space is_help_byte (make parts.0) parts.1

-- the label that was read, with those that `read` finds behind a comma, or none behind a brace
abbrev pub closed : (List ℕ → Read (List (List ℕ × List ℕ))) → List ℕ × List ℕ → List ℕ → Read (List (List ℕ × List ℕ))
closed read label [] = None
closed read label (b ∷ rest) =
    if b == 44 then option_map (λ more. (label ∷ more.0, more.1)) (read rest)
    else (if b == 125 then Some (label ∷ [], rest) else None)

-- the value of a label with this name, and the labels behind it
abbrev pub valued : (List ℕ → Read (List (List ℕ × List ℕ))) → List ℕ × List ℕ → Read (List (List ℕ × List ℕ))
valued read parts =
    option_and_then (λ value. closed read (parts.0, value.0) value.1)
    (option_and_then (read_label false) (after (codes "=\"") parts.1))

-- at most so many labels, to the brace
abbrev pub read_labels : ℕ → List ℕ → Read (List (List ℕ × List ℕ))
read_labels zero text = None
read_labels (suc n) text = valued (read_labels n) (span is_name_byte text)

-- the labels, if there are any, and the value; a name has bytes
abbrev pub labelled : List ℕ → List ℕ → Read Line
labelled [] text = None
labelled (a ∷ name) [] = None
labelled (a ∷ name) (b ∷ text) =
    if b == 123 then option_and_then (λ labels. behind_space is_number_byte (Value (a ∷ name) labels.0) labels.1) (read_labels (suc (length text)) text)
    else behind_space is_number_byte (Value (a ∷ name) []) (b ∷ text)

-- a sample
abbrev pub sampled : List ℕ × List ℕ → Read Line
sampled parts = labelled parts.0 parts.1

abbrev pub or_else : {A : Type 0} → Option A → Option A → Option A
or_else (Some a) other = Some a
or_else None other = other

-- a line
abbrev pub comment : (List ℕ → List ℕ → Line) → List ℕ → Read Line
comment make text = named make (span is_name_byte text)

abbrev pub read_comment : List ℕ → Read Line
read_comment text =
    or_else (option_and_then (comment Help) (after (codes "HELP ") text)) (option_and_then (comment Kind) (after (codes "TYPE ") text))

abbrev pub read_line : List ℕ → Read Line
read_line text = or_else (option_and_then read_comment (after (codes "# ") text)) (sampled (span is_name_byte text))

-- the lines that `read` finds behind the next one, or none at the end of the text
abbrev pub next_line : (List ℕ → Option (List Line)) → List ℕ → Option (List Line)
next_line read [] = Some []
next_line read (b ∷ text) =
    option_and_then (λ line. option_map (λ more. line.0 ∷ more) (read line.1)) (read_line (b ∷ text))

-- at most n lines, to the end of the text
abbrev pub read_lines : ℕ → List ℕ → Option (List Line)
read_lines zero text = next_line (λ rest. None) text
read_lines (suc n) text = next_line (read_lines n) text

-- the lines of a text; each has at least one byte
abbrev pub read_text : List ℕ → Option (List Line)
read_text text = read_lines (length text) text

-- ---- what a reader reads back

-- a name has bytes
abbrev pub is_name : List ℕ → Bool
is_name [] = false
is_name (a ∷ name) = list_all is_name_byte (a ∷ name)

abbrev pub is_label_name : List ℕ × List ℕ → Bool
is_label_name label = list_all is_name_byte label.0

-- a line of the format: names are names, a help is in one line, and a value is a number
abbrev pub is_line : Line → Bool
is_line (Help name text) = list_all is_name_byte name && list_all is_help_byte text
is_line (Kind name text) = list_all is_name_byte name && list_all is_help_byte text
is_line (Value name labels value) = is_name name && (list_all is_label_name labels && list_all is_number_byte value)
