-- A value as a citation shows it: its characters without controls, and without marks that turn the direction of reading.
use Rattle.std.specs.Prelude.{ℕ, Bool, ◌||◌, ◌&&◌, ◌==◌, ◌-◌, ◌++◌, nat_lt, nat_le, List, [], Option, Some, None, if◌then◌else◌, fold, slice_index}
use Rattle.std.specs.Char.{encode_utf8}
use Rattle.std.specs.Str.{chars, is_utf8}
use Rattle.feed_answer.specs.Pairs.{is_empty}
use Rattle.feed_openurl.specs.Plain.{is_between}
use Rattle.feed_openurl.specs.declared.shown.TheConstants.{UPPER}

-- a control character, or the end of a line or of a paragraph
abbrev pub is_control : ℕ → Bool
is_control c = nat_lt c 32 || is_between 127 159 c || is_between 8232 8233 c

-- a character that turns the direction of reading, or shows nothing
abbrev pub is_mark : ℕ → Bool
is_mark c = (c == 8203) || is_between 8206 8207 c || is_between 8234 8238 c || is_between 8288 8303 c || (c == 65279)

-- a character as it is shown: a space for a control
abbrev pub shown_char : ℕ → Option ℕ
shown_char c = if is_control c then Some 32 else if is_mark c then None else Some c

-- a text with a character behind it; no space begins a text
abbrev pub with_shown : List ℕ → Option ℕ → List ℕ
with_shown text None = text
with_shown text (Some c) = if (c == 32) && is_empty text then text else text ++ encode_utf8 c

abbrev pub with_char : List ℕ → ℕ → List ℕ
with_char text c = with_shown text (shown_char c)

-- the character of a byte in Windows-1252 (WHATWG Encoding, section 9), with U+FFFD in place of its five control characters
abbrev pub windows_1252 : ℕ → ℕ
windows_1252 b = if nat_lt b 128 || nat_le 160 b then b else slice_index UPPER (b - 128)

abbrev pub with_byte : List ℕ → ℕ → List ℕ
with_byte text b = with_char text (windows_1252 b)

-- a value in UTF-8, or otherwise in Windows-1252, as it is shown
unfoldable pub shown : List ℕ → List ℕ
shown value = if is_utf8 value then fold with_char [] (chars value) else fold with_byte [] value
