-- Texts in UTF-8: a text that is not is taken for Windows-1252 (WHATWG Encoding, section 9), as older sources send it.
use Rattle.std.specs.Prelude.{ℕ, ◌-◌, nat_lt, List, if◌then◌else◌, slice_index}
use Rattle.std.specs.List.{flat_map}
use Rattle.std.specs.Char.{encode_utf8}
use Rattle.std.specs.Str.{is_utf8}
use Rattle.node_response.specs.declared.utf8.TheConstants.{UPPER}

-- the character of a byte in Windows-1252, with U+FFFD in place of its five control characters
abbrev pub windows_1252 : ℕ → ℕ
windows_1252 b = if nat_lt b 128 then b else slice_index UPPER (b - 128)

-- a text in Windows-1252, in UTF-8
abbrev pub from_windows_1252 : List ℕ → List ℕ
from_windows_1252 text = flat_map (λ b. encode_utf8 (windows_1252 b)) text

-- a text in UTF-8, or otherwise in Windows-1252, in UTF-8
unfoldable pub in_utf8 : List ℕ → List ℕ
in_utf8 text = if is_utf8 text then text else from_windows_1252 text
