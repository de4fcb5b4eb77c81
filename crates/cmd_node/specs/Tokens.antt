-- The token that a file has (RFC 6750, section 2.1).
use Rattle.std.specs.Prelude.{◌==◌, ◌≤◌, ℕ, List, Option, All, IsTrue, length, not, take_while}
use Rattle.std.specs.Char.{is_ascii_graphic}
use Rattle.std.specs.Option.{SomeIff}
use Rattle.std.specs.Str.{IsTrimAsciiEnd}

-- how many bytes of a file are read for its token
abbrev pub token_reach : ℕ
token_reach = 65536

-- 16 to 4,096 bytes of visible ASCII, `!` to `~`
pub record IsToken (text : List ℕ) : Type 0 where
  pub least : 16 ≤ length text
  pub most : length text ≤ 4096
  pub visible : All (λ byte. IsTrue (is_ascii_graphic byte)) text

-- the first line of a text, without its end
abbrev pub first_line : List ℕ → List ℕ
first_line text = take_while (λ byte. not (byte == 10)) text

-- the first line without the white space at its end, if that is a token, and otherwise none
abbrev pub IsTokenOf : List ℕ → Option (List ℕ) → Type 0
IsTokenOf text token = (line : List ℕ) × IsTrimAsciiEnd (first_line text) line × SomeIff token (IsToken line) line
