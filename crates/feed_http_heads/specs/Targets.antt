-- The target of a request (RFC 9112, section 3.2).
use Rattle.std.specs.Prelude.{ℕ, ◌==◌, if◌then◌else◌, List, [], codes, drop, take, position, Option, Some, None}
use Rattle.std.specs.Option.{option_map_or}
use Rattle.std.specs.Str.{str_eq_ignore_ascii_case}

-- the byte `/`
abbrev pub slash : ℕ
slash = 47

-- the text from its first slash on
abbrev pub from_slash : List ℕ → List ℕ
from_slash text = option_map_or (λ place. drop place text) (position (λ byte. byte == slash) text) []

-- the text after a leading `http://`, ignoring case
abbrev pub after_scheme : List ℕ → Option (List ℕ)
after_scheme target = if str_eq_ignore_ascii_case (take 7 target) (codes "http://") then Some (drop 7 target) else None

-- a target from its path on, without a leading `http://` and host
abbrev pub origin_form : List ℕ → List ℕ
origin_form target = option_map_or from_slash (after_scheme target) target
