-- Bytes of ASCII that stand for themselves in a page.
use Rattle.std.specs.Prelude.{ℕ, ◌==◌, ◌||◌, not, nat_lt, Bool, if◌then◌else◌}
use Rattle.node_response.specs.Escapes.{is_markup}

abbrev pub is_plain : ℕ → Bool
is_plain b = if nat_lt 62 b then nat_lt b 127 else not (is_markup b || ((b == 38) || nat_lt b 32))
