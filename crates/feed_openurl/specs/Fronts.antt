-- How many bytes of one kind are at the front of a text.
use Rattle.std.specs.Prelude.{ℕ, Bool, ◌+◌, List, [], ◌∷◌, if◌then◌else◌}

abbrev pub front_len : (ℕ → Bool) → List ℕ → ℕ
front_len test [] = 0
front_len test (b ∷ bytes) = if test b then 1 + front_len test bytes else 0
