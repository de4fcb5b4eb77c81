-- Trimming the spaces of a text.
use Rattle.std.specs.Prelude.{ℕ, ◌==◌, List, [], ◌∷◌, if◌then◌else◌, reverse, not, Bool}

-- a text without the spaces at its front
abbrev pub skip_spaces : List ℕ → List ℕ
skip_spaces [] = []
skip_spaces (b ∷ bytes) = if b == 32 then skip_spaces bytes else b ∷ bytes

-- a text without the spaces at its back
abbrev pub trimmed_back : List ℕ → List ℕ
trimmed_back text = reverse (skip_spaces (reverse text))

-- a text without the spaces at both ends
abbrev pub trimmed : List ℕ → List ℕ
trimmed text = trimmed_back (skip_spaces text)

-- whether a character is something other than a hyphen
abbrev pub is_no_hyphen : ℕ → Bool
is_no_hyphen b = not (b == 45)
