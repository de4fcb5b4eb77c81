-- The bytes of parts.
use Rattle.std.specs.Prelude.{◌++◌, ℕ, List, [], ◌∷◌, sum_by, length}
use Rattle.feed_model.specs.Content.{Part}

-- the number of bytes that the parts have
abbrev pub total_length : List Part → ℕ
total_length ps = sum_by (λ p. length p.bytes) ps

-- the bytes of the parts, one part after the other
abbrev pub joined : List Part → List ℕ
joined [] = []
joined (p ∷ ps) = p.bytes ++ joined ps
