-- Cutting parts out of a piece.
use Rattle.std.specs.Prelude.{◌-◌, ℕ, if◌then◌else◌, nat_lt, List, [], ◌∷◌, take, drop}
use Rattle.feed_model.specs.Content.{Part}

-- the bytes of a piece at the places from `low` up to `high`
abbrev pub cut : ℕ → List ℕ → ℕ → ℕ → Part
cut first bytes low high = record { first = low; bytes = take (high - low) (drop (low - first) bytes) }

-- these as a part, if there are any
abbrev pub cuts : ℕ → List ℕ → ℕ → ℕ → List Part
cuts first bytes low high = if nat_lt low high then cut first bytes low high ∷ [] else []
