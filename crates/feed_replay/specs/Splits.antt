-- A text is split at a byte.
use Rattle.std.specs.Prelude.{◌≡◌, ◌==◌, ℕ, List, [], ◌∷◌, ◌++◌, All, false, Option}
use Rattle.std.specs.Option.{option_map_or}

-- a text is the part in front and, behind the first such byte, the rest, if it has such a byte
pub record IsSplit (byte : ℕ) (text front : List ℕ) (rest : Option (List ℕ)) : Type 0 where
  pub joined : text ≡ front ++ option_map_or (λ after. byte ∷ after) rest []
  pub first : All (λ other. (other == byte) ≡ false) front
