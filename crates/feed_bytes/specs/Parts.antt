-- The parts of a text that a byte separates.
use Rattle.std.specs.Prelude.{◌≡◌, ◌<◌, ◌==◌, ℕ, List, [], ◌∷◌, length}
use Rattle.std.specs.List.{slice_split}

-- the parts that such bytes separate
abbrev pub parts_at : ℕ → List ℕ → List (List ℕ)
parts_at byte text = slice_split (λ other. other == byte) text

-- the first part, and the text after the byte that ends it
pub record IsFirstPart (byte : ℕ) (text part rest : List ℕ) : Type 0 where
  pub parts : parts_at byte text ≡ part ∷ parts_at byte rest
  pub less : length rest < length text

-- the text has no such byte
abbrev pub IsOnePart : ℕ → List ℕ → Type 0
IsOnePart byte text = parts_at byte text ≡ text ∷ []
