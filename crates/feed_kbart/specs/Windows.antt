-- A text that is read in parts, cut before a line end.
use Rattle.std.specs.Prelude.{◌≡◌, ◌⊎◌, Bool, false, true, ◌∷◌, [], ℕ, List}
use Rattle.std.specs.List.{All}
use Rattle.feed_text.specs.Records.{ends_line}

-- whether a text begins with a line end
abbrev pub begins_with_end : List ℕ → Bool
begins_with_end [] = false
begins_with_end (b ∷ bytes) = ends_line b

-- a text is cut at its front, or before a line end
abbrev pub IsCut : List ℕ → List ℕ → Type 0
IsCut front back = (front ≡ []) ⊎ (begins_with_end back ≡ true)

-- the bytes have no line end
abbrev pub HasNoEnd : List ℕ → Type 0
HasNoEnd bytes = All (λ b. ends_line b ≡ false) bytes
