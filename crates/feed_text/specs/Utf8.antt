-- Checking UTF-8 incrementally: the few bytes that decide it, whatever comes next.
use Rattle.std.specs.Prelude.{ℕ, ◌↔◌, List, ◌++◌, Option, None, Some, IsUtf8}

-- whatever comes next, the text is UTF-8 exactly if the kept bytes are
abbrev pub StandsFor : List ℕ → List ℕ → Type 0
StandsFor kept text = (next : List ℕ) → (IsUtf8 (text ++ next) ↔ IsUtf8 (kept ++ next))

-- whatever comes next, the text is not UTF-8
abbrev pub IsSpoiled : List ℕ → Type 0
IsSpoiled text = (next : List ℕ) → IsUtf8 (text ++ next) → ⊥

-- a check of a text either reports that the text is spoiled, or keeps bytes that stand for it
abbrev pub IsCheckOf : List ℕ → Option (List ℕ) → Type 0
IsCheckOf text None = IsSpoiled text
IsCheckOf text (Some kept) = StandsFor kept text
