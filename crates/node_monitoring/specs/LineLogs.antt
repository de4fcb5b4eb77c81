-- The lines of a log whose writer may fail.
use Rattle.std.specs.Prelude.{◌≡◌, ◌≤◌, ◌⊎◌, ◌-◌, ◌==◌, ◌++◌, ℕ, Bool, true, false, not, List, [], ◌∷◌, length, take, drop, count_by, Option}
use Rattle.std.specs.List.{slice_get}
use Rattle.std.specs.Option.{option_map_or}
use Rattle.std.specs.Io.KnownBytes.{Appends, Keeps}

-- the number of lines that end in a text
abbrev pub line_count : List ℕ → ℕ
line_count text = count_by (λ b. b == 10) text

-- the end of the line in which a log ends, if it ends inside one
abbrev pub end_of : Bool → List ℕ
end_of true = 10 ∷ []
end_of false = []

-- a text that begins with a line ends inside one: its last byte is not the end of a line
abbrev pub is_inside : List ℕ → Bool
is_inside text = option_map_or (λ b. not (b == 10)) (slice_get text (length text - 1)) false

-- all lines were written, behind the end of the line in which the log ended; `before` and `after` are whether it ends inside
-- one
abbrev pub AreWritten : List ℕ → Option (List ℕ) → Bool → Option (List ℕ) → Bool → Type 0
AreWritten lines old before new after = Appends old new (end_of before ++ lines) × (after ≡ is_inside lines)

-- nothing was written, so all lines are dropped
abbrev pub AreUnwritten : List ℕ → ℕ → Option (List ℕ) → Bool → Option (List ℕ) → Bool → Type 0
AreUnwritten lines dropped old before new after = Keeps old new × (after ≡ before) × (dropped ≡ line_count lines)

-- the first bytes of the lines were written, and the lines whose ends are not among them are dropped
pub record AreCut (lines : List ℕ) (dropped : ℕ) (old : Option (List ℕ)) (before : Bool) (new : Option (List ℕ)) (after : Bool) : Type 0 where
  pub count : ℕ
  pub within : count ≤ length lines
  pub written : Appends old new (end_of before ++ take count lines)
  pub ends : after ≡ is_inside (take count lines)
  pub rest : dropped ≡ line_count (drop count lines)

-- the writer failed, and this many lines are not whole in the log
abbrev pub AreDropped : List ℕ → ℕ → Option (List ℕ) → Bool → Option (List ℕ) → Bool → Type 0
AreDropped lines dropped old before new after =
    AreUnwritten lines dropped old before new after ⊎ AreCut lines dropped old before new after
