-- The range of a file to request next.
use Rattle.std.specs.Prelude.{◌≡◌, ◌<◌, ◌≤◌, ◌+◌, ℕ, suc, Option, Some, None, IsSome, ◌⊎◌}
use Rattle.feed_names.specs.ReleaseName.{Name}
use Rattle.feed_model.specs.History.{History, size_of, kept, IsHeld}

-- from the least missing place, as far as all places are missing, at most `max` places
pub record IsNext (has : ℕ → Option ℕ) (size max first last : ℕ) : Type 0 where
  pub order : first ≤ last
  pub within : last < size
  pub few : last < first + max
  pub before : (place : ℕ) → place < first → IsSome (has place)
  pub missing : (place : ℕ) → first ≤ place → place ≤ last → has place ≡ None
  pub greatest : suc last < first + max → suc last < size → IsSome (has (suc last))

-- no range exactly if `max` is 0 or nothing is missing
abbrev pub IsNextOf : (ℕ → Option ℕ) → ℕ → ℕ → Option (ℕ × ℕ) → Type 0
IsNextOf has size max None = (max ≡ 0) ⊎ ((place : ℕ) → place < size → IsSome (has place))
IsNextOf has size max (Some range) = IsNext has size max range.0 range.1

-- the next missing range of the file of a release that is held; none for any other release
abbrev pub IsNextRange : History → Name → ℕ → Option (ℕ × ℕ) → Type 0
IsNextRange h n max range =
    (¬ (IsHeld h n) × (range ≡ None))
    ⊎ (IsHeld h n × (size : ℕ) × (size_of h n ≡ Some size) × IsNextOf (kept h n) size max range)
