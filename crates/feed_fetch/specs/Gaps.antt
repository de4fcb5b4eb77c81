-- The gaps of a file that is stored in part, and how many requests they need.
use Rattle.std.specs.Prelude.{ℕ, zero, suc, ◌+◌, List, [], ◌∷◌, length, Option, is_none, if◌then◌else◌}
use Rattle.std.specs.Int.{div_ceil}
use Rattle.feed_names.specs.ReleaseName.{Name}
use Rattle.feed_model.specs.History.{History, kept}

-- the lengths of the gaps (runs of missing places) below a place, from the last to the first; behind it `run` more places
-- are missing. A gap of length 0 is none
abbrev pub gaps_below : (ℕ → Option ℕ) → ℕ → ℕ → List ℕ
gaps_below at zero run = run ∷ []
gaps_below at (suc place) run = if is_none (at place) then gaps_below at place (suc run) else run ∷ gaps_below at place 0

-- the requests for these gaps, each for at most `piece` places of one gap: the sum of the lengths divided by `piece`,
-- each rounded up
abbrev pub requests_for : ℕ → List ℕ → ℕ
requests_for piece [] = 0
requests_for piece (gap ∷ gaps) = div_ceil gap piece + requests_for piece gaps

-- the requests for the gaps of a file of a release
abbrev pub requests_of : Name → List ℕ → ℕ → History → ℕ
requests_of n file piece h = requests_for piece (gaps_below (kept h n) (length file) 0)
