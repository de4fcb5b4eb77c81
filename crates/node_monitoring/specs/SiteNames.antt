-- The sites of a node by their places, with the names of their files.
use Rattle.std.specs.Prelude.{ℕ, nat_lt, if◌then◌else◌, List, [], ◌∷◌, length, Option, Some, None}
use Rattle.feed_metrics.specs.Rows.{name_at}
use Rattle.node_monitoring.specs.Counts.{Added}

-- the name of a site, or nothing
abbrev pub site_name : List (List ℕ) → Option ℕ → List ℕ
site_name names None = []
site_name names (Some k) = name_at names k

-- one more request to a site that has a name
abbrev pub site_added : List (List ℕ) → Option ℕ → List Added
site_added names None = []
site_added names (Some k) = if nat_lt k (length names) then (record { place = k; amount = 1 }) ∷ [] else []
