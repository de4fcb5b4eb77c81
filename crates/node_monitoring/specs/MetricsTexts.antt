-- The counts of a node.
use Rattle.std.specs.Prelude.{◌≡◌, ℕ, List}
use Rattle.node_monitoring.specs.Histograms.{HistogramValue}

-- the counts of the counters, of the requests and of the sites with these names, and the times
pub record MetricsValue : Type 0 where
  pub counters : List ℕ
  pub requests : List ℕ
  pub site_names : List (List ℕ)
  pub sites : List ℕ
  pub times : List HistogramValue

-- no request was counted by its site
abbrev pub KeepsSites : MetricsValue → MetricsValue → Type 0
KeepsSites old new = (new.site_names ≡ old.site_names) × (new.sites ≡ old.sites)
