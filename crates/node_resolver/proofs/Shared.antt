-- The rows of releases are counted one release after another.
use Rattle.std.proofs.Common.{◌≡◌, ◌≤◌, ◌<◌, ◌+◌, ◌-◌, ◌∙◌, ℕ, List, [], ◌∷◌, ap, drop, get_or, length, sym}
use Rattle.std.specs.Prelude.{sum, sum_by}
use Rattle.std.proofs.lemmas.List.{drop_all, drop_more}
use Rattle.std.proofs.lemmas.List.Sums.{sum_by-cons}
use Rattle.feed_answer.specs.QueryValue.{QueryValue}
use Rattle.feed_releases.specs.Actives.{ActiveValue}
use Rattle.node_site.specs.Site as site_file
use Rattle.node_hits.specs.Looks.{open_places}
use Rattle.node_resolver.specs.Answers.{row_counts}

module _ (site : site_file.SiteValue) (query : QueryValue) where
  abbrev pub count_in : ActiveValue → ℕ
  count_in active = length (open_places site active.name query active.holdings.rows)

  abbrev pub counts_from : ℕ → List ActiveValue → List ℕ
  counts_from i actives = row_counts site query (drop i actives)

  -- the counts from a release on
  pub counts_more : (actives : List ActiveValue) (i : ℕ) (active : ActiveValue) → i < length actives → active ≡ get_or actives i active
      → counts_from i actives ≡ count_in active ∷ counts_from (i + 1) actives
  counts_more actives i active below is =
      ap (row_counts site query) (drop_more actives i active below) ∙ ap (λ (a : ActiveValue). count_in a ∷ counts_from (i + 1) actives) (sym is)

  pub counts_none : (actives : List ActiveValue) (i : ℕ) → length actives ≤ i → counts_from i actives ≡ []
  counts_none actives i over = ap (row_counts site query) (drop_all i actives over)

  -- a sum over the counts from a release on
  pub sum_more : (f : ℕ → ℕ) (actives : List ActiveValue) (i : ℕ) (active : ActiveValue) → i < length actives → active ≡ get_or actives i active
      → sum_by f (counts_from i actives) ≡ f (count_in active) + sum_by f (counts_from (i + 1) actives)
  sum_more f actives i active below is =
      ap (sum_by f) (counts_more actives i active below is) ∙ sum_by-cons f (count_in active) (counts_from (i + 1) actives)

  pub sum_none : (f : ℕ → ℕ) (actives : List ActiveValue) (i : ℕ) → length actives ≤ i → sum_by f (counts_from i actives) ≡ 0
  sum_none f actives i over = ap (sum_by f) (counts_none actives i over)
