-- The hits of each search of a node are bounded, as those of any releases are.
use Rattle.std.proofs.Common.{◌≡◌, ◌∙◌, ℕ, List, [], ◌∷◌, ap, length, map, refl, subst}
use Rattle.std.specs.Prelude.{max}
use Rattle.feed_kbart.specs.RowValue.{RowValue}
use Rattle.feed_names.specs.ReleaseName.{Name}
use Rattle.feed_releases.specs.Actives.{ActiveValue}
use Rattle.node_hits.specs.Hits.{ReleaseHitValue}
use Rattle.node_hits.specs.Laws.{IsBounded, counts_of, found_in_all}
use Rattle.node_hits.specs.Looks.{FoundValue, open_places, release_found}
use Rattle.node_hits.specs.Searches.{SearchValue}
use Rattle.node_hits.specs.Shares.{having_rows, shares_of}
use Rattle.node_hits.specs.Tallies.{counted}
use Rattle.node_hits.specs.declared.shares.Shares.{Shares}
use Rattle.node_hits.proofs.SearchBounds.{search_is_bounded}
use Rattle.node_resolver.specs.Answers.{Sited, found_among, hits_among, release_in, row_counts}
use Rattle.node_resolver.specs.Laws.{EachSearchIsBounded}

abbrev lent : ActiveValue → Name × List RowValue
lent active = (active.name, active.holdings.rows)

map_twice : {X Y Z : Type 0} → (f : Y → Z) (g : X → Y) (xs : List X) → map f (map g xs) ≡ map (λ x. f (g x)) xs
map_twice {X} {Y} {Z} f g [] = refl
map_twice {X} {Y} {Z} f g (x ∷ xs) = ap (λ l. f (g x) ∷ l) (map_twice f g xs)

pub each_search_is_bounded : EachSearchIsBounded
each_search_is_bounded search actives =
    let releases : List (Name × List RowValue) = map lent actives.actives in
    let same : counts_of actives.library search releases ≡ row_counts actives.library search.query actives.actives =
    map_twice (λ release. length (open_places actives.library release.0 search.query release.1)) lent actives.actives in
    let found : found_in_all actives.library actives.today search releases ≡ found_among search actives =
    map_twice (λ release. release_found (shares_of (counts_of actives.library search releases)) actives.library actives.today search release.0 release.1) lent actives.actives
    ∙ ap (λ (counts : List ℕ). map (release_in (shares_of counts) actives.library actives.today search) actives.actives) same in
    subst (λ (founds : List FoundValue). IsBounded (max 5000 (having_rows (row_counts actives.library search.query actives.actives))) (counted founds)) found
    (subst (λ (counts : List ℕ). IsBounded (max 5000 (having_rows counts)) (counted (found_in_all actives.library actives.today search releases))) same
    (search_is_bounded actives.library actives.today search releases))
