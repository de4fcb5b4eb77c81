use Rattle.std.proofs.Common.{◌≡◌, ℕ, List, drop}
use Rattle.std.specs.Option.{option_or}
use Rattle.toml.specs.View.{items_view}
use Rattle.node_site.specs.Held.{is_on_title}
use Rattle.node_site.specs.Indexes.{first_place, place_at}
use Rattle.node_site.specs.Site.{title_of}
use Rattle.node_site.proofs.on_titles.places_of.Given as goal

-- each package has the place of the first table so far that switches a title of it on, or that of the first among those that are left
abbrev pub invariant-loop-index : goal.invariant-loop-index
invariant-loop-index l =
    (id : List ℕ) → option_or (place_at id l.places) (first_place title_of (is_on_title id) l.index (items_view (drop l.index l.rows.items)))
    ≡ first_place title_of (is_on_title id) 0 (items_view l.rows.items)
