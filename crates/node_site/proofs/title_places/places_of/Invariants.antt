use Rattle.std.proofs.Common.{◌≡◌, ℕ, List, drop}
use Rattle.std.specs.Option.{option_or}
use Rattle.toml.specs.View.{items_view}
use Rattle.node_site.specs.Held.{is_title}
use Rattle.node_site.specs.Indexes.{first_place, title_at}
use Rattle.node_site.specs.Site.{title_of}
use Rattle.node_site.proofs.title_places.places_of.Given as goal

-- each title has the place of its first table so far, or that of the first among those that are left
abbrev pub invariant-loop-index : goal.invariant-loop-index
invariant-loop-index l =
    (package_id id : List ℕ) → option_or (title_at package_id id l.places) (first_place title_of (is_title package_id id) l.index (items_view (drop l.index l.rows.items)))
    ≡ first_place title_of (is_title package_id id) 0 (items_view l.rows.items)
