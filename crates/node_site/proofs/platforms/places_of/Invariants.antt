use Rattle.std.proofs.Common.{◌≡◌, ℕ, List, drop}
use Rattle.std.specs.Option.{option_or}
use Rattle.std.specs.Str.{str_to_ascii_lowercase}
use Rattle.toml.specs.View.{items_view}
use Rattle.node_site.specs.Indexes.{first_place, place_at}
use Rattle.node_site.specs.Platforms.{is_platform}
use Rattle.node_site.specs.Site.{platform_of}
use Rattle.node_site.proofs.platforms.places_of.Given as goal

-- each host has the place of its first table so far, or that of the first among those that are left
abbrev pub invariant-loop-index : goal.invariant-loop-index
invariant-loop-index l =
    (host : List ℕ)
    → option_or (place_at (str_to_ascii_lowercase host) l.places) (first_place platform_of (is_platform host) l.index (items_view (drop l.index l.rows.items)))
    ≡ first_place platform_of (is_platform host) 0 (items_view l.rows.items)
