-- The table about a platform, found by its host.
use Rattle.std.proofs.Common.{◌≡◌, ℕ, Bool, true, false, List, Option, Some, None, option_map, if◌then◌else◌, refl, ap, ◌∙◌}
use Rattle.std.specs.List.{find}
use Rattle.toml.specs.Data.{Items, Members}
use Rattle.node_site.specs.Indexes.{first_place_in, row_in}
use Rattle.node_site.specs.Platforms.{is_platform}
use Rattle.node_site.specs.Site.{platform_of, rows_in}
use Rattle.node_site.proofs.FirstRows.{found_table}

nothing : {T : Type 0} (members_of : T → Members) (table : Option T) → option_map members_of table ≡ None → option_map (λ t. platform_of (members_of t)) table ≡ None
nothing members_of None e = refl
nothing members_of (Some t) e = cc

-- the table at the place of a host is the one about it; a text that is too long for a host has no place
pub platform_found : {T : Type 0} (members_of : T → Members) (table : Option T) (place : Option ℕ) (rows : Option Items) (host : List ℕ) (b : Bool)
    → option_map members_of table ≡ row_in place rows → place ≡ (if b then first_place_in platform_of (is_platform host) rows else None)
    → option_map (λ t. platform_of (members_of t)) table ≡ (if b then find (is_platform host) (rows_in platform_of rows) else None)
platform_found members_of table place rows host true is first = found_table platform_of (is_platform host) members_of table place rows is first
platform_found members_of table place rows host false is first =
    nothing members_of table (is ∙ ap (λ (o : Option ℕ). row_in o rows) first)
