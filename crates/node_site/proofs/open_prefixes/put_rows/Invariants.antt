use Rattle.std.proofs.Common.{◌≡◌, ◌++◌, drop}
use Rattle.std.specs.List.{filter_map}
use Rattle.toml.specs.View.{items_view}
use Rattle.node_site.specs.Proxies.{open_of_platform}
use Rattle.node_site.specs.Site.{platform_of, rows_of}
use Rattle.node_site.proofs.open_prefixes.put_rows.Given as goal

-- the prefixes so far and those of the rows that are left are those of all
abbrev pub invariant-loop-index : goal.invariant-loop-index
invariant-loop-index l =
    l.prefixes.items ++ filter_map open_of_platform (rows_of platform_of (items_view (drop l.index l.rows.items)))
    ≡ l.fn.prefixes.items ++ filter_map open_of_platform (rows_of platform_of (items_view l.rows.items))
