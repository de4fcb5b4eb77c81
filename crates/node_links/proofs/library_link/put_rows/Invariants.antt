use Rattle.std.proofs.Common.{◌≡◌, ◌++◌, drop}
use Rattle.toml.specs.View.{items_view}
use Rattle.node_links.specs.LibraryLinks.{made_links}
use Rattle.node_site.specs.Site.{link_of, rows_of}
use Rattle.node_links.proofs.library_link.put_rows.Given as goal

-- the links so far and those of the rows that are left are those of all
abbrev pub invariant-loop-index : goal.invariant-loop-index
invariant-loop-index l =
    l.links.items ++ made_links l.asked.usage l.asked.outcome l.asked.cited.now (rows_of link_of (items_view (drop l.index l.rows.items)))
    ≡ l.fn.links.items ++ made_links l.asked.usage l.asked.outcome l.asked.cited.now (rows_of link_of (items_view l.rows.items))
