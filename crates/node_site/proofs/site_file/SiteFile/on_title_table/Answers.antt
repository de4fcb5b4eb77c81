use Rattle.std.proofs.Common.{ap, codes, ◌∙◌}
use Rattle.toml.specs.View.{table_view}
use Rattle.node_site.specs.Held.{is_on_title}
use Rattle.node_site.specs.Indexes.{row_in}
use Rattle.node_site.specs.Lookups.{items_at}
use Rattle.node_site.specs.Site.{site_of, title_of}
use Rattle.node_site.proofs.FirstRows.{found_table}
use Rattle.node_site.proofs.site_file.SiteFile.on_title_table.Goals as goal

pub returns : goal.returns
unfolding site_of
returns c =
    rw (← c.self.view_is) (found_table title_of (is_on_title c.args.package_id.now) (λ m. table_view m.now) c.row_in.result c.get.result
    (items_at (codes "title") (table_view c.self.inside.document)) (c.row_in.ensures ∙ ap (row_in c.get.result) c.items_at.ensures)
    (c.get.ensures ∙ c.self.invariant.1.on_titles c.args.package_id.now))
