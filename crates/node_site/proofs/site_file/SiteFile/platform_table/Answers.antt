use Rattle.std.proofs.Common.{ap, codes, if◌then◌else◌, length, nat_le, None, Option, ℕ, ◌∙◌}
use Rattle.toml.specs.View.{table_view}
use Rattle.node_site.specs.Indexes.{row_in}
use Rattle.node_site.specs.Lookups.{items_at}
use Rattle.node_site.specs.Site.{site_of}
use Rattle.node_site.proofs.PlatformRows.{platform_found}
use Rattle.node_site.proofs.site_file.SiteFile.platform_table.Goals as goal

pub returns : goal.returns
unfolding site_of
returns c =
    let fits = nat_le (length c.args.host.now) 253 in
    rw (← c.self.view_is) (platform_found (λ m. table_view m.now) c.row_in.result c.place_of_host.result
    (items_at (codes "platform") (table_view c.self.inside.document)) c.args.host.now fits
    (c.row_in.ensures ∙ ap (row_in c.place_of_host.result) c.items_at.ensures)
    (c.place_of_host.ensures ∙ ap (λ (o : Option ℕ). if fits then o else None) (c.self.invariant.1.platforms c.args.host.now)))
