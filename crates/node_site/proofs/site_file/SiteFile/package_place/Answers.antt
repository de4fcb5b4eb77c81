use Rattle.std.proofs.Common.{ap, codes, sym, unwrap_or, ℕ, Option, ◌∙◌}
use Rattle.toml.specs.View.{table_view}
use Rattle.node_site.specs.Held.{is_package}
use Rattle.node_site.specs.Indexes.{count_in}
use Rattle.node_site.specs.Lookups.{items_at}
use Rattle.node_site.specs.Site.{site_of}
use Rattle.node_site.proofs.Valid.{place_in_file}
use Rattle.node_site.proofs.site_file.SiteFile.package_place.Goals as goal

pub returns-in-Some : goal.returns-in-Some
unfolding site_of
returns-in-Some c =
    rw (← c.self.view_is) (ap (λ (o : Option ℕ). unwrap_or o (count_in (items_at (codes "package") (table_view c.self.inside.document))))
    (sym c.in-Some.is ∙ c.get.ensures ∙ c.self.invariant.1.packages c.args.id.now)
    ∙ place_in_file (is_package c.args.id.now) (table_view c.self.inside.document) c.self.invariant.0)

pub returns-in-None : goal.returns-in-None
unfolding site_of
returns-in-None c =
    rw (← c.self.view_is) ((c.count_in.ensures ∙ ap count_in c.items_at.ensures)
    ∙ ap (λ (o : Option ℕ). unwrap_or o (count_in (items_at (codes "package") (table_view c.self.inside.document))))
    (sym c.in-None.is ∙ c.get.ensures ∙ c.self.invariant.1.packages c.args.id.now)
    ∙ place_in_file (is_package c.args.id.now) (table_view c.self.inside.document) c.self.invariant.0)
