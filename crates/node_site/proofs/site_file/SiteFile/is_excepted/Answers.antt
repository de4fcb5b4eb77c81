use Rattle.toml.specs.View.{table_view}
use Rattle.node_site.specs.Site.{except_in, site_of, texts_in}
use Rattle.node_site.proofs.Valid.{site_is_valid}
use Rattle.node_site.proofs.site_file.SiteFile.is_excepted.Goals as goal

pub returns : goal.returns
unfolding site_of
returns c =
    let doc = table_view c.self.inside.document in
    rw (← c.self.view_is)
    (c.cover.ensures (texts_in (except_in doc)) (record { known = c.self.invariant.1.except; hosts = (site_is_valid doc c.self.invariant.0).except }))
