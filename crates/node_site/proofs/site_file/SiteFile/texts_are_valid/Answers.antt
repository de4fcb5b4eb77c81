use Rattle.std.proofs.Common.{[], unwrap_or}
use Rattle.toml.specs.View.{table_view}
use Rattle.node_site.specs.Site.{site_of}
use Rattle.node_site.proofs.Valid.{listed_is_valid, site_is_valid}
use Rattle.node_site.proofs.site_file.SiteFile.texts_are_valid.Goals as goal

pub returns : goal.returns
returns c =
    let doc = table_view c.self.inside.document in
    rw (← c.self.view_is) (listed_is_valid (unwrap_or c.self.inside.listing []) (site_of doc) (site_is_valid doc c.self.invariant.0))
