use Rattle.std.proofs.Common.{subst, sym}
use Rattle.toml.specs.View.{table_view}
use Rattle.node_site.specs.Valid.{IsSite}
use Rattle.node_site.proofs.HoldingsRead.{no_listing}
use Rattle.node_site.proofs.Valid.{site_is_valid}
use Rattle.node_site.proofs.site_file.SiteFile.of.Goals as goal

pub returns-clause-value : goal.returns-clause-value
returns-clause-value c = no_listing (table_view c.args.document)

pub returns-clause-valid : goal.returns-clause-valid
returns-clause-valid c =
    let doc = table_view c.args.document in
    subst IsSite (sym (no_listing doc)) (site_is_valid doc c.requires)
