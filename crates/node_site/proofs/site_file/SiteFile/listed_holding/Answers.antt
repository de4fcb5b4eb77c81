use Rattle.std.proofs.Common.{◌≡◌, List, [], ℕ, Option, None, unwrap_or, subst, sym}
use Rattle.node_site.specs.Held.{title_holding}
use Rattle.node_site.specs.HoldingsFiles.{rows_of}
use Rattle.node_site.proofs.HoldingsRead.{nothing_found}
use Rattle.node_site.proofs.site_file.SiteFile.listed_holding.Goals as goal

pub returns-in-None : goal.returns-in-None
returns-in-None c =
    rw (← c.self.view_is) (subst (λ (o : Option (List ℕ)). None ≡ title_holding c.args.package_id.now c.args.id.now (rows_of (unwrap_or o []))) (sym c.in-None.is)
    (nothing_found c.args.package_id.now c.args.id.now))
