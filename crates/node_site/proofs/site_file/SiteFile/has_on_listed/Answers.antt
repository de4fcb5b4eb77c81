use Rattle.std.proofs.Common.{◌≡◌, List, [], ℕ, Option, false, is_some, unwrap_or, subst, sym}
use Rattle.std.specs.List.{find}
use Rattle.node_site.specs.Held.{is_on_listed}
use Rattle.node_site.specs.HoldingsFiles.{rows_of}
use Rattle.node_site.proofs.OnListed.{none_listed}
use Rattle.node_site.proofs.site_file.SiteFile.has_on_listed.Goals as goal

pub returns-in-None : goal.returns-in-None
returns-in-None c =
    rw (← c.self.view_is) (subst (λ (o : Option (List ℕ)). false ≡ is_some (find (is_on_listed c.args.package_id.now) (rows_of (unwrap_or o []))))
    (sym c.in-None.is) (none_listed c.args.package_id.now))
