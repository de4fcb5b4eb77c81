use Rattle.std.proofs.Common.{rules, ◌≡◌, None, Some, refl}
use Rattle.node_request.specs.declared.sites_target.SitesRequest.TheVariants.{Reload}
use Rattle.node_machine.specs.NodeEvents.{SitesBegan}
use Rattle.node_machine.proofs.Later.{later_by}
use Rattle.node_machine.proofs.Reloads.{begun_sites}
use Rattle.node_machine.proofs.machine.NodeMachine.begin_sites.Goals as goal

pub returns-in-Some-Reload-clause-begun : goal.returns-in-Some-Reload-clause-begun
returns-in-Some-Reload-clause-begun g c = λ history is has.
    begun_sites g.S.FeedRespond.wanted g.S.FeedRespond.responses g.S.FeedRespond.sites c.args.self.now c.replace_sites.new.self c.args.sites None history is refl
    c.replace_sites.ensures.sites c.replace_sites.ensures.wanted c.replace_sites.ensures.responses has

pub returns-in-Some-Reload-clause-later : goal.returns-in-Some-Reload-clause-later
returns-in-Some-Reload-clause-later g c =
    let is : c.args.self.now.reload ≡ Some Reload = search rules in
    later_by g.S.FeedRespond.wanted g.S.FeedRespond.responses g.S.FeedRespond.sites (SitesBegan c.args.sites) _ _ refl
    (λ history has. returns-in-Some-Reload-clause-begun g c history is has)
