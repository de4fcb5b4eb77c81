use Rattle.std.proofs.Common.{◌∙◌}
use Rattle.node_sites.proofs.SitesTaken.{none_waits}
use Rattle.node_sites.proofs.sites_reading.SitesReading.take_holdings.Goals as goal

pub returns-in_default-clause-room : goal.returns-in_default-clause-room
returns-in_default-clause-room c waits =
    absurd (none_waits c.args.self.now (λ site is. c.in_default.not-Named site (c.replace.ensures.value ∙ is)) waits)
