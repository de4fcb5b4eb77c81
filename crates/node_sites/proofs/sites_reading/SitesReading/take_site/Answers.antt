use Rattle.std.proofs.Common.{◌∙◌, ap, refl}
use Rattle.node_sites.specs.declared.sites_read.SitesRead.{SitesRead}
use Rattle.node_sites.specs.declared.sites_reading.SitesReading.{SitesReading}
use Rattle.node_sites.proofs.SitesTaken.{refused_from, site_taken}
use Rattle.node_sites.proofs.sites_reading.SitesReading.take_site.Goals as goal

pub returns-in-Ok-clause-taken : goal.returns-in-Ok-clause-taken
returns-in-Ok-clause-taken c files is =
    let new : SitesReading = record { read = c.next_site.new.read; phase = c.in-Ok.phase; room = c.count.new.self.room } in
    site_taken c.args.self.now new c.count.new.self.read c.args.bytes.items c.in-Ok.phase files c.count.ensures.read refl c.in-Ok.ensures.next is

pub returns-in-Err-clause-refuses : goal.returns-in-Err-clause-refuses
returns-in-Err-clause-refuses c =
    let folder = c.next_site.ensures.folder ∙ ap (λ (read : SitesRead). read.folder) c.count.ensures.read in
    let place = c.in-Err.ensures.place ∙ ap (λ (read : SitesRead). read.place) c.count.ensures.read in
    record {
      next = refused_from c.args.self.now.read c.next_site.new.read c.refuse-in-Err.new.self.read folder place c.refuse-in-Err.ensures.next;
      begins = c.refuse-in-Err.ensures.begins;
    }
