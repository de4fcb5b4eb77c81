use Rattle.std.proofs.Common.{◌≡◌, ◌∙◌, refl, sym}
use Rattle.node_sites.specs.declared.sites_reading.FilePhase.TheVariants.{Reading}
use Rattle.node_sites.specs.declared.sites_reading.SitesReading.{SitesReading}
use Rattle.node_sites.proofs.SitesTaken.{refused_from, step_taken}
use Rattle.node_sites.proofs.sites_reading.SitesReading.step.Goals as goal

pub returns-in-Ok-clause-taken : goal.returns-in-Ok-clause-taken
returns-in-Ok-clause-taken c files is =
    let old = c.args.self.now in
    let new : SitesReading = record { read = c.next_step.new.read; phase = c.in-Ok.phase; room = old.room } in
    let was : old.phase ≡ Reading c.in-Reading.site c.in-Reading.reading = sym c.replace.ensures.value ∙ c.in-Reading.is in
    step_taken old new old.read c.in-Reading.site c.in-Reading.reading c.in-Ok.phase files refl was refl c.in-Ok.ensures.next is

pub returns-in-Err-clause-refuses : goal.returns-in-Err-clause-refuses
returns-in-Err-clause-refuses c = record {
  next = refused_from c.args.self.now.read c.next_step.new.read c.refuse.new.self.read c.next_step.ensures.folder c.in-Err.ensures.place c.refuse.ensures.next;
  begins = c.refuse.ensures.begins;
}
