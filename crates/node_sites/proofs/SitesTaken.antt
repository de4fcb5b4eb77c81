-- A reading of the site files of a folder takes one file after the other.
use Rattle.std.proofs.Common.{◌≡◌, ◌∙◌, inl, inr, ℕ, Bool, true, false, List, ◌∷◌, Option, None, Some, Result, Ok, Err, OnOk, length, refl, sym, ap, subst, arith}
use Rattle.node_site.specs.declared.sites.SitesFault.{SitesFault}
use Rattle.node_site.specs.ReadingValue.{ReadingValue}
use Rattle.node_response.specs.Tags.{SiteValue, with_listing}
use Rattle.node_sites.specs.declared.sites_read.SitesFolder.{SitesFolder}
use Rattle.node_sites.specs.declared.sites_read.SitesRead.{SitesRead}
use Rattle.node_sites.specs.declared.sites_reading.FilePhase.{FilePhase}
use Rattle.node_sites.specs.declared.sites_reading.FilePhase.TheVariants as phase
use Rattle.node_sites.specs.declared.sites_reading.SitesReading.{SitesReading}
use Rattle.node_sites.specs.declared.node_sites.NamedSite.{NamedSite}
use Rattle.node_sites.specs.declared.node_sites.NodeSites.{NodeSites}
use Rattle.node_sites.specs.NodeSites.{AddsNamed, SetsOtherNamed}
use Rattle.node_sites.specs.SitesReadings.{AddsNext, AddsSiteOf, IsAdded, file_name, is_for_others, AreNamed, AreSitesOf, FileText, HasRead, IsSiteOfFile, RefusesNext, name_at}
use Rattle.node_sites.specs.SitesSteps.{IsAfterSite, IsAfterStep, IsAfterStepIn, IsFileRead, IsFilePhase, IsFurther}
use Rattle.node_sites.specs.SitesSteps.{IsNamedBy, IsNaming, IsReadingOf, IsSiteNext, IsStepNext, WaitsForHoldings, WaitsIn}

-- what holds if a call succeeds, and what follows from it
pub on_ok : {A B : Type 0} (r : Result Unit SitesFault) → (A → B) → OnOk r A → OnOk r B
on_ok (Ok x) f h = f h
on_ok (Err e) f h = h

-- the site is added for its host, or for all others
pub own_site_added : (old new : NodeSites) (name : List ℕ) (named : NamedSite) → named.name.items ≡ file_name name → is_for_others name ≡ false → AddsNamed old name named new
    → AddsSiteOf old name named.site new
own_site_added old new name named is_name own adds =
    record { named = named; is_name = is_name; is_site = refl; added = subst (λ (b : Bool). IsAdded b old name named new) (sym own) adds }

pub other_site_added : (old new : NodeSites) (name : List ℕ) (named : NamedSite) → named.name.items ≡ file_name name → is_for_others name ≡ true → SetsOtherNamed old named new
    → AddsSiteOf old name named.site new
other_site_added old new name named is_name own sets =
    record { named = named; is_name = is_name; is_site = refl; added = subst (λ (b : Bool). IsAdded b old name named new) (sym own) sets }

-- the file whose site is added is the next one that is read
next_file : (old new : SitesRead) (files : List FileText) (bytes : List ℕ) (holdings : Option (List ℕ)) (site : SiteValue) → HasRead old files
    → IsSiteOfFile old.folder bytes holdings site → (adds : AddsNext old site new) → HasRead new (record { name = adds.name; bytes = bytes; holdings = holdings } ∷ files)
next_file old new files bytes holdings site has of_file adds = record {
  is_fine = adds.refused ∙ has.is_fine;
  place = omega (arith, adds.place, has.place);
  names = subst (λ (folder : SitesFolder). AreNamed folder (file ∷ files)) (sym adds.folder) (name, has.names);
  sites = subst (λ (folder : SitesFolder). AreSitesOf folder (file ∷ files) new.sites) (sym adds.folder) (old.sites, site, has.sites, of_file, adds.sites);
}
  where
    file : FileText
    file = record { name = adds.name; bytes = bytes; holdings = holdings }

    name : name_at old.folder (length files) ≡ Some adds.name
    name = ap (name_at old.folder) (sym has.place) ∙ adds.is_name

-- after it nothing is read of the next one
pub file_read : (old new : SitesReading) (before : SitesRead) (files : List FileText) (bytes : List ℕ) (holdings : Option (List ℕ)) (site : SiteValue) → IsReadingOf old files
    → before ≡ old.read → IsSiteOfFile before.folder bytes holdings site → AddsNext before site new.read → new.phase ≡ phase.Begin → IsFileRead files bytes holdings new
file_read old new before files bytes holdings site is same of_file adds begins = record {
  file = record { name = adds.name; bytes = bytes; holdings = holdings };
  bytes_are = refl;
  holdings_are = refl;
  is_reading = record {
    has_read = next_file before new.read files bytes holdings site (subst (λ (read : SitesRead). HasRead read files) (sym same) is.has_read) of_file adds;
    is_phase = subst (IsFilePhase new.read.folder) (sym begins) tt;
  };
}

-- the same files are read
pub same_files : (old new : SitesReading) (files : List FileText) → IsReadingOf old files → new.read ≡ old.read → IsFilePhase old.read.folder new.phase → IsReadingOf new files
same_files old new files is same now = record {
  has_read = subst (λ (read : SitesRead). HasRead read files) (sym same) is.has_read;
  is_phase = subst (λ (read : SitesRead). IsFilePhase read.folder new.phase) (sym same) now;
}

pub site_taken : (old new : SitesReading) (before : SitesRead) (bytes : List ℕ) (next : FilePhase) (files : List FileText) → before ≡ old.read → new.phase ≡ next
    → IsSiteNext before bytes new.read next → IsReadingOf old files → IsAfterSite files bytes new
site_taken old new before bytes phase.Begin files same now leads is = inl (file_read old new before files bytes None leads.0 is same leads.1 leads.2 now)
site_taken old new before bytes (phase.Named site) files same now leads is =
    let naming : IsNaming old.read.folder bytes site = subst (λ (read : SitesRead). IsNaming read.folder bytes site) same leads.1 in
    let own : IsNaming old.read.folder site.file site = subst (λ (b : List ℕ). IsNaming old.read.folder b site) (sym naming.is_read.same_file) naming in
    inr (
      same_files old new files is (leads.0 ∙ same) (subst (IsFilePhase old.read.folder) (sym now) own),
      subst (IsNamedBy bytes) (sym now) naming.is_read.same_file,
    )
site_taken old new before bytes (phase.Reading site reading) files same now leads is = absurd leads

pub step_taken : (old new : SitesReading) (before : SitesRead) (site : SiteValue) (reading : ReadingValue) (next : FilePhase) (files : List FileText) → before ≡ old.read
    → old.phase ≡ phase.Reading site reading → new.phase ≡ next → IsStepNext before site reading new.read next → IsReadingOf old files → IsAfterStep files old new
step_taken old new before site reading next files same was now leads is =
    subst (λ (p : FilePhase). IsAfterStepIn files p new) (sym was) (by_phase next now leads)
  where
    own : IsNaming old.read.folder site.file site
    own = subst (IsFilePhase old.read.folder) was is.is_phase

    by_phase : (p : FilePhase) → new.phase ≡ p → IsStepNext before site reading new.read p → IsAfterStepIn files (phase.Reading site reading) new
    by_phase phase.Begin now leads =
        let naming : IsNaming before.folder site.file site = subst (λ (read : SitesRead). IsNaming read.folder site.file site) (sym same) own in
        let of_file : IsSiteOfFile before.folder site.file (Some reading.text) (with_listing reading.text site) =
        record { bare = site; is_read = naming.is_read; has = (naming.names, leads.0, refl) } in
        inl (file_read old new before files site.file (Some reading.text) (with_listing reading.text site) is same of_file leads.1 now)
    by_phase (phase.Named other) now leads = absurd leads
    by_phase (phase.Reading other further) now leads =
        let still : IsNaming old.read.folder other.file other = subst (λ (s : SiteValue). IsNaming old.read.folder s.file s) (sym leads.1) own in
        inr (
          same_files old new files is (leads.0 ∙ same) (subst (IsFilePhase old.read.folder) (sym now) still),
          subst (IsFurther site reading) (sym now) (leads.1, leads.2, leads.3),
        )

-- a site waits for its holdings file only in one phase
pub none_waits : (reading : SitesReading) → ((site : SiteValue) → reading.phase ≡ phase.Named site → ⊥) → WaitsForHoldings reading → ⊥
none_waits reading other waits = by_phase reading.phase refl waits
  where
    by_phase : (p : FilePhase) → reading.phase ≡ p → WaitsIn p → ⊥
    by_phase phase.Begin is waits = waits
    by_phase (phase.Named site) is waits = other site is
    by_phase (phase.Reading site further) is waits = waits

-- a refusal behind what left the folder and the place as they were
pub refused_from : (old before new : SitesRead) → before.folder ≡ old.folder → before.place ≡ old.place → RefusesNext before new → RefusesNext old new
refused_from old before new folder place refuses = record {
  is_refused = refuses.is_refused;
  folder = refuses.folder ∙ folder;
  passes = λ more. omega (arith, place, refuses.passes (omega (arith, more, place, ap (λ (f : SitesFolder). length f.names.items) folder)));
}
