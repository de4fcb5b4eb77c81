-- The steps of the reading of a folder's site files.
use Rattle.std.specs.Prelude.{◌≡◌, ◌⊎◌, ◌<◌, ◌≤◌, ℕ, Bool, true, List, ◌∷◌, length, max, Option, None, Some, is_some}
use Rattle.node_site.specs.HoldingsFaults.{IsHoldingsFault, IsHoldingsFile}
use Rattle.node_site.specs.ReadingValue.{ReadingValue}
use Rattle.node_site.specs.Reading.{IsSiteFault}
use Rattle.node_response.specs.Tags.{IsSiteWith, SiteValue, with_listing}
use Rattle.node_sites.specs.declared.node_sites.NodeSites.{NodeSites}
use Rattle.node_sites.specs.declared.sites_read.SitesFolder.{SitesFolder}
use Rattle.node_sites.specs.declared.sites_read.SitesRead.{SitesRead}
use Rattle.node_sites.specs.declared.sites_reading.FileFault.{FileFault}
use Rattle.node_sites.specs.declared.sites_reading.FileFault.TheVariants as fault
use Rattle.node_sites.specs.declared.sites_reading.FilePhase.{FilePhase}
use Rattle.node_sites.specs.declared.sites_reading.FilePhase.TheVariants as phase
use Rattle.node_sites.specs.declared.sites_reading.Need.{Need}
use Rattle.node_sites.specs.declared.sites_reading.Need.TheVariants as need
use Rattle.node_sites.specs.declared.sites_reading.SitesReading.{SitesReading}
use Rattle.node_sites.specs.SitesReadings.{AddsNext, AreNamed, AreSitesOf, FileText, HasRead, IsNextFault, IsSiteOfFile, RefusesNext, name_at}

-- the site of a site file of a folder, before its holdings file is read
pub record IsNaming (folder : SitesFolder) (bytes : List ℕ) (site : SiteValue) : Type 0 where
  pub is_read : IsSiteWith folder.version.items folder.max_age bytes site
  pub names : is_some site.library.holdings ≡ true

abbrev pub IsFilePhase : SitesFolder → FilePhase → Type 0
IsFilePhase folder phase.Begin = Unit {0}
IsFilePhase folder (phase.Named site) = IsNaming folder site.file site
IsFilePhase folder (phase.Reading site reading) = IsNaming folder site.file site

-- some files are the first ones of a folder, and all that was read of it but for the next file; none is refused
pub record IsReadingOf (reading : SitesReading) (files : List FileText) : Type 0 where
  pub has_read : HasRead reading.read files
  pub is_phase : IsFilePhase reading.read.folder reading.phase

-- the folder that is read, how many more bytes its files may have, and whether a file was refused
abbrev pub folder_of : SitesReading → SitesFolder
folder_of reading = reading.read.folder

abbrev pub room_of : SitesReading → ℕ
room_of reading = reading.room

abbrev pub is_refused : SitesReading → Bool
is_refused reading = reading.read.is_refused

-- what is needed next
abbrev pub IsNeedAt : FilePhase → Option (List ℕ) → Need → Type 0
IsNeedAt phase.Begin name (need.Site text) = name ≡ Some text.now
IsNeedAt phase.Begin name need.Nothing = name ≡ None
IsNeedAt phase.Begin name (need.Holdings text) = ⊥
IsNeedAt phase.Begin name need.Step = ⊥
IsNeedAt (phase.Named site) name (need.Holdings text) = site.library.holdings ≡ Some text.now
IsNeedAt (phase.Named site) name need.Nothing = site.library.holdings ≡ None
IsNeedAt (phase.Named site) name (need.Site text) = ⊥
IsNeedAt (phase.Named site) name need.Step = ⊥
IsNeedAt (phase.Reading site reading) name need.Step = Unit {0}
IsNeedAt (phase.Reading site reading) name need.Nothing = ⊥
IsNeedAt (phase.Reading site reading) name (need.Site text) = ⊥
IsNeedAt (phase.Reading site reading) name (need.Holdings text) = ⊥

abbrev pub IsNeed : SitesReading → Need → Type 0
IsNeed reading wanted = IsNeedAt reading.phase (name_at reading.read.folder reading.read.place) wanted

-- a site file leads to its site, which is added unless it names a holdings file
abbrev pub IsSiteNext : SitesRead → List ℕ → SitesRead → FilePhase → Type 0
IsSiteNext old bytes new phase.Begin = (site : SiteValue) × IsSiteOfFile old.folder bytes None site × AddsNext old site new
IsSiteNext old bytes new (phase.Named site) = (new ≡ old) × IsNaming old.folder bytes site
IsSiteNext old bytes new (phase.Reading site reading) = ⊥

-- why it is refused
abbrev pub IsSiteRefusal : SitesRead → List ℕ → FileFault → Type 0
IsSiteRefusal read bytes (fault.Site reason) = IsSiteFault bytes reason
IsSiteRefusal read bytes (fault.Host reason) = IsNextFault read reason
IsSiteRefusal read bytes (fault.Holdings reason) = ⊥
IsSiteRefusal read bytes fault.TooLong = ⊥

-- more of the holdings file of a site is read, or the site is added with it
abbrev pub IsStepNext : SitesRead → SiteValue → ReadingValue → SitesRead → FilePhase → Type 0
IsStepNext old site reading new phase.Begin = IsHoldingsFile reading.text × AddsNext old (with_listing reading.text site) new
IsStepNext old site reading new (phase.Named other) = ⊥
IsStepNext old site reading new (phase.Reading same next) =
    (new ≡ old) × (same ≡ site) × (next.text ≡ reading.text) × (next.left < reading.left)

-- why it is refused
abbrev pub IsStepRefusal : SitesRead → List ℕ → FileFault → Type 0
IsStepRefusal read text (fault.Holdings reason) = IsHoldingsFault text reason
IsStepRefusal read text (fault.Host reason) = IsNextFault read reason
IsStepRefusal read text (fault.Site reason) = ⊥
IsStepRefusal read text fault.TooLong = ⊥

-- why a site file of a size is refused that begins with these bytes, or a holdings file, or a step
abbrev pub IsTooLong : SitesReading → ℕ → List ℕ → Type 0
IsTooLong reading size bytes = room_of reading < max size (length bytes)

abbrev pub IsSiteFileFault : SitesReading → ℕ → List ℕ → FileFault → Type 0
IsSiteFileFault reading size bytes fault.TooLong = IsTooLong reading size bytes
IsSiteFileFault reading size bytes (fault.Site reason) = IsSiteRefusal reading.read bytes (fault.Site reason)
IsSiteFileFault reading size bytes (fault.Host reason) = IsSiteRefusal reading.read bytes (fault.Host reason)
IsSiteFileFault reading size bytes (fault.Holdings reason) = ⊥

abbrev pub IsHoldingsFileFault : SitesReading → ℕ → List ℕ → FileFault → Type 0
IsHoldingsFileFault reading size bytes fault.TooLong = IsTooLong reading size bytes
IsHoldingsFileFault reading size bytes (fault.Holdings reason) = IsHoldingsFault bytes reason
IsHoldingsFileFault reading size bytes (fault.Site reason) = ⊥
IsHoldingsFileFault reading size bytes (fault.Host reason) = ⊥

abbrev pub IsStepFaultAt : SitesRead → FilePhase → FileFault → Type 0
IsStepFaultAt read (phase.Reading site reading) reason = IsStepRefusal read reading.text reason
IsStepFaultAt read phase.Begin reason = ⊥
IsStepFaultAt read (phase.Named site) reason = ⊥

abbrev pub IsStepFault : SitesReading → FileFault → Type 0
IsStepFault reading reason = IsStepFaultAt reading.read reading.phase reason

-- a site file has these bytes, and its site waits for a holdings file
abbrev pub IsNamedBy : List ℕ → FilePhase → Type 0
IsNamedBy bytes (phase.Named site) = site.file ≡ bytes
IsNamedBy bytes phase.Begin = ⊥
IsNamedBy bytes (phase.Reading site reading) = ⊥

-- this text is read as the holdings file of a site, with fewer steps left than this
abbrev pub IsBegun : SiteValue → List ℕ → FilePhase → Type 0
IsBegun site text (phase.Reading same reading) = (same ≡ site) × (reading.text ≡ text)
IsBegun site text phase.Begin = ⊥
IsBegun site text (phase.Named other) = ⊥

abbrev pub IsFurther : SiteValue → ReadingValue → FilePhase → Type 0
IsFurther site before (phase.Reading same reading) = (same ≡ site) × (reading.text ≡ before.text) × (reading.left < before.left)
IsFurther site before phase.Begin = ⊥
IsFurther site before (phase.Named other) = ⊥

-- a further file with these bytes and this holdings file is read
pub record IsFileRead (files : List FileText) (bytes : List ℕ) (holdings : Option (List ℕ)) (new : SitesReading) : Type 0 where
  pub file : FileText
  pub bytes_are : file.bytes ≡ bytes
  pub holdings_are : file.holdings ≡ holdings
  pub is_reading : IsReadingOf new (file ∷ files)

-- after a site file, a holdings file and a step
abbrev pub IsAfterSite : List FileText → List ℕ → SitesReading → Type 0
IsAfterSite files bytes new = IsFileRead files bytes None new ⊎ (IsReadingOf new files × IsNamedBy bytes new.phase)

abbrev pub IsAfterHoldingsIn : List FileText → FilePhase → List ℕ → SitesReading → Type 0
IsAfterHoldingsIn files (phase.Named site) bytes new = IsReadingOf new files × IsBegun site bytes new.phase
IsAfterHoldingsIn files phase.Begin bytes new = IsReadingOf new files
IsAfterHoldingsIn files (phase.Reading site reading) bytes new = IsReadingOf new files

abbrev pub IsAfterHoldings : List FileText → SitesReading → List ℕ → SitesReading → Type 0
IsAfterHoldings files old bytes new = IsAfterHoldingsIn files old.phase bytes new

abbrev pub IsAfterStepIn : List FileText → FilePhase → SitesReading → Type 0
IsAfterStepIn files (phase.Reading site reading) new =
    IsFileRead files site.file (Some reading.text) new ⊎ (IsReadingOf new files × IsFurther site reading new.phase)
IsAfterStepIn files phase.Begin new = IsReadingOf new files
IsAfterStepIn files (phase.Named site) new = IsReadingOf new files

abbrev pub IsAfterStep : List FileText → SitesReading → SitesReading → Type 0
IsAfterStep files old new = IsAfterStepIn files old.phase new

-- a holdings file is needed
abbrev pub WaitsIn : FilePhase → Type 0
WaitsIn (phase.Named site) = Unit {0}
WaitsIn phase.Begin = ⊥
WaitsIn (phase.Reading site reading) = ⊥

abbrev pub WaitsForHoldings : SitesReading → Type 0
WaitsForHoldings reading = WaitsIn reading.phase

-- the files are of the same folder, and a refused one stays refused
pub record KeepsFolder (old new : SitesReading) : Type 0 where
  pub folder : folder_of new ≡ folder_of old
  pub stays : is_refused old ≡ true → is_refused new ≡ true

-- the next file is refused, and with it the folder; then the one behind it is needed
pub record Refuses (old new : SitesReading) : Type 0 where
  pub next : RefusesNext old.read new.read
  pub begins : new.phase ≡ phase.Begin

-- a file is refused, or a file is left
abbrev pub IsUnfinished : SitesReading → Type 0
IsUnfinished reading = (is_refused reading ≡ true) ⊎ (reading.read.place < length (folder_of reading).names.items)

-- these are all files of a folder, and the sites are theirs
pub record AreSitesOfAll (folder : SitesFolder) (files : List FileText) (sites : NodeSites) : Type 0 where
  pub names : AreNamed folder files
  pub all : length folder.names.items ≤ length files
  pub sites_are : AreSitesOf folder files sites
