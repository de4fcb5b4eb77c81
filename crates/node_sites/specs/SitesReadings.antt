-- The reading of the site files of a folder, with the holdings files that they name.
use Rattle.std.specs.Prelude.{◌≡◌, ◌⊎◌, ◌<◌, ◌+◌, ℕ, Bool, true, false, List, [], ◌∷◌, ◌++◌, length, codes, slice_get, Option, None, Some, is_some, option_map, string_bytes}
use Rattle.std.specs.Str.{bytes_eq}
use Rattle.std.specs.Global.{Global}
use Rattle.std.specs.declared.string.String.{String}
use Rattle.node_site.specs.declared.sites.SitesFault.{SitesFault}
use Rattle.node_site.specs.declared.sites.SitesFault.TheVariants as host
use Rattle.node_site.specs.HoldingsFaults.{IsHoldingsFile}
use Rattle.node_site.specs.Sites.{other_site, own_site}
use Rattle.node_response.specs.Tags.{IsSiteWith, SiteValue, with_listing}
use Rattle.node_sites.specs.declared.node_sites.NamedSite.{NamedSite}
use Rattle.node_sites.specs.declared.node_sites.NodeSites.{NodeSites}
use Rattle.node_sites.specs.declared.sites_read.SitesFolder.{SitesFolder}
use Rattle.node_sites.specs.declared.sites_read.SitesRead.{SitesRead}
use Rattle.node_sites.specs.NodeSites.{AddsNamed, IsAddFault, SetsOtherNamed}

-- the most bytes of all files of a folder: 256 MiB
abbrev pub folder_limit : ℕ
folder_limit = 268435456

-- a site file: its name without its end, its bytes, and those of the holdings file that it names, if it names one
pub record FileText : Type 0 where
  pub name : List ℕ
  pub bytes : List ℕ
  pub holdings : Option (List ℕ)

-- a site has the holdings file that it names
abbrev pub HasHoldings : Option (List ℕ) → SiteValue → SiteValue → Type 0
HasHoldings None bare site = (bare.library.holdings ≡ None) × (site ≡ bare)
HasHoldings (Some text) bare site = (is_some bare.library.holdings ≡ true) × IsHoldingsFile text × (site ≡ with_listing text bare)

-- the site of a site file of a folder, with this holdings file
pub record IsSiteOfFile (folder : SitesFolder) (bytes : List ℕ) (holdings : Option (List ℕ)) (site : SiteValue) : Type 0 where
  pub bare : SiteValue
  pub is_read : IsSiteWith folder.version.items folder.max_age bytes bare
  pub has : HasHoldings holdings bare site

-- the name of the file whose site is for all hosts that have none of their own
abbrev pub is_for_others : List ℕ → Bool
is_for_others name = bytes_eq name (codes "default")

-- the name of a site file with its end
abbrev pub file_name : List ℕ → List ℕ
file_name name = name ++ codes ".toml"

-- a site is added to others, for the host that its file is named after
abbrev pub IsAdded : Bool → NodeSites → List ℕ → NamedSite → NodeSites → Type 0
IsAdded true old name named new = SetsOtherNamed old named new
IsAdded false old name named new = AddsNamed old name named new

pub record AddsSiteOf (old : NodeSites) (name : List ℕ) (site : SiteValue) (new : NodeSites) : Type 0 where
  pub named : NamedSite
  pub is_name : named.name.items ≡ file_name name
  pub is_site : named.site ≡ site
  pub added : IsAdded (is_for_others name) old name named new

-- no host has a site
pub record AreNoSites (sites : NodeSites) : Type 0 where
  pub own : (host : List ℕ) → own_site host sites.places ≡ None
  pub others : other_site sites.places ≡ None
  pub list : sites.list ≡ []

-- the sites of some files of a folder; the latest file comes first
abbrev pub AreSitesOf : SitesFolder → List FileText → NodeSites → Type 0
AreSitesOf folder [] sites = AreNoSites sites
AreSitesOf folder (file ∷ earlier) sites =
    (before : NodeSites) × (site : SiteValue) × AreSitesOf folder earlier before × IsSiteOfFile folder file.bytes file.holdings site × AddsSiteOf before file.name site sites

-- the name of the file at a place of a folder
abbrev pub name_at : SitesFolder → ℕ → Option (List ℕ)
name_at folder place = option_map (λ (name : String Global). string_bytes name) (slice_get folder.names.items place)

-- some files are the first ones of a folder
abbrev pub AreNamed : SitesFolder → List FileText → Type 0
AreNamed folder [] = Unit {0}
AreNamed folder (file ∷ earlier) = (name_at folder (length earlier) ≡ Some file.name) × AreNamed folder earlier

-- some files are all that was read of a folder, and none is refused
pub record HasRead (read : SitesRead) (files : List FileText) : Type 0 where
  pub is_fine : read.is_refused ≡ false
  pub place : read.place ≡ length files
  pub names : AreNamed read.folder files
  pub sites : AreSitesOf read.folder files read.sites

-- the site of the next file is added
pub record AddsNext (old : SitesRead) (site : SiteValue) (new : SitesRead) : Type 0 where
  pub name : List ℕ
  pub is_name : name_at old.folder old.place ≡ Some name
  pub sites : AddsSiteOf old.sites name site new.sites
  pub place : new.place ≡ old.place + 1
  pub folder : new.folder ≡ old.folder
  pub refused : new.is_refused ≡ old.is_refused

-- why it is not: all files are read, or the site is not one of a host
abbrev pub IsNextFault : SitesRead → SitesFault → Type 0
IsNextFault read fault = ((name_at read.folder read.place ≡ None) × (fault ≡ host.NotHost)) ⊎ ((name : List ℕ) × (name_at read.folder read.place ≡ Some name) × IsAddFault read.sites name fault)

-- the next file is refused, and the one behind it is the next
pub record RefusesNext (old new : SitesRead) : Type 0 where
  pub is_refused : new.is_refused ≡ true
  pub folder : new.folder ≡ old.folder
  pub passes : old.place < length old.folder.names.items → new.place ≡ old.place + 1
