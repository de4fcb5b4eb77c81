-- The sites of a node, by the hosts whose requests they respond to.
use Rattle.std.specs.Prelude.{◌≡◌, ◌⊎◌, ℕ, List, [], ◌∷◌, ◌++◌, length, slice_get, Option, option_and_then, option_map}
use Rattle.node_site.specs.declared.sites.SitesFault.{SitesFault}
use Rattle.node_site.specs.declared.sites.SitesFault.TheVariants.{Memory}
use Rattle.node_site.specs.Sites as kept
use Rattle.node_site.specs.Sites.{AddsSite, AreSame, IsSitesFault, SetsOthers}
use Rattle.node_response.specs.Tags.{SiteValue}
use Rattle.node_sites.specs.declared.node_sites.NamedSite.{NamedSite}
use Rattle.node_sites.specs.declared.node_sites.NodeSites.{NodeSites}

-- the place in the list of the site of a host, or of requests that name no host
abbrev pub place_for : Option (List ℕ) → NodeSites → Option ℕ
place_for host sites = kept.site_of host sites.places

-- that site, with the name of its file
abbrev pub named_for : Option (List ℕ) → NodeSites → Option NamedSite
named_for host sites = option_and_then (slice_get sites.list) (place_for host sites)

-- the site alone
abbrev pub site_for : Option (List ℕ) → NodeSites → Option SiteValue
site_for host sites = option_map (λ (named : NamedSite). named.site) (named_for host sites)

-- a host that had no site has this one now, which is the last of the list, and all others have theirs
pub record AddsNamed (old : NodeSites) (host : List ℕ) (named : NamedSite) (new : NodeSites) : Type 0 where
  pub places : AddsSite old.places host (length old.list) new.places
  pub list : new.list ≡ old.list ++ named ∷ []

-- why the site of a host is not added
abbrev pub IsAddFault : NodeSites → List ℕ → SitesFault → Type 0
IsAddFault sites host fault = (fault ≡ Memory) ⊎ IsSitesFault sites.places host fault

-- all hosts without a site of their own have this one, which is the last of the list
pub record SetsOtherNamed (old : NodeSites) (named : NamedSite) (new : NodeSites) : Type 0 where
  pub places : SetsOthers old.places (length old.list) new.places
  pub list : new.list ≡ old.list ++ named ∷ []

-- each host has the same site
pub record AreSameNamed (old new : NodeSites) : Type 0 where
  pub places : AreSame old.places new.places
  pub list : new.list ≡ old.list
