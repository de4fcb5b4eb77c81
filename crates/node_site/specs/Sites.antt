-- The sites of a node by their hosts (RFC 9110, section 7.2).
use Rattle.std.specs.Prelude.{◌≡◌, ℕ, ◌+◌, ◌<◌, ◌≤◌, true, false, List, Option, Some, None, is_some, if◌then◌else◌}
use Rattle.std.specs.Ordering.{nat_cmp}
use Rattle.std.specs.Option.{option_or}
use Rattle.std.specs.Cmp.Lexicographic.{slice_cmp}
use Rattle.std.specs.BTreeMap.{btree_map_len, get_by}
use Rattle.std.specs.Str.{str_eq_ignore_ascii_case, str_to_ascii_lowercase}
use Rattle.node_site.specs.declared.sites.Sites.{Sites}
use Rattle.node_site.specs.declared.sites.SitesFault.{SitesFault}
use Rattle.node_site.specs.declared.sites.SitesFault.TheVariants.{NotHost, Twice, TooMany, Memory}
use Rattle.node_site.specs.Limits.{sites_limit}
use Rattle.node_site.specs.Urls.{is_host}

-- the site that a host has of its own, in any case of letters (RFC 9110, section 4.2.3)
abbrev pub own_site : {S : Type 0} → List ℕ → Sites S → Option S
own_site host sites = get_by (λ k. slice_cmp nat_cmp (str_to_ascii_lowercase host) k.items) sites.by_host

-- the site of all hosts that have none of their own
abbrev pub other_site : {S : Type 0} → Sites S → Option S
other_site sites = sites.others

-- how many hosts have a site of their own
abbrev pub count_of_sites : {S : Type 0} → Sites S → ℕ
count_of_sites sites = btree_map_len sites.by_host

-- the site of the requests for a host, or of requests without one: its own, or else that of all others
abbrev pub site_of : {S : Type 0} → Option (List ℕ) → Sites S → Option S
site_of None sites = other_site sites
site_of (Some host) sites = option_or (own_site host sites) (other_site sites)

-- a host that had no site has this one now, and all others have theirs
pub record AddsSite {S : Type 0} (old : Sites S) (host : List ℕ) (site : S) (new : Sites S) : Type 0 where
  pub named : is_host host ≡ true
  pub absent : own_site host old ≡ None
  pub room : count_of_sites old < sites_limit
  pub own : (other : List ℕ) → own_site other new ≡ (if str_eq_ignore_ascii_case host other then Some site else own_site other old)
  pub others : other_site new ≡ other_site old
  pub count : count_of_sites new ≡ count_of_sites old + 1

-- each host has the same site
pub record AreSame {S : Type 0} (old new : Sites S) : Type 0 where
  pub own : (host : List ℕ) → own_site host new ≡ own_site host old
  pub others : other_site new ≡ other_site old
  pub count : count_of_sites new ≡ count_of_sites old

-- why the site of a host is not added
abbrev pub IsSitesFault : {S : Type 0} → Sites S → List ℕ → SitesFault → Type 0
IsSitesFault sites host NotHost = is_host host ≡ false
IsSitesFault sites host Twice = (is_host host ≡ true) × (is_some (own_site host sites) ≡ true)
IsSitesFault sites host TooMany = (is_host host ≡ true) × (own_site host sites ≡ None) × (sites_limit ≤ count_of_sites sites)
IsSitesFault sites host Memory = is_host host ≡ true

-- all hosts without a site of their own have this one
pub record SetsOthers {S : Type 0} (old : Sites S) (site : S) (new : Sites S) : Type 0 where
  pub own : (host : List ℕ) → own_site host new ≡ own_site host old
  pub others : other_site new ≡ Some site
  pub count : count_of_sites new ≡ count_of_sites old
