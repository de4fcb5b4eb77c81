-- Laws of the sites of hosts.
use Rattle.std.specs.Prelude.{◌≡◌, ℕ, true, List, Some, None}
use Rattle.std.specs.Str.{str_eq_ignore_ascii_case}
use Rattle.node_site.specs.declared.sites.Sites.{Sites}
use Rattle.node_site.specs.Sites.{other_site, own_site, site_of}

-- a host with a site of its own has it whatever the sites of other hosts are
abbrev pub OwnSiteDecides : Type 0 → Type 0
OwnSiteDecides S = (one other : Sites S) (host : List ℕ) (site : S) → own_site host one ≡ Some site → own_site host other ≡ Some site
    → site_of (Some host) one ≡ site_of (Some host) other

-- a host without one has that of all others, whatever the sites of other hosts are
abbrev pub OtherSiteDecides : Type 0 → Type 0
OtherSiteDecides S = (one other : Sites S) (host : List ℕ) → own_site host one ≡ None → own_site host other ≡ None → other_site one ≡ other_site other
    → site_of (Some host) one ≡ site_of (Some host) other

-- the case of letters does not count
abbrev pub CaseDoesNotCount : Type 0 → Type 0
CaseDoesNotCount S = (sites : Sites S) (host other : List ℕ) → str_eq_ignore_ascii_case host other ≡ true
    → site_of (Some host) sites ≡ site_of (Some other) sites
