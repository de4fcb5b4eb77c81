-- Laws of the hosts that are shown: they are those that the URL Standard parses (section 4.4, with the host parser of
-- section 3.5).
use Rattle.std.specs.Prelude.{◌≡◌, ℕ, true, false, nat_lt, List, Some, None, Ok}
use Rattle.std.specs.List.{list_all}
use Rattle.url.specs.Parts.{Parts, has_credentials, host_or_empty}
use Rattle.url.specs.Parser.{parse_url}
use Rattle.url.specs.Host.{host_text}
use Rattle.node_site.specs.Hosts.{host_of, is_link, shown_host}

-- the standard parses the text to a URL of this host, without a user and a password
pub record LeadsTo (url shown : List ℕ) : Type 0 where
  pub parts : Parts
  pub parses : parse_url None url ≡ Ok parts
  pub host : host_text (host_or_empty parts) ≡ shown
  pub user : has_credentials parts ≡ false

-- an address without spaces and control characters leads to the host that is shown
abbrev pub HostsAreStandard : Type 0
HostsAreStandard = (url host : List ℕ) → list_all (λ b. nat_lt 32 b) url ≡ true → host_of url ≡ Some host → LeadsTo url (shown_host url)

-- so does each link
abbrev pub LinksAreStandard : Type 0
LinksAreStandard = (url : List ℕ) → is_link url ≡ true → LeadsTo url (shown_host url)
