-- Laws of the links of a page.
use Rattle.std.specs.Prelude.{◌≡◌, ℕ, ◌<◌, ◌≤◌, length, ◌||◌, ◌==◌, Bool, true, false, List, ◌∷◌, ◌++◌, Option, Some, None, All}
use Rattle.std.specs.Char.{is_ascii_alphanumeric}
use Rattle.percent_encoding.specs.Percent.{percent_decode}
use Rattle.node_site.specs.Hosts.{host_of}
use Rattle.node_site.specs.Urls.{is_within}
use Rattle.node_site.specs.Site.{SiteValue}
use Rattle.node_site.specs.Proxies.{PrefixValue, is_excepted, platform_prefix, prefix_at, proxied, room_of, through}

-- a link that is direct, as one that is free to read, is the target
abbrev pub FreeIsDirect : Type 0
FreeIsDirect = (site : SiteValue) (target : List ℕ) → proxied site target true ≡ target

-- so is a link to a host of the list, or to a subdomain of one
abbrev pub ExceptedIsDirect : Type 0
ExceptedIsDirect = (site : SiteValue) (target host : List ℕ) (is_free : Bool) →
    host_of target ≡ Some host → is_excepted site.except host ≡ true → proxied site target is_free ≡ target

-- without a proxy each link is its target, unless a platform has a prefix
abbrev pub NoProxyIsDirect : Type 0
NoProxyIsDirect =
    (site : SiteValue) (target : List ℕ) (is_direct : Bool) → site.prefix ≡ None → ((host : List ℕ) → platform_prefix site host ≡ None)
    → proxied site target is_direct ≡ target

-- a letter, a digit or `%`: a byte that ends no value in a query
abbrev pub is_plain : ℕ → Bool
is_plain b = is_ascii_alphanumeric b || (b == 37)

-- what follows the prefix: the target, or plain bytes that decode to it
abbrev pub IsTarget : Bool → List ℕ → List ℕ → Type 0
IsTarget false target rest = rest ≡ target
IsTarget true target rest = (percent_decode rest ≡ target) × All (λ b. is_plain b ≡ true) rest

-- the link is what is before the address in a prefix, the target as the prefix takes it, and what is behind the address
pub record GoesThrough (prefix : PrefixValue) (target link : List ℕ) : Type 0 where
  pub middle : List ℕ
  pub encloses : link ≡ prefix.front ++ (middle ++ prefix.rest)
  pub follows : IsTarget prefix.is_encoded target middle

-- every other link goes through a proxy, by the prefix of its host
abbrev pub OthersGoThrough : Type 0
OthersGoThrough = (site : SiteValue) (target host : List ℕ) (prefix : PrefixValue) → All (λ b. b < 256) target →
    host_of target ≡ Some host → prefix_at site host ≡ Some prefix → GoesThrough prefix target (proxied site target false)

-- a link fits in its room
abbrev pub LinkFits : Type 0
LinkFits = (prefix : Option PrefixValue) (target : List ℕ) → All (λ b. b < 256) target →
    length (through prefix target) ≤ room_of prefix target

-- a domain is within itself, and so is what ends in a dot and the domain
abbrev pub SubdomainsAreWithin : Type 0
SubdomainsAreWithin = (domain front : List ℕ) → (is_within domain domain ≡ true) × (is_within domain (front ++ 46 ∷ domain) ≡ true)
