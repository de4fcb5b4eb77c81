-- The links of a page: which of them go through a proxy, and how.
use Rattle.std.specs.Prelude.{ℕ, ◌+◌, ◌*◌, ◌-◌, ◌&&◌, ◌||◌, Bool, true, not, List, ◌++◌, length, drop, codes, Option, Some, None, if◌then◌else◌, option_map, unwrap_or}
use Rattle.std.specs.List.{cons_option, filter_map, find, list_any}
use Rattle.std.specs.Option.{option_and_then, option_or}
use Rattle.std.specs.Str.{bytes_eq}
use Rattle.percent_encoding.specs.Percent.{percent_encode}
use Rattle.percent_encoding.specs.declared.ascii_set.TheConstants.{NON_ALPHANUMERIC}
use Rattle.node_site.specs.Held.{is_package}
use Rattle.node_site.specs.Hosts.{host_of}
use Rattle.node_site.specs.Platforms.{platform_at}
use Rattle.node_site.specs.Urls.{after_byte, before_byte, is_within}
use Rattle.node_site.specs.Site.{PackageValue, PlatformValue, SiteValue}

-- the host is in the list, or a subdomain of one that is
abbrev pub is_excepted : List (List ℕ) → List ℕ → Bool
is_excepted except host = list_any (λ domain. is_within domain host) except

-- the text ends in this
abbrev pub ends_in : List ℕ → List ℕ → Bool
ends_in end text = bytes_eq (drop (length text - length end) text) end

-- what is in front of the address in a link through a proxy and what is behind it, and whether it is percent-encoded
pub record PrefixValue : Type 0 where
  pub front : List ℕ
  pub is_encoded : Bool
  pub rest : List ℕ

-- EZproxy takes all that follows `login?url=` as the address, so nothing is encoded there; what follows `qurl=` always is
abbrev pub is_encoded_behind : Bool → List ℕ → Bool
is_encoded_behind encodes front = ends_in (codes "qurl=") front || (encodes && not (ends_in (codes "login?url=") front))

-- a prefix of a site file: the address is in the place of `{url}`, or else at its end
abbrev pub prefix_of : Bool → List ℕ → PrefixValue
prefix_of encodes text = record {
  front = before_byte 123 text;
  is_encoded = is_encoded_behind encodes (before_byte 123 text);
  rest = after_byte 125 text;
}

abbrev pub prefix_of_platform : PlatformValue → Option PrefixValue
prefix_of_platform rule = option_map (prefix_of rule.encodes) rule.prefix

-- a prefix that ends in `=` in front of the address and takes it as it is: a list can add parameters. Behind `login?url=` it
-- cannot
abbrev pub is_open : PrefixValue → Bool
is_open prefix = ends_in (codes "=") prefix.front && not (prefix.is_encoded || ends_in (codes "login?url=") prefix.front)

abbrev pub open_text : Bool → Option (List ℕ) → Option (List ℕ)
open_text encodes None = None
open_text encodes (Some text) = if is_open (prefix_of encodes text) then Some text else None

abbrev pub open_of_platform : PlatformValue → Option (List ℕ)
open_of_platform rule = open_text rule.encodes rule.prefix

-- such prefixes of a site, that of the proxy first
abbrev pub open_prefixes : SiteValue → List (List ℕ)
open_prefixes site = cons_option (open_text site.encodes site.prefix) (filter_map open_of_platform site.platforms)

-- the prefix of a host's platform, and that of the site
abbrev pub platform_prefix : SiteValue → List ℕ → Option PrefixValue
platform_prefix site host = option_and_then prefix_of_platform (platform_at site.platforms host)

abbrev pub site_prefix : SiteValue → Option PrefixValue
site_prefix site = option_map (prefix_of site.encodes) site.prefix

-- the prefix of the links to a host: none if the host is excepted, else that of its platform, or else that of the site
abbrev pub prefix_at : SiteValue → List ℕ → Option PrefixValue
prefix_at site host = if is_excepted site.except host then None else option_or (platform_prefix site host) (site_prefix site)

-- the prefix of the link to a target, if the link goes through a proxy
abbrev pub prefix_for : SiteValue → List ℕ → Bool → Option PrefixValue
prefix_for site target is_direct = if is_direct then None else option_and_then (prefix_at site) (host_of target)

-- the target as a prefix takes it: as it is, or with each byte escaped that is not a letter or a digit
abbrev pub written_target : Bool → List ℕ → List ℕ
written_target is_encoded target = if is_encoded then percent_encode NON_ALPHANUMERIC target else target

-- the link to a target behind a prefix, if there is one
abbrev pub through : Option PrefixValue → List ℕ → List ℕ
through None target = target
through (Some prefix) target = prefix.front ++ (written_target prefix.is_encoded target ++ prefix.rest)

-- the most bytes of such a link: an escape has three bytes
abbrev pub room_of : Option PrefixValue → List ℕ → ℕ
room_of None target = length target
room_of (Some prefix) target = length prefix.front + (if prefix.is_encoded then 3 * length target else length target) + length prefix.rest

-- the link to a target as the page has it
unfoldable pub proxied : SiteValue → List ℕ → Bool → List ℕ
proxied site target is_direct = through (prefix_for site target is_direct) target

-- the links of a package may go through a proxy, unless its table says that they do not
abbrev pub may_be_proxied : PackageValue → Bool
may_be_proxied rule = rule.is_proxied

abbrev pub is_proxied_package : SiteValue → List ℕ → Bool
is_proxied_package site id = unwrap_or (option_map may_be_proxied (find (is_package id) site.packages)) true

-- a link of a package is direct: it is free to read, or the package says so
abbrev pub is_direct : SiteValue → List ℕ → Bool → Bool
is_direct site id is_free = is_free || not (is_proxied_package site id)
