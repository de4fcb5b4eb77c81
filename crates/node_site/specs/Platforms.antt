-- The platforms of a site, by their hosts.
use Rattle.std.specs.Prelude.{ℕ, Bool, nat_le, List, length, Option, None, if◌then◌else◌}
use Rattle.std.specs.List.{find}
use Rattle.std.specs.Str.{str_eq_ignore_ascii_case}
use Rattle.node_site.specs.Site.{PlatformValue}

-- the table is about this host, in any case of letters
abbrev pub is_platform : List ℕ → PlatformValue → Bool
is_platform host rule = str_eq_ignore_ascii_case rule.host host

-- the platform of a host, which has at most 253 bytes
abbrev pub platform_at : List PlatformValue → List ℕ → Option PlatformValue
platform_at platforms host = if nat_le (length host) 253 then find (is_platform host) platforms else None
