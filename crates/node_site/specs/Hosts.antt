-- The host of a URL, and which URLs are links (RFC 3986, section 3.2; RFC 1123, section 2.1).
use Rattle.std.specs.Prelude.{ℕ, ◌+◌, ◌-◌, ◌^◌, ◌&&◌, ◌||◌, ◌==◌, Bool, true, false, not, nat_lt, nat_le, List, [], ◌∷◌, ◌++◌, length, take, drop, map, codes}
use Rattle.std.specs.Prelude.{slice_index, slice_range, Option, Some, None, is_some, if◌then◌else◌}
use Rattle.std.specs.List.{list_all}
use Rattle.std.specs.Option.{option_and_then}
use Rattle.std.specs.Char.{is_ascii_alphabetic, is_ascii_digit, to_ascii_lowercase}
use Rattle.std.specs.Str.Parse.{digits_value}
use Rattle.std.specs.Net.Reader.{read_ipv4, read_ipv6, whole_value}
use Rattle.std.specs.Net.Text.{hex_groups_text}
use Rattle.node_site.specs.Urls.{after_scheme, authority_of, has_byte, is_host, is_visible, url_limit}

-- how many bytes are before the first `:` that is not between brackets
abbrev pub host_len : Bool → List ℕ → ℕ
host_len inside [] = 0
host_len inside (b ∷ rest) =
    if (b == 58) && not inside then 0
    else 1 + host_len (if b == 91 then true else (if b == 93 then false else inside)) rest

-- the host of an authority, and what is behind the colon after it
abbrev pub host_part : List ℕ → List ℕ
host_part authority = take (host_len false authority) authority

abbrev pub port_part : List ℕ → List ℕ
port_part authority = drop (host_len false authority + 1) authority

-- digits of a number of 16 bits, or nothing
abbrev pub is_port : List ℕ → Bool
is_port digits = list_all is_ascii_digit digits && nat_lt (digits_value 10 digits) (2 ^ 16)

-- the segments of an IPv6 address in brackets (RFC 4291, section 2.2)
abbrev pub ipv6_in : List ℕ → Option (List ℕ)
ipv6_in host =
    if (slice_index host 0 == 91) && (slice_index host (length host - 1) == 93)
    then whole_value (read_ipv6 (slice_range host 1 (length host - 1)))
    else None

-- an IPv4 address: four decimal numbers up to 255, without leading zeros
abbrev pub is_ipv4 : List ℕ → Bool
is_ipv4 host = is_some (whole_value (read_ipv4 host))

abbrev pub begins_with_letter : List ℕ → Bool
begins_with_letter text = is_ascii_alphabetic (slice_index text 0)

-- the last label begins with a letter; `is_named` says so of the one before the first dot of the text
abbrev pub ends_named : Bool → List ℕ → Bool
ends_named is_named [] = is_named
ends_named is_named (b ∷ rest) = if b == 46 then ends_named (begins_with_letter rest) rest else ends_named is_named rest

-- a name that is not a number: its last label begins with a letter
abbrev pub is_name : List ℕ → Bool
is_name host = ends_named (begins_with_letter host) host

-- a host that the URL Standard takes as it is: the name of a host, or an address
unfoldable pub is_reachable : List ℕ → Bool
is_reachable host = is_some (ipv6_in host) || (is_host host && (is_name host || is_ipv4 host))

-- the host of an authority without a user, with a port in range or none
unfoldable pub host_in : List ℕ → Option (List ℕ)
host_in authority =
    if not (has_byte 64 authority) && (is_reachable (host_part authority) && is_port (port_part authority))
    then Some (host_part authority) else None

-- the host behind `http://` or `https://`
abbrev pub host_behind : Option (List ℕ) → Option (List ℕ)
host_behind rest = option_and_then (λ text. host_in (authority_of text)) rest

-- the host of an address: of a URL of `http` or `https` without a user and a backslash
unfoldable pub host_of : List ℕ → Option (List ℕ)
host_of url = if has_byte 92 url then None else host_behind (after_scheme url)

-- a text that is safe in a link and in a Location field (RFC 9110, section 10.2.2): an address in visible ASCII, within
-- the limit
abbrev pub is_link : List ℕ → Bool
is_link url = nat_le (length url) url_limit && (list_all is_visible url && is_some (host_of url))

-- a host as the URL Standard writes it: a name in lower case, an IPv6 address in its shortest form (RFC 5952)
abbrev pub written_host : Option (List ℕ) → List ℕ → List ℕ
written_host None host = map to_ascii_lowercase host
written_host (Some segments) host = codes "[" ++ hex_groups_text segments ++ codes "]"

abbrev pub shown_part : Option (List ℕ) → List ℕ
shown_part None = []
shown_part (Some host) = written_host (ipv6_in host) host

-- the host of an address as a page shows it, or nothing
unfoldable pub shown_host : List ℕ → List ℕ
shown_host url = shown_part (host_of url)
