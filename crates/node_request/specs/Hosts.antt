-- The host that a request is for (RFC 9110, section 7.2; RFC 9112, section 3.3).
use Rattle.std.specs.Prelude.{ℕ, ◌==◌, ◌||◌, if◌then◌else◌, Bool, List, codes, take, position, Option, Some, None}
use Rattle.std.specs.List.{list_all, list_any}
use Rattle.std.specs.Option.{option_and_then, option_map, option_map_or, option_or}
use Rattle.std.specs.Char.{is_ascii_digit}
use Rattle.httparse.specs.Grammar.{RequestHead}
use Rattle.feed_bytes.specs.Split.{split_once, strip_prefix}
use Rattle.feed_http_heads.specs.Fields.{values_named, only}

-- what follows the scheme of a target that is a whole URI, in any case of letters
abbrev pub behind_scheme : List ℕ → Option (List ℕ)
behind_scheme target = option_or (strip_prefix (codes "http://") target) (strip_prefix (codes "https://") target)

-- a byte that ends the authority of a URI (RFC 3986, section 3.2): `/`, `?` or `#`
abbrev pub ends_authority : ℕ → Bool
ends_authority b = (b == 47) || ((b == 63) || (b == 35))

-- the authority at the front of a text
abbrev pub authority_in : List ℕ → List ℕ
authority_in text = option_map_or (λ place. take place text) (position ends_authority text) text

-- a name, if what is behind it is a port: digits, or nothing
abbrev pub before_port : List ℕ → List ℕ → Option (List ℕ)
before_port name port = if list_all is_ascii_digit port then Some name else None

-- the authority has a user, which a request does not send (RFC 9110, section 4.2.4)
abbrev pub has_user : List ℕ → Bool
has_user authority = list_any (λ b. b == 64) authority

-- the host of an authority: what is in front of its port, if it has one. An IPv6 address, in brackets, is none
abbrev pub host_in : List ℕ → Option (List ℕ)
host_in authority =
    if has_user authority then None
    else option_map_or (λ parts. before_port parts.0 parts.1) (split_once 58 authority) (Some authority)

-- the authority that a request is for: that of a target that is a whole URI, or else the value of its only Host field
abbrev pub authority_of : RequestHead → Option (List ℕ)
authority_of head = option_or (option_map authority_in (behind_scheme head.target)) (only (values_named (codes "host") head.fields))

-- the host that a request is for, as the request has it. Hosts are compared in any case of letters
unfoldable pub host_of : RequestHead → Option (List ℕ)
host_of head = option_and_then host_in (authority_of head)
