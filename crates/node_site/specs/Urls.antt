-- URLs of `http` and `https`, and the hosts that they name (RFC 3986, section 3; RFC 9110, section 4.2).
use Rattle.std.specs.Prelude.{ℕ, ◌&&◌, ◌||◌, ◌==◌, ◌-◌, Bool, false, nat_lt, nat_le, List, [], ◌∷◌, length, codes, take, drop, Option, Some, None, not, slice_index}
use Rattle.std.specs.Prelude.{if◌then◌else◌}
use Rattle.std.specs.List.{list_all, list_any, before_first, after_first, slice_split}
use Rattle.std.specs.Char.{is_ascii_alphanumeric}
use Rattle.std.specs.Str.{str_eq_ignore_ascii_case}

-- the text begins with this, in any case of letters, and is longer
abbrev pub begins_with : List ℕ → List ℕ → Bool
begins_with front text = nat_lt (length front) (length text) && str_eq_ignore_ascii_case (take (length front) text) front

-- a byte of visible ASCII: no space, no control byte, no byte above 126
abbrev pub is_visible : ℕ → Bool
is_visible b = nat_le 33 b && nat_le b 126

-- the most bytes of a URL (RFC 9110, section 4.1)
abbrev pub url_limit : ℕ
url_limit = 8000

-- what follows `http://` or `https://`
abbrev pub after_scheme : List ℕ → Option (List ℕ)
after_scheme url =
    if begins_with (codes "https://") url then Some (drop 8 url)
    else if begins_with (codes "http://") url then Some (drop 7 url) else None

-- what is before the first such byte of a text, or the whole text
abbrev pub before_byte : ℕ → List ℕ → List ℕ
before_byte byte text = before_first (λ b. b == byte) text

-- what is after it, or nothing
abbrev pub after_byte : ℕ → List ℕ → List ℕ
after_byte byte text = after_first (λ b. b == byte) text

abbrev pub has_byte : ℕ → List ℕ → Bool
has_byte byte text = list_any (λ b. b == byte) text

-- the authority at the front of a text: `/`, `?` or `#` ends it, or the backslash that browsers take for a slash
abbrev pub ends_authority : ℕ → Bool
ends_authority b = (b == 47) || ((b == 63) || ((b == 35) || (b == 92)))

abbrev pub authority_of : List ℕ → List ℕ
authority_of text = before_first ends_authority text

-- the text has at least and at most so many bytes
abbrev pub is_sized : ℕ → ℕ → List ℕ → Bool
is_sized least most text = nat_le least (length text) && nat_le (length text) most

abbrev pub is_label_byte : ℕ → Bool
is_label_byte b = is_ascii_alphanumeric b || (b == 45)

abbrev pub is_hyphen : ℕ → Bool
is_hyphen b = b == 45

-- a part of a host's name between dots (RFC 1123, section 2.1): 1 to 63 letters, digits and hyphens, no hyphen first or
-- last
abbrev pub is_label : List ℕ → Bool
is_label label =
    (is_sized 1 63 label && list_all is_label_byte label)
    && (not (is_hyphen (slice_index label 0)) && not (is_hyphen (slice_index label (length label - 1))))

-- the parts of a text between such bytes
abbrev pub parts_between : ℕ → List ℕ → List (List ℕ)
parts_between byte text = slice_split (λ b. b == byte) text

-- the name of a host, or an IPv4 address: at most 253 bytes, labels between dots
abbrev pub is_host : List ℕ → Bool
is_host host = nat_le (length host) 253 && list_all is_label (parts_between 46 host)

-- a text that begins with a dot, and then is this domain, in any case of letters
abbrev pub is_dotted : List ℕ → List ℕ → Bool
is_dotted domain [] = false
is_dotted domain (b ∷ rest) = (b == 46) && str_eq_ignore_ascii_case rest domain

-- the host is the domain or one of its subdomains
abbrev pub is_within : List ℕ → List ℕ → Bool
is_within domain host =
    str_eq_ignore_ascii_case host domain || is_dotted domain (drop (length host - length domain - 1) host)
