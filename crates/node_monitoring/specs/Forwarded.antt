-- The last element of a list of addresses (RFC 9110, section 5.6.1), and the address of a client that it states.
use Rattle.std.specs.Prelude.{◌≡◌, ◌⊎◌, ℕ, List, [], ◌∷◌, codes}
use Rattle.std.specs.Net.Grammar.{IsIpText}
use Rattle.std.specs.declared.net.ip_addr.IpAddr.{IpAddr}
use Rattle.httparse.specs.Grammar.{Field}
use Rattle.feed_http_heads.specs.Fields.{values_named}
use Rattle.feed_bytes.specs.Parts.{parts_at}
use Rattle.feed_bytes.specs.Trim.{trimmed}

-- the last of some texts
abbrev pub last_of : List (List ℕ) → List ℕ
last_of [] = []
last_of (part ∷ []) = part
last_of (part ∷ next ∷ parts) = last_of (next ∷ parts)

-- the last of the parts that commas separate
abbrev pub last_part : List ℕ → List ℕ
last_part value = last_of (parts_at 44 value)

-- that part without the spaces around it
abbrev pub last_element : List ℕ → List ℕ
last_element value = trimmed (last_part value)

-- the last element of X-Forwarded-For, which the proxy in front of the node added
abbrev pub forwarded_element : List Field → List ℕ
forwarded_element fields = last_element (last_of (values_named (codes "x-forwarded-for") fields))

-- the address of the client of a request with these fields: that element, or the address of the peer if it is not one
abbrev pub IsClientAddr : List Field → IpAddr → IpAddr → Type 0
IsClientAddr fields peer addr =
    IsIpText (forwarded_element fields) addr
    ⊎ (((other : IpAddr) → ¬ (IsIpText (forwarded_element fields) other)) × (addr ≡ peer))
