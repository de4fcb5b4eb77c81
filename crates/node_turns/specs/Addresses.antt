-- The slots of addresses.
use Rattle.std.specs.Prelude.{◌≡◌, ◌+◌, ◌*◌, ◌%◌, ℕ, List, ◌∷◌}
use Rattle.std.specs.Net.Addr.{ipv4_bits, ipv6_segments, IsCanonicalOf, MatchIp}
use Rattle.std.specs.declared.net.ip_addr.IpAddr.{IpAddr}
use Rattle.std.specs.declared.net.ip_addr.IpAddr.TheVariants.{V4, V6}

-- the number of slots
abbrev pub slot_limit : ℕ
slot_limit = 4093

-- the value of the first four segments
abbrev pub front_bits : List ℕ → ℕ
front_bits (a ∷ b ∷ c ∷ d ∷ segments) = ((a * 65536 + b) * 65536 + c) * 65536 + d
front_bits segments = 0

-- what counts as one client: an address of IPv4, and the first half of one of IPv6 (RFC 6177)
abbrev pub network_of : IpAddr → ℕ
network_of (V4 addr) = ipv4_bits addr
network_of (V6 addr) = front_bits (ipv6_segments addr)

-- an address of IPv4 in IPv6 is that of IPv4
abbrev pub IsCanonical : IpAddr → IpAddr → Type 0
IsCanonical addr canonical = MatchIp addr (λ _. canonical ≡ addr) (λ mapped. IsCanonicalOf mapped canonical)

-- the slot of the network of an address
abbrev pub IsSlotOf : IpAddr → ℕ → Type 0
IsSlotOf addr slot = (canonical : IpAddr) × IsCanonical addr canonical × (slot ≡ network_of canonical % slot_limit)
