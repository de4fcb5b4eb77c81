-- The peers of a server that are proxies.
use Rattle.std.specs.Prelude.{◌≡◌, ◌⊎◌, Bool, true, false}
use Rattle.std.specs.Net.Addr.{IsLoopbackV4, IsLoopbackV6, MatchIp}
use Rattle.std.specs.Net.Socket.{socket_ip}
use Rattle.std.specs.declared.net.ip_addr.IpAddr.{IpAddr}
use Rattle.std.specs.declared.net.socket_addr.SocketAddr.{SocketAddr}
use Rattle.node_turns.specs.Addresses.{IsCanonical}

-- it is a loopback address, also one of IPv4 in IPv6 (RFC 1122, section 3.2.1.3; RFC 4291, section 2.5.3)
abbrev pub IsLocal : SocketAddr → Type 0
IsLocal addr = (canonical : IpAddr) × IsCanonical (socket_ip addr) canonical × MatchIp canonical IsLoopbackV4 IsLoopbackV6

-- it is another address
abbrev pub IsRemote : SocketAddr → Type 0
IsRemote addr = (canonical : IpAddr) × IsCanonical (socket_ip addr) canonical × ¬ (MatchIp canonical IsLoopbackV4 IsLoopbackV6)

-- the peer with this address is a proxy, which states the address of its client: an option says that a peer on the same
-- machine is one
abbrev pub IsProxy : Bool → SocketAddr → Type 0
IsProxy is_forwarded addr = (is_forwarded ≡ true) × IsLocal addr

-- it is a client itself
abbrev pub IsClient : Bool → SocketAddr → Type 0
IsClient is_forwarded addr = (is_forwarded ≡ false) ⊎ IsRemote addr
