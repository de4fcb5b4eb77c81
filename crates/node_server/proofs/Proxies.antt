-- The peers of a server that are proxies.
use Rattle.std.proofs.Common.{◌≡◌, ◌⊎◌, ℕ, Bool, true, false, sym, refl, ◌∙◌, ap, subst, inl, inr, Option, Some, None}
use Rattle.std.specs.Prelude.{IsTrue, MatchBool, ◌↔◌}
use Rattle.std.specs.Option.{option_map}
use Rattle.std.specs.Net.Addr.{IsLoopbackV4, IsLoopbackV6, MatchIp}
use Rattle.std.specs.Net.Socket.{socket_ip}
use Rattle.std.specs.declared.net.ip_addr.IpAddr.{IpAddr}
use Rattle.std.specs.declared.net.socket_addr.SocketAddr.{SocketAddr}
use Rattle.feed_keep.specs.declared.keep.Keep.{Ghosts}
use Rattle.node_machine.specs.declared.machine.NodeMachine.{NodeMachine}
use Rattle.node_machine.specs.Nodes.{table_of}
use Rattle.node_table.specs.declared.peer.Peer.{Peer}
use Rattle.node_table.specs.Logs.{Entry}
use Rattle.node_table.specs.declared.table.Table.{Table}
use Rattle.node_table.specs.Tables.{awaits_request_at, peer_at, HasReceivedFor}
use Rattle.node_turns.specs.Addresses.{IsCanonical}
use Rattle.node_server.specs.Proxies.{IsClient, IsLocal, IsProxy, IsRemote}

pub local_by : (result : Bool) (addr : SocketAddr) (canonical : IpAddr) → IsCanonical (socket_ip addr) canonical
    → (IsTrue result ↔ MatchIp canonical IsLoopbackV4 IsLoopbackV6) → MatchBool result (IsLocal addr) (IsRemote addr)
local_by true addr canonical is both = (canonical, is, both.0 refl)
local_by false addr canonical is both = (canonical, is, λ loops. not_true (both.1 loops))
  where
    not_true : false ≡ true → ⊥
    not_true same = cc

pub proxy_by : (result is_forwarded : Bool) (addr : SocketAddr) → is_forwarded ≡ true → MatchBool result (IsLocal addr) (IsRemote addr)
    → MatchBool result (IsProxy is_forwarded addr) (IsClient is_forwarded addr)
proxy_by true is_forwarded addr forwards local = (forwards, local)
proxy_by false is_forwarded addr forwards remote = inr remote

module _ {T : Type 0} (slot : Option (Peer T)) (peer : Peer T) (addr : SocketAddr) (result is_forwarded : Bool)
    (is : Some addr ≡ option_map (λ (it : Peer T). it.addr) slot) (there : slot ≡ Some peer)
    (found : MatchBool result (IsProxy is_forwarded addr) (IsClient is_forwarded addr)) where
  same : addr ≡ peer.addr
  same = let both : Some addr ≡ Some peer.addr = is ∙ ap (λ it. option_map (λ (one : Peer T). one.addr) it) there in (cc)

  pub is_a_proxy : result ≡ true → IsProxy is_forwarded peer.addr
  is_a_proxy true_is = subst (λ it. IsProxy is_forwarded it) same (subst (λ b. MatchBool b (IsProxy is_forwarded addr) (IsClient is_forwarded addr)) true_is found)

  pub is_a_client : result ≡ false → IsClient is_forwarded peer.addr
  is_a_client false_is = subst (λ it. IsClient is_forwarded it) same (subst (λ b. MatchBool b (IsProxy is_forwarded addr) (IsClient is_forwarded addr)) false_is found)

-- the address of a connection in a table that is borrowed
pub addr_at : {T : Type 0} (lent table : Table T) (key : ℕ) (addr : SocketAddr) → lent ≡ table
    → Some addr ≡ option_map (λ (it : Peer T). it.addr) (peer_at lent key) → Some addr ≡ option_map (λ (it : Peer T). it.addr) (peer_at table key)
addr_at {T} lent table key addr same is = subst (λ (one : Table T). Some addr ≡ option_map (λ (it : Peer T). it.addr) (peer_at one key)) same is

-- memory was enough, so that the request was received as if it had not been looked at
module _ {T K S L : Type 0} {k : Ghosts K} (records : L → Entry → L → Type 0) (has_blocked : T → Type 0) where
  pub received_by : (key now : ℕ) (old freed new : NodeMachine T K S k) (log kept after : L) → (freed ≡ old) × (kept ≡ log)
      → (awaits_request_at (table_of freed) key ≡ true → HasReceivedFor records has_blocked key now (table_of freed) (table_of new) kept after)
      → awaits_request_at (table_of old) key ≡ true → HasReceivedFor records has_blocked key now (table_of old) (table_of new) log after
  received_by key now old freed new log kept after same received waits =
      let from = received (subst (λ node. awaits_request_at (table_of node) key ≡ true) (sym same.0) waits) in
      let here = subst (λ node. HasReceivedFor records has_blocked key now (table_of node) (table_of new) kept after) same.0 from in
      subst (λ it. HasReceivedFor records has_blocked key now (table_of old) (table_of new) it after) same.1 here
