-- A connection with its stream, as the table holds it.
use Rattle.std.specs.Prelude.{◌≡◌, ◌≢◌, ◌==◌, ◌&&◌, ◌≤◌, ◌+◌, ◌-◌, ◌/◌, ◌⊎◌, ℕ, Bool, true, false, List, ◌∷◌, length, get_or, Option, Some, None, sum_by}
use Rattle.std.specs.Option.{option_map_or}
use Rattle.std.specs.Net.Socket.{socket_ip}
use Rattle.std.specs.declared.net.ip_addr.IpAddr.{IpAddr}
use Rattle.httparse.specs.Grammar.{RequestHead}
use Rattle.node_connection.specs.declared.connection.Connection.{Connection}
use Rattle.node_connection.specs.declared.phase.Wants.{Wants}
use Rattle.node_connection.specs.declared.phase.Wants.TheVariants as wants
use Rattle.node_connection.specs.declared.streams.Progress.{Progress}
use Rattle.node_connection.specs.declared.streams.Progress.TheVariants.{Blocked}
use Rattle.node_connection.specs.Events.{Event, Elapsed, Resumed}
use Rattle.node_connection.specs.States.{HasState, allocated_bytes, is_idle_in, is_lingering_in, is_response_sent_in, limit_in, rest_of, wants_in}
use Rattle.node_table.specs.declared.log.CloseCause.{CloseCause}
use Rattle.node_table.specs.declared.peer.Outcome.{Outcome}
use Rattle.node_table.specs.declared.peer.Outcome.TheVariants as outcome
use Rattle.node_table.specs.declared.peer.Peer.{Peer}
use Rattle.node_table.specs.Logs.{Entry, Responded, cause_in}
use Rattle.node_monitoring.specs.Forwarded.{IsClientAddr}
use Rattle.node_request.specs.FoundRequests.{BeginsWith, HasNoHead}
use Rattle.node_turns.specs.Addresses.{IsSlotOf}

-- the bytes of responses past which the connection that holds the most is closed
abbrev pub held_limit : ℕ
held_limit = 33554432

-- the microseconds that a response took that began then, if one is under way, or else those of the last one
abbrev pub micros_in : Option ℕ → ℕ → ℕ → ℕ
micros_in None micros now = micros
micros_in (Some began) micros now = now - began

-- the response that was made is streamed
abbrev pub is_streamed : Connection → Bool
is_streamed connection = option_map_or (λ summary. summary.is_streamed) connection.summary false

-- its head was sent
abbrev pub begins_stream : Connection → Bool
begins_stream connection = is_streamed connection && is_response_sent_in connection.phase

-- a connection that waits for bytes of a request is not behind the others, and one that drops what it receives is
abbrev pub is_behind_by : Wants → Bool → Bool
is_behind_by wants.Bytes lingers = lingers
is_behind_by wanted lingers = true

-- the connection has more to do than to receive its next request: bytes that it did not parse, a part of a response to
-- send, or bytes to drop
abbrev pub is_behind : Connection → Bool
is_behind connection = is_behind_by (wants_in connection.phase) (is_lingering_in connection.phase)

-- the address of the client whose request a proxy with this address passed on: the one that the head of the request
-- states, or that of the proxy until the head has arrived
abbrev pub IsClientOf : List ℕ → IpAddr → IpAddr → Type 0
IsClientOf bytes proxy addr =
    ((head : RequestHead) × BeginsWith bytes head × IsClientAddr head.fields proxy addr) ⊎ (HasNoHead bytes × (addr ≡ proxy))

-- the connection is neither over nor ready for its next request
abbrev pub IsUnderWay : Connection → Type 0
IsUnderWay connection = (wants_in connection.phase ≢ wants.Next) × (wants_in connection.phase ≢ wants.Close)

-- it turned to its next request
abbrev pub HasResumed : Connection → Connection → Type 0
HasResumed old new = (history : List Event) → HasState old history → HasState new (Resumed (length (rest_of old) == 0) ∷ history)

module _ {T : Type 0} where
  abbrev pub micros_of : Peer T → ℕ → ℕ
  micros_of peer now = micros_in peer.began peer.micros now

  -- why the connection is closed, if this is why unless its last response was sent whole
  abbrev pub cause_of : Peer T → CloseCause → CloseCause
  cause_of peer cause = cause_in peer.connection cause

  -- the slot of the client whose request the connection holds, if its peer is a proxy
  abbrev pub IsClientSlot : Peer T → ℕ → Type 0
  IsClientSlot peer slot =
      (addr : IpAddr) × IsClientOf peer.connection.received.bytes.items (socket_ip peer.addr) addr × IsSlotOf addr slot

  -- the bytes that are allocated for a response, in a slot of the table
  abbrev pub held_in : Option (Peer T) → ℕ
  held_in None = 0
  held_in (Some peer) = allocated_bytes peer.connection

  -- all together hold the limit at most, and as much as the one that holds the most
  abbrev pub AreBounded : List (Option (Peer T)) → Type 0
  AreBounded slots =
      (longest : ℕ) → ((key : ℕ) → held_in (get_or slots key None) ≤ longest) → sum_by held_in slots ≤ held_limit + longest

  -- the connection is open, and out of time
  abbrev pub IsLate : Peer T → ℕ → Type 0
  IsLate peer now =
      (wants_in peer.connection.phase ≢ wants.Close)
      × (limit_in (is_idle_in peer.connection.phase) peer.connection.limits ≤ peer.connection.elapsed + (now - peer.clock) / 1000)

  -- the milliseconds up to now that the connection's clock has not counted
  abbrev pub millis_of : Peer T → ℕ → ℕ
  millis_of peer now = (now - peer.clock) / 1000

  -- if it waits for bytes, its stream had none, by this property of streams
  abbrev pub HasReceived : (T → Type 0) → Progress → Peer T → Type 0
  HasReceived has_blocked progress peer = progress ≡ Blocked → wants_in peer.connection.phase ≡ wants.Bytes → has_blocked peer.stream

  -- its clock was advanced to now
  abbrev pub HasElapsed : ℕ → Peer T → Peer T → Type 0
  HasElapsed now old new =
      (history : List Event) → HasState old.connection history → HasState new.connection (Elapsed (millis_of old now) ∷ history)

  module _ {L : Type 0} (records : L → Entry → L → Type 0) where
    -- what follows a share of a turn, by how that ended. The connection waits for its stream, or has more to do; the log
    -- has its response, and it turned to its next request; the head of a streamed response was sent; or it is over
    abbrev pub IsFollowed : Outcome → Progress → ℕ → Peer T → Peer T → L → L → Type 0
    IsFollowed outcome.Waits progress now old new log after =
        (progress ≡ Blocked) × IsUnderWay old.connection × (new.connection ≡ old.connection) × (after ≡ log)
    IsFollowed outcome.Ready progress now old new log after =
        (progress ≢ Blocked) × IsUnderWay old.connection × (new.connection ≡ old.connection) × (after ≡ log)
    IsFollowed outcome.Resumed progress now old new log after =
        (wants_in old.connection.phase ≡ wants.Next) × HasResumed old.connection new.connection
        × records log (Responded old.addr old.connection (micros_of old now)) after
    IsFollowed outcome.Streams progress now old new log after =
        (begins_stream old.connection ≡ true) × (new.connection ≡ old.connection) × (after ≡ log)
    IsFollowed outcome.Over progress now old new log after =
        (wants_in old.connection.phase ≡ wants.Close) × (new.connection ≡ old.connection) × (after ≡ log)
