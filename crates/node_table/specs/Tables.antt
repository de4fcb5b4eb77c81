-- The connections of a node.
use Rattle.std.specs.Prelude.{◌≡◌, ◌≢◌, ◌+◌, ◌<◌, ◌≤◌, ◌⊎◌, ◌++◌, ℕ, Bool, true, false, not, List, Option, Some, None, IsSome, sum_by}
use Rattle.std.specs.Option.{option_map_or}
use Rattle.slab.specs.Slab.{get, slab_len}
use Rattle.node_connection.specs.declared.streams.Progress.{Progress}
use Rattle.node_connection.specs.declared.streams.Progress.TheVariants.{Moved, Blocked, Spent}
use Rattle.node_connection.specs.declared.streams.Share.{Share}
use Rattle.node_connection.specs.declared.phase.Shortage.{Shortage}
use Rattle.node_connection.specs.declared.phase.Shortage.TheVariants.{Places, Memory}
use Rattle.node_connection.specs.declared.phase.Wants.TheVariants as wants
use Rattle.node_connection.specs.Events.{Event}
use Rattle.node_connection.specs.Responses.{Responses}
use Rattle.node_connection.specs.States.{is_closed_before, is_lingering_in, wants_in, HasState}
use Rattle.node_table.specs.declared.log.CloseCause.{CloseCause}
use Rattle.node_table.specs.declared.log.CloseCause.TheVariants.{PeerClosed}
use Rattle.node_table.specs.declared.peer.Outcome.{Outcome}
use Rattle.node_table.specs.declared.peer.Outcome.TheVariants.{Waits, Ready, Resumed, Streams, Over}
use Rattle.node_table.specs.declared.peer.Peer.{Peer}
use Rattle.node_table.specs.declared.table.Table.{Table}
use Rattle.node_table.specs.Connections.{HasServed, HasUsed}
use Rattle.node_connection.specs.Streams.{IsStopped}
use Rattle.node_turns.specs.Turns.{is_waiting, IsGone, IsMarked}
use Rattle.node_table.specs.Logs.{Entry, Closed, HasRecorded}
use Rattle.node_table.specs.Peers.{held_in, is_behind, micros_of, HasElapsed, HasReceived, IsClientSlot, IsFollowed, IsLate}

-- the connection has more to do
abbrev pub has_more : Outcome → Bool
has_more Waits = false
has_more Ready = true
has_more Resumed = true
has_more Streams = false
has_more Over = false

-- the share of a connection that receives its next request, and does not respond to it yet
abbrev pub read_share : Share
read_share = record { bytes = 16384; responses = 0 }

-- one that does not wait goes before one that does; otherwise their states decide
abbrev pub goes_first : Bool → Bool → Bool → Bool
goes_first false true by_state = true
goes_first true false by_state = false
goes_first false false by_state = by_state
goes_first true true by_state = by_state

module _ {T : Type 0} where
  -- the connection with this key
  abbrev pub peer_at : Table T → ℕ → Option (Peer T)
  peer_at table key = get table.peers key

  -- the number of connections
  abbrev pub size_of : Table T → ℕ
  size_of table = slab_len table.peers

  -- the bytes that are allocated for the responses of all connections
  abbrev pub bytes_held : Table T → ℕ
  bytes_held table = sum_by held_in table.peers.slots

  -- those for the response of the connection with this key
  abbrev pub held_at : Table T → ℕ → ℕ
  held_at table key = held_in (peer_at table key)

  -- whether the last response of the connection with this key was sent, and its client may send more
  abbrev pub lingers_at : Table T → ℕ → Bool
  lingers_at table key = option_map_or (λ peer. is_lingering_in peer.connection.phase) (peer_at table key) false

  -- whether the connection with this key waits for bytes of its next request
  abbrev pub awaits_request_at : Table T → ℕ → Bool
  awaits_request_at table key = option_map_or (λ peer. not (is_behind peer.connection)) (peer_at table key) false

  -- the other keys have what they had
  abbrev pub KeepsOthers : ℕ → Table T → Table T → Type 0
  KeepsOthers key old new = (other : ℕ) → other ≢ key → peer_at new other ≡ peer_at old other

  -- the connection with this key is marked as ready, in the queue of its address: behind the others if it has more to do
  abbrev pub IsReadyAfter : ℕ → Peer T → Table T → Table T → Type 0
  IsReadyAfter key peer old new = IsMarked (is_behind peer.connection) peer.slot key old.ready new.ready

  -- the connection with this key waits in the queue of the client whose request it holds from now on, and is marked as ready
  -- there, among those that were idle
  abbrev pub IsReadyForClient : ℕ → Peer T → Table T → Table T → Type 0
  IsReadyForClient key peer old new =
      (next : Peer T) × (peer_at new key ≡ Some next) × (next.connection ≡ peer.connection)
      × IsClientSlot peer next.slot × IsMarked false next.slot key old.ready new.ready

  -- the connection with this key had its share of a turn
  abbrev pub IsServed : Responses → ℕ → Progress → Share → Share → Table T → Table T → Type 0
  IsServed replies key progress share left old new =
      (peer : Peer T) → peer_at old key ≡ Some peer
      → (next : Peer T) × (peer_at new key ≡ Some next) × HasServed replies progress share left peer.connection next.connection

  -- the connection with this key received and responded no more than this share allows, and stopped because it waits or
  -- because the share is used
  abbrev pub HasUsedAt : ℕ → Progress → Share → Share → Table T → Table T → Type 0
  HasUsedAt key progress share left old new =
      (peer : Peer T) → peer_at old key ≡ Some peer
      → (next : Peer T) × (peer_at new key ≡ Some next)
      × ((history : List Event) → HasState peer.connection history → HasUsed share left next.connection history)
      × IsStopped progress left next.connection

  -- the connection with this key has the state that more events determine
  abbrev pub HasMovedAt : ℕ → Table T → Table T → Type 0
  HasMovedAt key old new =
      (peer : Peer T) → peer_at old key ≡ Some peer
      → (next : Peer T) × (peer_at new key ≡ Some next)
      × ((history : List Event) → HasState peer.connection history → (more : List Event) × HasState next.connection (more ++ history))

  -- if the connection with this key waits for bytes, its stream had none, by this property of streams
  abbrev pub HasReceivedAt : (T → Type 0) → ℕ → Progress → Table T → Type 0
  HasReceivedAt has_blocked key progress table = (peer : Peer T) → peer_at table key ≡ Some peer → HasReceived has_blocked progress peer

  -- the connections that are out of time are removed, and the others remain
  pub record IsExpired (now : ℕ) (old new : Table T) : Type 0 where
    pub late : (key : ℕ) (peer : Peer T) → peer_at old key ≡ Some peer → IsLate peer now → peer_at new key ≡ None
    pub kept : (key : ℕ) (peer : Peer T) → peer_at old key ≡ Some peer → ¬ (IsLate peer now) → IsSome (peer_at new key)

  -- if there is a connection with this key, it was there before, and its clock was advanced
  abbrev pub IsElapsedAt : ℕ → ℕ → Table T → Table T → Type 0
  IsElapsedAt now key old new =
      (peer : Peer T) → peer_at new key ≡ Some peer → (was : Peer T) × (peer_at old key ≡ Some was) × HasElapsed now was peer

  -- no connection was added, and the clocks of the remaining ones were advanced
  abbrev pub AreElapsed : ℕ → Table T → Table T → Type 0
  AreElapsed now old new = (key : ℕ) → IsElapsedAt now key old new

  -- no connection was added, and those that remain are as they were
  abbrev pub KeepsConnections : Table T → Table T → Type 0
  KeepsConnections old new =
      (key : ℕ) (peer : Peer T) → peer_at new key ≡ Some peer
      → (was : Peer T) × (peer_at old key ≡ Some was) × (peer.connection ≡ was.connection)

  -- whether the connection with this key waits for its share of a turn among those that were idle. For memory, that does not
  -- count
  abbrev pub waits : Shortage → Table T → ℕ → Bool
  waits Places table key = is_waiting table.ready key
  waits Memory table key = false

  -- the first connection is closed before the second: it does not wait, and the second does; or none or both do, and it
  -- is closed first by its state
  abbrev pub is_closed_first : Shortage → Table T → ℕ → Peer T → ℕ → Peer T → Bool
  is_closed_first shortage table key peer other rival =
      goes_first (waits shortage table key) (waits shortage table other) (is_closed_before shortage peer.connection rival.connection)

  -- the connection with this key is closed for a place or for memory: none is closed before it
  pub record IsFirstToClose (shortage : Shortage) (table : Table T) (key : ℕ) : Type 0 where
    pub peer : Peer T
    pub there : peer_at table key ≡ Some peer
    pub first : (other : ℕ) (rival : Peer T) → peer_at table other ≡ Some rival → is_closed_first shortage table other rival key peer ≡ false

  -- the same among the keys below a limit
  pub record IsFirstAmong (shortage : Shortage) (table : Table T) (limit key : ℕ) : Type 0 where
    pub peer : Peer T
    pub there : peer_at table key ≡ Some peer
    pub first : (other : ℕ) (rival : Peer T) → other < limit → peer_at table other ≡ Some rival → is_closed_first shortage table other rival key peer ≡ false

  abbrev pub IsFirstBelow : Shortage → Table T → ℕ → Option ℕ → Type 0
  IsFirstBelow shortage table limit None = (key : ℕ) → key < limit → peer_at table key ≡ None
  IsFirstBelow shortage table limit (Some key) = IsFirstAmong shortage table limit key

  module _ {L : Type 0} (records : L → Entry → L → Type 0) where
    -- the connection with this key was removed, and that one call recorded it
    pub record IsRemoved (key : ℕ) (cause : CloseCause) (now : ℕ) (old new : Table T) (log after : L) : Type 0 where
      pub peer : Peer T
      pub was : peer_at old key ≡ Some peer
      pub recorded : records log (Closed peer.addr peer.connection cause (micros_of peer now)) after
      pub gone : peer_at new key ≡ None
      pub others : KeepsOthers key old new
      pub size : size_of new + 1 ≡ size_of old
      pub ready : IsGone key old.ready new.ready
      pub clients : new.clients ≡ old.clients
      pub held : bytes_held new + held_at old key ≡ bytes_held old

    -- as many removals were recorded, for this cause, as connections were removed
    pub record HasClosed (cause : CloseCause) (old new : Table T) (log after : L) : Type 0 where
      pub count : ℕ
      pub recorded : HasRecorded records cause count log after
      pub size : size_of new + count ≡ size_of old
      pub clients : new.clients ≡ old.clients
      pub held : bytes_held new ≤ bytes_held old

    -- this connection is what follows its share of a turn; or it was over, and is gone
    abbrev pub IsFollowedAt : ℕ → Progress → ℕ → Outcome → Peer T → Table T → L → L → Type 0
    IsFollowedAt key progress now Over peer new log after = (wants_in peer.connection.phase ≡ wants.Close) × (peer_at new key ≡ None)
    IsFollowedAt key progress now outcome peer new log after =
        (next : Peer T) × (peer_at new key ≡ Some next) × IsFollowed records outcome progress now peer next log after

    -- what follows a share of a turn was done for the connection with this key: it is removed if it is over, and marked as
    -- ready if it has more to do. Otherwise the queues are as they were
    pub record IsSettled (key : ℕ) (progress : Progress) (now : ℕ) (outcome : Outcome) (old new : Table T) (log after : L) : Type 0 where
      pub others : KeepsOthers key old new
      pub still : has_more outcome ≡ false → (new.ready ≡ old.ready) ⊎ ((peer_at new key ≡ None) × IsGone key old.ready new.ready)
      pub marked : has_more outcome ≡ true → (peer : Peer T) → peer_at new key ≡ Some peer → IsReadyAfter key peer old new
      pub closed : HasClosed PeerClosed old new log after
      pub followed : (peer : Peer T) → peer_at old key ≡ Some peer → IsFollowedAt key progress now outcome peer new log after

    -- the connection with this key received its next request, or a part of it, and made no response. If its stream had no
    -- more before it has one, what follows that was done; otherwise it is marked as ready in the queue of the client that the
    -- request names
    pub record HasReceivedFor (has_blocked : T → Type 0) (key now : ℕ) (old new : Table T) (log after : L) : Type 0 where
      pub middle : Table T
      pub progress : Progress
      pub outcome : Outcome
      pub left : Share
      pub others : KeepsOthers key old middle
      pub used : HasUsedAt key progress read_share left old middle
      pub received : HasReceivedAt has_blocked key progress middle
      pub ready : progress ≡ Spent → (peer : Peer T) → peer_at middle key ≡ Some peer → IsReadyForClient key peer middle new
      pub settled : progress ≡ Blocked → IsSettled key progress now outcome middle new log after

    -- the connection with this key had a share of a turn, in which it received until its stream had nothing or its share was
    -- used, and what follows that was done
    pub record HasHungUp (has_blocked : T → Type 0) (key now : ℕ) (old new : Table T) (log after : L) : Type 0 where
      pub middle : Table T
      pub progress : Progress
      pub outcome : Outcome
      pub others : KeepsOthers key old middle
      pub moved : HasMovedAt key old middle
      pub still : progress ≢ Moved
      pub received : HasReceivedAt has_blocked key progress middle
      pub settled : IsSettled key progress now outcome middle new log after
