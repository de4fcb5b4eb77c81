-- The places for new connections, and the connections that are closed for them.
use Rattle.std.specs.Prelude.{◌≡◌, ◌+◌, ◌-◌, ◌*◌, ◌<◌, ◌≤◌, ◌⊎◌, ℕ, zero, suc, false, true, List, [], ◌∷◌, length, All, Contains, Option, Some, IsSome}
use Rattle.std.specs.declared.cmp.Ordering.{Ordering}
use Rattle.std.specs.Ordering.{nat_cmp, ordering_then}
use Rattle.node_connection.specs.declared.connection.Connection.{Connection}
use Rattle.node_connection.specs.declared.phase.Shortage.TheVariants.{Places}
use Rattle.node_connection.specs.States.{closing_rank}
use Rattle.node_table.specs.declared.log.CloseCause.TheVariants.{Evicted}
use Rattle.node_table.specs.declared.peer.Peer.{Peer}
use Rattle.node_table.specs.declared.table.Table.{Table}
use Rattle.node_table.specs.Logs.{Entry}
use Rattle.node_table.specs.Tables.{peer_at, size_of, waits, IsFirstToClose, IsRemoved}

-- a time that no connection reaches, in milliseconds
abbrev pub elapsed_end : ℕ
elapsed_end = 18446744073709551616

-- what a connection has in the order of closing: the one with the most is closed first for a place
abbrev pub closing_priority : Connection → ℕ
closing_priority connection = closing_rank Places connection * elapsed_end + connection.elapsed

-- entries of that order, each with the key of its connection, compare by their priorities first
abbrev pub compare_entries : ℕ × ℕ → ℕ × ℕ → Ordering
compare_entries one other = ordering_then (nat_cmp one.0 other.0) (nat_cmp one.1 other.1)

module _ {T : Type 0} where
  -- the connection with this key may be closed for a place: it does not wait for its share
  abbrev pub IsClosable : Table T → ℕ → Type 0
  IsClosable table key = IsSome (peer_at table key) × (waits Places table key ≡ false)

  -- so many connections can be added, or none is left that may be closed for a place
  abbrev pub HasRoomFor : ℕ → Table T → Type 0
  HasRoomFor count table = (size_of table + count ≤ table.clients) ⊎ ((key : ℕ) → ¬ (IsClosable table key))

  -- these are keys below a limit of connections that may be closed, the greatest first
  abbrev pub AreClosable : Table T → ℕ → List ℕ → Type 0
  AreClosable table limit [] = Unit {0}
  AreClosable table limit (key ∷ keys) = (key < limit) × IsClosable table key × AreClosable table key keys

  -- so many connections can be added, at most `most`: one for each free place, and for each that may be closed
  pub record HasPlaces (table : Table T) (most count : ℕ) : Type 0 where
    pub limit : ℕ
    pub keys : List ℕ
    pub closable : AreClosable table limit keys
    pub few : count ≤ most
    pub enough : count ≤ (table.clients - size_of table) + length keys
    pub all : count < most → (count ≡ (table.clients - size_of table) + length keys) × ((key : ℕ) → IsClosable table key → Contains keys key)

  -- an entry is of its connection, if that is there
  abbrev pub IsEntry : Table T → ℕ × ℕ → Type 0
  IsEntry table entry =
      (peer : Peer T) → peer_at table entry.1 ≡ Some peer
      → (entry.0 ≡ closing_priority peer.connection) × (peer.connection.elapsed < elapsed_end) × (waits Places table entry.1 ≡ false)

  -- the entries of all connections below a limit that may be closed
  pub record IsOrderBelow (table : Table T) (limit : ℕ) (entries : List (ℕ × ℕ)) : Type 0 where
    pub each : All (IsEntry table) entries
    pub all : (key : ℕ) (peer : Peer T) → key < limit → peer_at table key ≡ Some peer → waits Places table key ≡ false
        → Contains entries (closing_priority peer.connection, key)

  -- those of all
  abbrev pub IsOrder : Table T → List (ℕ × ℕ) → Type 0
  IsOrder table entries = (limit : ℕ) → IsOrderBelow table limit entries

  module _ {L : Type 0} (records : L → Entry → L → Type 0) where
    -- a connection was closed for a place that does not wait, and is the first of all to be closed
    pub record IsEviction (now : ℕ) (old new : Table T) (log after : L) : Type 0 where
      pub key : ℕ
      pub first : IsFirstToClose Places old key
      pub idle : waits Places old key ≡ false
      pub removed : IsRemoved records key Evicted now old new log after

    -- so many were closed, one after the other
    abbrev pub AreEvictions : ℕ → ℕ → Table T → Table T → L → L → Type 0
    AreEvictions zero now old new log after = (new ≡ old) × (after ≡ log)
    AreEvictions (suc count) now old new log after =
        (middle : Table T) × (between : L) × AreEvictions count now old middle log between × IsEviction now middle new between after
