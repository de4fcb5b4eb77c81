-- The records of a log of connections.
use Rattle.std.specs.Prelude.{◌≡◌, ◌+◌, if◌then◌else◌, ℕ, List, [], ◌∷◌}
use Rattle.std.specs.declared.net.socket_addr.SocketAddr.{SocketAddr}
use Rattle.node_connection.specs.declared.connection.Connection.{Connection}
use Rattle.node_connection.specs.States.{is_response_sent_in}
use Rattle.node_table.specs.declared.log.CloseCause.{CloseCause}
use Rattle.node_table.specs.declared.log.CloseCause.TheVariants.{Complete}

-- a connection is accepted; a response was sent and its connection persists; a connection is removed. The number is a
-- time in microseconds
pub data Entry : Type 0 where
  Accepted : SocketAddr → Entry
  Responded : SocketAddr → Connection → ℕ → Entry
  Closed : SocketAddr → Connection → CloseCause → ℕ → Entry

-- calls that recorded these entries, the newest first, and no other call, changed the log from the one value to the other
abbrev pub AreRecorded : {L : Type 0} → (L → Entry → L → Type 0) → L → List Entry → L → Type 0
AreRecorded {L} records old [] new = new ≡ old
AreRecorded {L} records old (entry ∷ earlier) new = (before : L) × AreRecorded records old earlier before × records before entry new

-- the number of connections that are removed
abbrev pub closings : List Entry → ℕ
closings [] = 0
closings (Accepted addr ∷ earlier) = closings earlier
closings (Responded addr connection micros ∷ earlier) = closings earlier
closings (Closed addr connection cause micros ∷ earlier) = closings earlier + 1

-- why the connection is closed, if this is why unless its last response was sent whole
abbrev pub cause_in : Connection → CloseCause → CloseCause
cause_in connection cause = if is_response_sent_in connection.phase then Complete else cause

-- each removal was recorded for this cause, or because the last response was sent whole
abbrev pub AreFor : CloseCause → List Entry → Type 0
AreFor cause [] = Unit {0}
AreFor cause (Accepted addr ∷ earlier) = AreFor cause earlier
AreFor cause (Responded addr connection micros ∷ earlier) = AreFor cause earlier
AreFor cause (Closed addr connection given micros ∷ earlier) = (given ≡ cause_in connection cause) × AreFor cause earlier

-- so many removals were recorded, for this cause, and perhaps responses
pub record HasRecorded {L : Type 0} (records : L → Entry → L → Type 0) (cause : CloseCause) (count : ℕ) (old new : L) : Type 0 where
  pub entries : List Entry
  pub recorded : AreRecorded records old entries new
  pub counted : closings entries ≡ count
  pub causes : AreFor cause entries
