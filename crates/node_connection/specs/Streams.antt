-- The bytes exchanged between a connection and its reader and writer.
use Rattle.std.specs.Prelude.{◌≡◌, ◌≢◌, ◌≤◌, ◌+◌, ◌⊎◌, ℕ, List, [], ◌∷◌, ◌++◌, length, Option}
use Rattle.std.specs.Io.KnownBytes.{Consumes, Appends}
use Rattle.node_connection.specs.declared.connection.Connection.{Connection}
use Rattle.node_connection.specs.declared.phase.Wants.{Wants}
use Rattle.node_connection.specs.declared.phase.Wants.TheVariants as wants
use Rattle.node_connection.specs.declared.streams.Share.{Share}
use Rattle.node_connection.specs.declared.streams.Progress.{Progress}
use Rattle.node_connection.specs.declared.streams.Progress.TheVariants.{Moved, Blocked, Spent}
use Rattle.node_connection.specs.Events.{Event, Received, Responded, Sent, Continued, Resumed, Elapsed, received_bytes, requests_in, sent_bytes}
use Rattle.node_connection.specs.Responses.{Responses, IsRespondedTo, IsServed, LacksResponse}
use Rattle.node_connection.specs.States.{HasState, wants_in}

-- each response made in this period is one to its request
abbrev pub AreResponses : Responses → List Event → Type 0
AreResponses replies [] = Unit {0}
AreResponses replies (Received bytes ∷ more) = AreResponses replies more
AreResponses replies (Sent bytes ∷ more) = AreResponses replies more
AreResponses replies (Responded request reply ∷ more) = IsRespondedTo replies request reply × AreResponses replies more
AreResponses replies (Continued ∷ more) = AreResponses replies more
AreResponses replies (Resumed idle ∷ more) = AreResponses replies more
AreResponses replies (Elapsed millis ∷ more) = AreResponses replies more

-- more events occurred, and the connection has the state that they determine: the bytes received are those that the
-- reader returned, and the bytes sent are those that the writer accepted; the share covers the bytes received and the
-- responses made, and nothing else uses it up but a response for which there was no memory
pub record HasAdvanced (replies : Responses) (share left : Share) (new : Connection) (history : List Event)
    (unread read : Option (List ℕ)) (unwritten written : Option (List ℕ)) : Type 0 where
  pub more : List Event
  pub state : HasState new (more ++ history)
  pub replies_made : AreResponses replies more
  pub bytes_received : Consumes unread read (received_bytes more)
  pub bytes_sent : Appends unwritten written (sent_bytes more)
  pub bytes_counted : length (received_bytes more) + left.bytes ≡ share.bytes
  pub replies_covered : length (requests_in more) + left.responses ≤ share.responses
  pub replies_counted : (length (requests_in more) + left.responses ≡ share.responses) ⊎ LacksResponse replies

-- the same whatever occurred before
abbrev pub IsAdvanced : Responses → Share → Share → Connection → Connection → Option (List ℕ) → Option (List ℕ) → Option (List ℕ) → Option (List ℕ) → Type 0
IsAdvanced replies share left old new unread read unwritten written =
    (history : List Event) → HasState old history → HasAdvanced replies share left new history unread read unwritten written

-- the same for the reader alone; nothing is sent, and no response is made
pub record HasRead (share left : Share) (new : Connection) (history : List Event) (unread read : Option (List ℕ)) : Type 0 where
  pub more : List Event
  pub state : HasState new (more ++ history)
  pub no_reply_made : requests_in more ≡ []
  pub bytes_received : Consumes unread read (received_bytes more)
  pub none_sent : sent_bytes more ≡ []
  pub bytes_counted : length (received_bytes more) + left.bytes ≡ share.bytes
  pub replies_kept : left.responses ≡ share.responses

-- the same for the writer alone
pub record HasWritten (new : Connection) (history : List Event) (unwritten written : Option (List ℕ)) : Type 0 where
  pub more : List Event
  pub state : HasState new (more ++ history)
  pub no_reply_made : requests_in more ≡ []
  pub bytes_sent : Appends unwritten written (sent_bytes more)
  pub none_received : received_bytes more ≡ []

-- a connection does not stop at bytes that it could parse, and stops for its share only once that is used
abbrev pub IsStopped : Progress → Share → Connection → Type 0
IsStopped Moved left new = Unit {0}
IsStopped Blocked left new = wants_in new.phase ≢ wants.Parse
IsStopped Spent left new = (left.bytes ≡ 0) ⊎ (left.responses ≡ 0)

-- the connection waits for this and the stream has blocked; or the connection is over
abbrev pub WaitsFor : Wants → Type 0 → Connection → Type 0
WaitsFor wanted has_blocked new = ((wants_in new.phase ≡ wanted) × has_blocked) ⊎ (wants_in new.phase ≡ wants.Close)

-- the promise: if each response is one to its request, the bytes sent serve the bytes received
abbrev pub AllIsServed : (replies : Responses) → Type 0
AllIsServed replies = (connection : Connection) (history : List Event) → HasState connection history → AreResponses replies history
    → IsServed replies (received_bytes history) (sent_bytes history)
