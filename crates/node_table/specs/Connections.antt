-- The facts about a connection that the table uses.
use Rattle.std.specs.Prelude.{◌≡◌, ◌≢◌, ◌≤◌, ◌+◌, ◌⊎◌, List, ◌++◌, length}
use Rattle.node_connection.specs.declared.connection.Connection.{Connection}
use Rattle.node_connection.specs.declared.streams.Share.{Share}
use Rattle.node_connection.specs.declared.streams.Progress.{Progress}
use Rattle.node_connection.specs.declared.streams.Progress.TheVariants.{Moved}
use Rattle.node_connection.specs.Events.{Event, received_bytes, requests_in}
use Rattle.node_connection.specs.Responses.{Responses, LacksResponse}
use Rattle.node_connection.specs.States.{HasState}
use Rattle.node_connection.specs.Streams.{AreResponses, IsStopped}

-- the connection has the state that some history determines
abbrev pub IsConnection : Connection → Type 0
IsConnection connection = ∥ ((history : List Event) × HasState connection history) ∥₁

-- more events occurred, with responses that are right, and the connection has the state that they determine. The share
-- covers the bytes received and the responses made. Nothing else uses it up but a response for which there was no
-- memory
pub record HasMoved (replies : Responses) (share left : Share) (new : Connection) (history : List Event) : Type 0 where
  pub more : List Event
  pub state : HasState new (more ++ history)
  pub replies_made : AreResponses replies more
  pub bytes_counted : length (received_bytes more) + left.bytes ≡ share.bytes
  pub replies_covered : length (requests_in more) + left.responses ≤ share.responses
  pub replies_counted : (length (requests_in more) + left.responses ≡ share.responses) ⊎ LacksResponse replies

-- the same whatever the responses are
pub record HasUsed (share left : Share) (new : Connection) (history : List Event) : Type 0 where
  pub more : List Event
  pub state : HasState new (more ++ history)
  pub bytes_counted : length (received_bytes more) + left.bytes ≡ share.bytes
  pub replies_covered : length (requests_in more) + left.responses ≤ share.responses

-- a connection had its share of a turn. It makes the responder's responses, whatever the others hold, and stops because
-- it waits or because the share is used
pub record HasServed (replies : Responses) (progress : Progress) (share left : Share) (old new : Connection) : Type 0 where
  pub moved : (history : List Event) → HasState old history → HasMoved replies share left new history
  pub still : progress ≢ Moved
  pub stopped : IsStopped progress left new
