-- The events of a connection, the newest first.
use Rattle.std.specs.Prelude.{ℕ, ◌+◌, nat_le, Bool, false, if◌then◌else◌, List, [], ◌∷◌, ◌++◌, length, codes}
use Rattle.node_connection.specs.Requests.{Request}

-- `Continued` is the moment at which the interim response is made. `Resumed` is the one at which the connection turns
-- to the next request: it is idle, or it has received a part of that request already
pub data Event : Type 0 where
  Received Sent : List ℕ → Event
  Responded : Request → List ℕ → Event
  Continued : Event
  Resumed : Bool → Event
  Elapsed : ℕ → Event

-- all bytes received
abbrev pub received_bytes : List Event → List ℕ
received_bytes [] = []
received_bytes (Received bytes ∷ earlier) = received_bytes earlier ++ bytes
received_bytes (Sent bytes ∷ earlier) = received_bytes earlier
received_bytes (Responded request reply ∷ earlier) = received_bytes earlier
received_bytes (Continued ∷ earlier) = received_bytes earlier
received_bytes (Resumed idle ∷ earlier) = received_bytes earlier
received_bytes (Elapsed millis ∷ earlier) = received_bytes earlier

-- all bytes sent, which the peer accepted
abbrev pub sent_bytes : List Event → List ℕ
sent_bytes [] = []
sent_bytes (Received bytes ∷ earlier) = sent_bytes earlier
sent_bytes (Sent bytes ∷ earlier) = sent_bytes earlier ++ bytes
sent_bytes (Responded request reply ∷ earlier) = sent_bytes earlier
sent_bytes (Continued ∷ earlier) = sent_bytes earlier
sent_bytes (Resumed idle ∷ earlier) = sent_bytes earlier
sent_bytes (Elapsed millis ∷ earlier) = sent_bytes earlier

-- the requests to which a response was made, the first one first
abbrev pub requests_in : List Event → List Request
requests_in [] = []
requests_in (Received bytes ∷ earlier) = requests_in earlier
requests_in (Sent bytes ∷ earlier) = requests_in earlier
requests_in (Responded request reply ∷ earlier) = requests_in earlier ++ request ∷ []
requests_in (Continued ∷ earlier) = requests_in earlier
requests_in (Resumed idle ∷ earlier) = requests_in earlier
requests_in (Elapsed millis ∷ earlier) = requests_in earlier

-- the interim response to a client that waits before it sends the body (RFC 9110, section 15.2.1)
abbrev pub continue_text : List ℕ
continue_text = codes "HTTP/1.1 100 Continue\r\n\r\n"

-- the bytes of the responses, in the same order, and of the interim ones between them
abbrev pub response_bytes : List Event → List ℕ
response_bytes [] = []
response_bytes (Received bytes ∷ earlier) = response_bytes earlier
response_bytes (Sent bytes ∷ earlier) = response_bytes earlier
response_bytes (Responded request reply ∷ earlier) = response_bytes earlier ++ reply
response_bytes (Continued ∷ earlier) = response_bytes earlier ++ continue_text
response_bytes (Resumed idle ∷ earlier) = response_bytes earlier
response_bytes (Elapsed millis ∷ earlier) = response_bytes earlier

-- the interim response that was made since the last response
abbrev pub interim : List Event → List ℕ
interim [] = []
interim (Received bytes ∷ earlier) = interim earlier
interim (Sent bytes ∷ earlier) = interim earlier
interim (Responded request reply ∷ earlier) = []
interim (Continued ∷ earlier) = interim earlier ++ continue_text
interim (Resumed idle ∷ earlier) = interim earlier
interim (Elapsed millis ∷ earlier) = interim earlier

-- the bytes of the current response that the peer accepted
abbrev pub sent_len : List Event → ℕ
sent_len [] = 0
sent_len (Received bytes ∷ earlier) = sent_len earlier
sent_len (Sent bytes ∷ earlier) = sent_len earlier + length bytes
sent_len (Responded request reply ∷ earlier) = 0
sent_len (Continued ∷ earlier) = 0
sent_len (Resumed idle ∷ earlier) = 0
sent_len (Elapsed millis ∷ earlier) = sent_len earlier

-- the last response that was made, or the interim one
abbrev pub last_response : List Event → List ℕ
last_response [] = []
last_response (Received bytes ∷ earlier) = last_response earlier
last_response (Sent bytes ∷ earlier) = last_response earlier
last_response (Responded request reply ∷ earlier) = reply
last_response (Continued ∷ earlier) = continue_text
last_response (Resumed idle ∷ earlier) = last_response earlier
last_response (Elapsed millis ∷ earlier) = last_response earlier

-- the connection waits for the first byte of the next request
abbrev pub is_idle : List Event → Bool
is_idle [] = false
is_idle (Received bytes ∷ earlier) = false
is_idle (Sent bytes ∷ earlier) = is_idle earlier
is_idle (Responded request reply ∷ earlier) = false
is_idle (Continued ∷ earlier) = false
is_idle (Resumed idle ∷ earlier) = idle
is_idle (Elapsed millis ∷ earlier) = is_idle earlier

-- the number of bytes of a response that the peer must accept within the time limit
abbrev pub min_progress : ℕ
min_progress = 16384

-- the bytes sent since the timer was last restarted
abbrev pub sent_since : List Event → ℕ
sent_since [] = 0
sent_since (Received bytes ∷ earlier) = sent_since earlier
sent_since (Sent bytes ∷ earlier) = if nat_le min_progress (sent_since earlier + length bytes) then 0 else sent_since earlier + length bytes
sent_since (Responded request reply ∷ earlier) = 0
sent_since (Continued ∷ earlier) = sent_since earlier
sent_since (Resumed idle ∷ earlier) = 0
sent_since (Elapsed millis ∷ earlier) = sent_since earlier

-- the milliseconds since the timer was last restarted: when the connection or a response began, when the peer accepted
-- enough of the response, when the response was sent and the connection resumed, and when the first bytes of a request
-- came to an idle connection
abbrev pub elapsed : List Event → ℕ
elapsed [] = 0
elapsed (Received bytes ∷ earlier) = if is_idle earlier then 0 else elapsed earlier
elapsed (Sent bytes ∷ earlier) = if nat_le min_progress (sent_since earlier + length bytes) then 0 else elapsed earlier
elapsed (Responded request reply ∷ earlier) = 0
elapsed (Continued ∷ earlier) = elapsed earlier
elapsed (Resumed idle ∷ earlier) = 0
elapsed (Elapsed millis ∷ earlier) = elapsed earlier + millis
