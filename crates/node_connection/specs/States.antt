-- The state of a connection, as determined by its events.
use Rattle.std.specs.Prelude.{◌≡◌, ◌≢◌, ◌==◌, ◌&&◌, ◌||◌, nat_lt, if◌then◌else◌, ◌≤◌, ◌<◌, ◌+◌, ◌-◌, ◌⊎◌, ℕ, Bool, true, false, List, [], ◌∷◌, ◌++◌, length, take, drop, Some, vec_capacity}
use Rattle.httparse.specs.Grammar.{RequestHead, print_request}
use Rattle.feed_http_heads.specs.Limits.{head_limit, field_limit}
use Rattle.feed_http_heads.specs.Options.{SaysWhetherItKeeps}
use Rattle.feed_http_heads.specs.RequestHeads.{BeginsWithHead, IsUnfinished}
use Rattle.node_connection.specs.declared.connection.Connection.{Connection}
use Rattle.node_connection.specs.declared.phase.ConnectionPhase.{ConnectionPhase}
use Rattle.node_connection.specs.declared.phase.ConnectionPhase.TheVariants.{Idle, Receiving, Parsing, Sending, Answered, Lingering, Complete, Aborted}
use Rattle.node_connection.specs.declared.phase.Shortage.{Shortage}
use Rattle.node_connection.specs.declared.phase.Shortage.TheVariants.{Places, Memory}
use Rattle.node_connection.specs.declared.phase.TimeLimits.{TimeLimits}
use Rattle.node_connection.specs.declared.phase.Wants.{Wants}
use Rattle.node_connection.specs.declared.phase.Wants.TheVariants as wants
use Rattle.node_connection.specs.declared.head_state.AfterResponse.{AfterResponse}
use Rattle.node_connection.specs.declared.head_state.AfterResponse.TheVariants.{Persist, Linger, Receive}
use Rattle.node_connection.specs.Events.{Event, Received, Sent, Responded, Continued, Resumed, Elapsed, interim, continue_text}
use Rattle.node_connection.specs.Events.{received_bytes, response_bytes, last_response, requests_in, sent_bytes, sent_len, sent_since, elapsed, is_idle}
use Rattle.node_connection.specs.Requests.{Request, AreRequestsIn, IsLastOf, all_persist, states_len, body_limit, expects_continue}
use Rattle.node_connection.specs.Responses.{Responses, HasNoResponse, IsRespondedTo, IsInterim, IsPending, after_response, unavailable}

-- each interim response was one that its client expects
abbrev pub AreInterims : List Event → Type 0
AreInterims [] = Unit {0}
AreInterims (Received bytes ∷ earlier) = AreInterims earlier
AreInterims (Sent bytes ∷ earlier) = AreInterims earlier
AreInterims (Responded request reply ∷ earlier) = IsInterim request (interim earlier) × AreInterims earlier
AreInterims (Continued ∷ earlier) = AreInterims earlier
AreInterims (Resumed idle ∷ earlier) = AreInterims earlier
AreInterims (Elapsed millis ∷ earlier) = AreInterims earlier

-- and so is the one to the request at the front of the bytes
abbrev pub AreExpected : List Event → List ℕ → Type 0
AreExpected history rest = AreInterims history × IsPending rest (interim history)

-- the requests with responses are the first in the bytes received, these bytes follow them, and another may have a
-- response
pub record IsServedUpTo (history : List Event) (rest : List ℕ) : Type 0 where
  pub in_order : AreRequestsIn (received_bytes history) (requests_in history) rest
  pub persists : all_persist (requests_in history) ≡ true
  pub expected : AreExpected history rest

-- the requests with responses are the first in the bytes received
abbrev pub AreFirst : List Event → Type 0
AreFirst history = (rest : List ℕ) × AreRequestsIn (received_bytes history) (requests_in history) rest × AreExpected history rest

-- and the last of them ended the connection
abbrev pub HasEnded : List Event → Type 0
HasEnded history = AreFirst history × (all_persist (requests_in history) ≡ false)

-- all responses were sent
abbrev pub AreSent : List Event → Type 0
AreSent history = response_bytes history ≡ sent_bytes history

-- the bytes sent are the beginning of the responses
abbrev pub IsFrontSent : List Event → Type 0
IsFrontSent history = (unsent : List ℕ) × (response_bytes history ≡ sent_bytes history ++ unsent)

-- the time that a connection may take now
abbrev pub limit_in : Bool → TimeLimits → ℕ
limit_in true limits = limits.idle
limit_in false limits = limits.step

-- the timer and the bytes that restart it are right, and time is left
pub record IsInTime (idle : Bool) (connection : Connection) (history : List Event) : Type 0 where
  pub idleness : is_idle history ≡ idle
  pub counted_time : connection.elapsed ≡ elapsed history
  pub counted_bytes : connection.sent_since ≡ sent_since history
  pub left : connection.elapsed < limit_in idle connection.limits

-- the bytes held after the request with the current response
abbrev pub rest_of : Connection → List ℕ
rest_of connection = drop connection.request_len connection.received.bytes.items

-- the connection knows whether it made the interim response
abbrev pub KnowsInterim : Connection → List Event → Type 0
KnowsInterim connection history = interim history ≡ (if connection.is_continued then continue_text else [])

-- each request before the bytes held has its response, and the responses were sent
pub record IsCurrent (idle : Bool) (connection : Connection) (history : List Event) : Type 0 where
  pub served : IsServedUpTo history connection.received.bytes.items
  pub knows : KnowsInterim connection history
  pub sent : AreSent history
  pub in_time : IsInTime idle connection history

-- no byte of the next request was received
pub record IsIdle (connection : Connection) (history : List Event) : Type 0 where
  pub current : IsCurrent true connection history
  pub none : connection.received.bytes.items ≡ []

-- the bytes begin with a head, and the body that it states is not whole; a client that expects an interim response had
-- it
pub record IsPartial (is_continued : Bool) (bytes : List ℕ) : Type 0 where
  pub head : RequestHead
  pub begins : BeginsWithHead head_limit field_limit bytes head
  pub size : ℕ
  pub states : states_len head size ≡ true
  pub small : size ≤ body_limit
  pub missing : length bytes < length (print_request head) + size
  pub told : expects_continue head ≡ true → is_continued ≡ true

-- the request at the front of the bytes is not whole
abbrev pub IsIncomplete : Bool → List ℕ → Type 0
IsIncomplete is_continued bytes = IsUnfinished head_limit bytes ⊎ IsPartial is_continued bytes

-- the bytes held are not a whole request, and may become one
pub record IsReceiving (connection : Connection) (history : List Event) : Type 0 where
  pub current : IsCurrent false connection history
  pub incomplete : IsIncomplete connection.is_continued connection.received.bytes.items

-- what follows the request with the current response
abbrev pub IsAfterResponse : AfterResponse → Connection → List Event → Type 0
IsAfterResponse Persist connection history = IsServedUpTo history (rest_of connection) × (interim history ≡ [])
IsAfterResponse Linger connection history = HasEnded history
IsAfterResponse Receive connection history = IsServedUpTo history connection.received.bytes.items × KnowsInterim connection history

-- a part of the last response remains to be sent
pub record IsSending (connection : Connection) (history : List Event) : Type 0 where
  pub after : IsAfterResponse connection.after connection history
  pub sent : response_bytes history ≡ sent_bytes history ++ drop connection.sent connection.reply.items
  pub more : connection.sent < length connection.reply.items
  pub sent_is : connection.sent ≡ sent_len history
  pub reply_is : connection.reply.items ≡ last_response history
  pub in_time : IsInTime false connection history

-- all responses were sent, the last one is freed, and another request may be answered
pub record IsAnswered (connection : Connection) (history : List Event) : Type 0 where
  pub served : IsServedUpTo history (rest_of connection)
  pub no_interim : interim history ≡ []
  pub sent : AreSent history
  pub freed : connection.reply.items ≡ []
  pub in_time : IsInTime false connection history

-- all responses were sent, the last one is freed, and no other request is answered
pub record IsComplete (connection : Connection) (history : List Event) : Type 0 where
  pub ended : HasEnded history
  pub sent : AreSent history
  pub freed : connection.reply.items ≡ []

-- and time is left for the peer to close its side
pub record IsLingering (connection : Connection) (history : List Event) : Type 0 where
  pub complete : IsComplete connection history
  pub in_time : IsInTime false connection history

abbrev pub HasStateIn : ConnectionPhase → Connection → List Event → Type 0
HasStateIn Idle connection history = IsIdle connection history
HasStateIn Receiving connection history = IsReceiving connection history
HasStateIn Parsing connection history = IsCurrent false connection history
HasStateIn Sending connection history = IsSending connection history
HasStateIn Answered connection history = IsAnswered connection history
HasStateIn Lingering connection history = IsLingering connection history
HasStateIn Complete connection history = IsComplete connection history
HasStateIn Aborted connection history = AreFirst history × IsFrontSent history

-- the bytes of the request whose response is sent
abbrev pub request_of : Connection → List ℕ
request_of connection = take connection.request_len connection.received.bytes.items

-- if there is a request whose response is sent, it is the last one with a response
abbrev pub KnowsRequest : Connection → List Event → Type 0
KnowsRequest connection history = (connection.request_len ≡ 0) ⊎ IsLastOf (requests_in history) (request_of connection)

-- the connection has the state that this history determines, and knows how much of the current response was sent, and
-- to which request
abbrev pub HasState : Connection → List Event → Type 0
HasState connection history =
    HasStateIn connection.phase connection history × (connection.sent_len ≡ sent_len history) × KnowsRequest connection history

-- a response to the next request was made; or the responder made none, and memory ran out for the one that says so
abbrev pub HasMadeResponse : Responses → Connection → List Event → Type 0
HasMadeResponse replies connection history =
    ((request : Request) × (reply : List ℕ) × IsRespondedTo replies request reply × HasState connection (Responded request reply ∷ history))
    ⊎ ((bytes : List ℕ) × (body : List ℕ) × HasNoResponse replies bytes body × (connection.phase ≡ Aborted) × HasState connection history)

-- the bytes held are an incomplete request; or the interim response was made, or memory ran out for it
abbrev pub HasWaited : Connection → List Event → Type 0
HasWaited connection history =
    ((connection.phase ≡ Receiving) × HasState connection history)
    ⊎ (HasState connection (Continued ∷ history) ⊎ ((connection.phase ≡ Aborted) × HasState connection history))

-- the bytes held were parsed: they are an incomplete request, or it was responded to
abbrev pub HasParsed : Responses → Bool → Connection → List Event → Type 0
HasParsed replies false connection history = HasWaited connection history
HasParsed replies true connection history = HasMadeResponse replies connection history

-- the phase after the whole response was sent
abbrev pub phase_after : AfterResponse → ConnectionPhase
phase_after Persist = Answered
phase_after Linger = Lingering
phase_after Receive = Parsing

-- the phase in which a response begins
abbrev pub first_phase : List ℕ → AfterResponse → ConnectionPhase
first_phase [] after = phase_after after
first_phase (byte ∷ bytes) after = Sending

-- the response to this number of bytes begins
pub record HasBegunResponse (reply : List ℕ) (size : ℕ) (after : AfterResponse) (old new : Connection) : Type 0 where
  pub text : new.reply.items ≡ reply
  pub sent : new.sent ≡ 0
  pub sent_len : new.sent_len ≡ 0
  pub request_len : new.request_len ≡ size
  pub after_is : new.after ≡ after
  pub received : new.received.bytes.items ≡ old.received.bytes.items
  pub phase : new.phase ≡ first_phase reply after
  pub sent_since : new.sent_since ≡ 0
  pub elapsed : new.elapsed ≡ 0

-- the interim response begins; the timer is not restarted
pub record HasBegunInterim (old new : Connection) : Type 0 where
  pub text : new.reply.items ≡ continue_text
  pub sent : new.sent ≡ 0
  pub sent_len : new.sent_len ≡ 0
  pub after_is : new.after ≡ Receive
  pub received : new.received.bytes.items ≡ old.received.bytes.items
  pub phase : new.phase ≡ Sending
  pub is_continued : new.is_continued ≡ true
  pub sent_since : new.sent_since ≡ old.sent_since
  pub elapsed : new.elapsed ≡ old.elapsed
  pub request_len : new.request_len ≡ old.request_len

-- memory ran out
abbrev pub HasAborted : Connection → Connection → Type 0
HasAborted old new =
    (new.phase ≡ Aborted) × (new.sent_len ≡ old.sent_len) × (new.request_len ≡ old.request_len)
    × (new.received.bytes.items ≡ old.received.bytes.items)

-- the responder made no response to the first bytes: the connection says so, or memory ran out for that too
abbrev pub HasRefused : ℕ → Connection → Connection → Type 0
HasRefused size old new = HasBegunResponse unavailable size Linger old new ⊎ HasAborted old new

-- what a wait leaves as it is
pub record IsSameButPhase (old new : Connection) : Type 0 where
  pub received : new.received.bytes.items ≡ old.received.bytes.items
  pub is_continued : new.is_continued ≡ old.is_continued
  pub sent_len : new.sent_len ≡ old.sent_len
  pub sent_since : new.sent_since ≡ old.sent_since
  pub elapsed : new.elapsed ≡ old.elapsed
  pub request_len : new.request_len ≡ old.request_len

-- the connection waits for the body of the request: it makes the interim response if the client expects one that it did
-- not get, or memory ran out for that
abbrev pub HasBegunWait : Bool → Connection → Connection → Type 0
HasBegunWait true old new = HasBegunInterim old new ⊎ HasAborted old new
HasBegunWait false old new = (new.phase ≡ Receiving) × IsSameButPhase old new

-- the bytes of a body behind a head
abbrev pub body_after : ℕ → ℕ → List ℕ → List ℕ
body_after head_len body_len bytes = take body_len (drop head_len bytes)

-- the response to a head and a body with such lengths begins, or the responder made none
abbrev pub HasResponded : Responses → ℕ → ℕ → Bool → Connection → Connection → Type 0
HasResponded replies head_len body_len persists old new =
    ((reply : List ℕ)
    × replies.1 (take head_len old.received.bytes.items) (body_after head_len body_len old.received.bytes.items) persists (Some reply)
    × SaysWhetherItKeeps persists reply × HasBegunResponse reply (head_len + body_len) (after_response persists) old new)
    ⊎ (HasNoResponse replies (take head_len old.received.bytes.items) (body_after head_len body_len old.received.bytes.items)
    × HasRefused (head_len + body_len) old new)

-- the most bytes that are held: a head and a body
abbrev pub request_limit : ℕ
request_limit = head_limit + body_limit

-- the number of bytes that may be received at once
abbrev pub room_in : ConnectionPhase → Connection → ℕ
room_in Idle connection = request_limit - length connection.received.bytes.items
room_in Receiving connection = request_limit - length connection.received.bytes.items
room_in Lingering connection = request_limit
room_in phase connection = 0

abbrev pub room_of : Connection → ℕ
room_of connection = room_in connection.phase connection

-- the part of the response that remains to be sent
abbrev pub pending_in : ConnectionPhase → Connection → List ℕ
pending_in Sending connection = drop connection.sent connection.reply.items
pending_in phase connection = []

abbrev pub pending_of : Connection → List ℕ
pending_of connection = pending_in connection.phase connection

-- the event that a connection waits for
abbrev pub wants_in : ConnectionPhase → Wants
wants_in Idle = wants.Bytes
wants_in Receiving = wants.Bytes
wants_in Parsing = wants.Parse
wants_in Sending = wants.Room
wants_in Answered = wants.Next
wants_in Lingering = wants.Bytes
wants_in Complete = wants.Close
wants_in Aborted = wants.Close

abbrev pub is_idle_in : ConnectionPhase → Bool
is_idle_in Idle = true
is_idle_in phase = false

abbrev pub is_lingering_in : ConnectionPhase → Bool
is_lingering_in Lingering = true
is_lingering_in phase = false

abbrev pub is_response_sent_in : ConnectionPhase → Bool
is_response_sent_in Answered = true
is_response_sent_in Lingering = true
is_response_sent_in Complete = true
is_response_sent_in phase = false

-- the bytes that are allocated for the response, from when it is made until it is freed
abbrev pub allocated_bytes : Connection → ℕ
allocated_bytes connection = vec_capacity connection.reply

-- the class of a connection among those that are closed for a place: first those that have all their responses, then
-- those that read theirs
abbrev pub closing_class : ConnectionPhase → ℕ
closing_class Receiving = 0
closing_class Parsing = 0
closing_class Sending = 1
closing_class phase = 2

-- the rank of a connection among those that may be closed: for a place its class, and for memory what its response
-- takes
abbrev pub closing_rank : Shortage → Connection → ℕ
closing_rank Places connection = closing_class connection.phase
closing_rank Memory connection = allocated_bytes connection

-- the first is closed before the second: it has a greater rank, or the same and made no progress for longer
abbrev pub is_closed_before : Shortage → Connection → Connection → Bool
is_closed_before shortage first second =
    nat_lt (closing_rank shortage second) (closing_rank shortage first)
    || ((closing_rank shortage first == closing_rank shortage second) && nat_lt second.elapsed first.elapsed)

-- the properties of a connection after any history. The requests with responses are the first in the bytes received,
-- and the bytes sent are the beginning of the responses. Once the last response is sent, it is freed and all are sent.
-- An open connection holds a response only while it sends it, so never while the next one is made. Another request is
-- answered unless the last one ended the connection. While the connection waits for a request, each one before the
-- bytes held was answered, and those bytes are not a whole request. Past its time it waits for nothing
pub record IsRightAfter (connection : Connection) (history : List Event) : Type 0 where
  pub first : AreFirst history
  pub front : IsFrontSent history
  pub whole : is_response_sent_in connection.phase ≡ true → AreSent history × (connection.reply.items ≡ [])
  pub frees : wants_in connection.phase ≢ wants.Room → wants_in connection.phase ≢ wants.Close → allocated_bytes connection ≡ 0
  pub persists : connection.phase ≡ Answered → all_persist (requests_in history) ≡ true
  pub ends : (connection.phase ≡ Lingering) ⊎ (connection.phase ≡ Complete) → all_persist (requests_in history) ≡ false
  pub waits : connection.phase ≡ Receiving → AreSent history × IsServedUpTo history connection.received.bytes.items
      × IsIncomplete connection.is_continued connection.received.bytes.items
  pub idles : connection.phase ≡ Idle → AreSent history × IsServedUpTo history []
  pub reads : wants_in connection.phase ≡ wants.Bytes → 0 < room_of connection
  pub closes : limit_in (is_idle history) connection.limits ≤ elapsed history → wants_in connection.phase ≡ wants.Close

abbrev pub StateIsRight : Type 0
StateIsRight = (connection : Connection) (history : List Event) → HasState connection history → IsRightAfter connection history
