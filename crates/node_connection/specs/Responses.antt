-- The responses to the requests of a connection.
use Rattle.std.specs.Prelude.{◌≡◌, ◌⊎◌, ◌≤◌, ℕ, Bool, true, false, List, [], ◌∷◌, ◌++◌, codes, length, Option, Some, None}
use Rattle.httparse.specs.Grammar.{RequestHead, print_request}
use Rattle.feed_http_heads.specs.Limits.{head_limit, field_limit}
use Rattle.feed_http_heads.specs.Options.{SaysWhetherItKeeps}
use Rattle.feed_http_heads.specs.RequestHeads.{BeginsWithHead, NeverBeginsWithHead, IsUnfinished}
use Rattle.node_connection.specs.Requests.{Request, Persistent, Last, Invalid, AreRequestsIn, persists, body_limit, body_len_of, expects_continue}
use Rattle.node_connection.specs.Events.{continue_text}
use Rattle.node_connection.specs.declared.head_state.FoundRequest.{FoundRequest}
use Rattle.node_connection.specs.declared.head_state.HeadState.{HeadState}
use Rattle.node_connection.specs.declared.head_state.HeadState.TheVariants as state
use Rattle.node_connection.specs.declared.head_state.AfterResponse.{AfterResponse}
use Rattle.node_connection.specs.declared.head_state.AfterResponse.TheVariants.{Persist, Linger}

-- the response if the responder makes none (RFC 9110, section 15.6.4)
abbrev pub unavailable : List ℕ
unavailable =
    codes "HTTP/1.1 503 Service Unavailable\r\nContent-Type: text/plain; charset=utf-8\r\n"
    ++ codes "Content-Length: 12\r\nRetry-After: 1\r\nCache-Control: no-cache\r\nVary: Accept\r\n"
    ++ codes "X-Content-Type-Options: nosniff\r\nReferrer-Policy: no-referrer\r\nAccess-Control-Allow-Origin: *\r\n"
    ++ codes "Connection: close\r\n\r\nUnavailable\n"

-- the length of the body that a responder wants after a head; and a relation between the bytes of a head, a body,
-- whether the connection persists after the request, and its response, which is `None` if the responder makes none
abbrev pub Responses : Type 1
Responses = (RequestHead → ℕ) × (List ℕ → List ℕ → Bool → Option (List ℕ) → Type 0)

-- the responder made no response to these bytes
abbrev pub HasNoResponse : Responses → List ℕ → List ℕ → Type 0
HasNoResponse replies bytes body = (keeps : Bool) × replies.1 bytes body keeps None

-- and so it did for some bytes
abbrev pub LacksResponse : Responses → Type 0
LacksResponse replies = (bytes : List ℕ) × (body : List ℕ) × HasNoResponse replies bytes body

-- the body has the length that the responder wants, if the head states that length
abbrev pub IsWanted : Responses → RequestHead → List ℕ → Type 0
IsWanted replies head body = length body ≡ body_len_of (replies.0 head) head

-- the response to a request is the responder's. The last one is a request after which the connection does not persist,
-- or one to which the responder made no response: then the response is `unavailable`
abbrev pub IsResponseOf : Responses → Request → List ℕ → Type 0
IsResponseOf replies (Persistent head body) reply = replies.1 (print_request head) body true (Some reply)
IsResponseOf replies (Last head body) reply =
    ((persists head (length body) ≡ false) × replies.1 (print_request head) body false (Some reply))
    ⊎ (HasNoResponse replies (print_request head) body × (reply ≡ unavailable))
IsResponseOf replies (Invalid text) reply =
    replies.1 text [] false (Some reply) ⊎ (HasNoResponse replies text [] × (reply ≡ unavailable))

-- the request has the body that the responder wants
abbrev pub HasWantedBody : Responses → Request → Type 0
HasWantedBody replies (Persistent head body) = IsWanted replies head body
HasWantedBody replies (Last head body) = IsWanted replies head body
HasWantedBody replies (Invalid text) = Unit {0}

-- the connection persists after the request
abbrev pub is_persistent : Request → Bool
is_persistent (Persistent head body) = true
is_persistent (Last head body) = false
is_persistent (Invalid text) = false

-- a request has this response, which says `Connection: close` exactly if the connection does not persist after it
-- (RFC 9112, section 9.6)
pub record IsRespondedTo (replies : Responses) (request : Request) (reply : List ℕ) : Type 0 where
  pub wanted : HasWantedBody replies request
  pub reply_of : IsResponseOf replies request reply
  pub says : SaysWhetherItKeeps (is_persistent request) reply

-- what follows the response, if the connection persists or does not
abbrev pub after_response : Bool → AfterResponse
after_response true = Persist
after_response false = Linger

-- the request has this head of this length, where a body of this length is wanted
pub record IsFound (head : RequestHead) (head_len wanted : ℕ) (found : FoundRequest) : Type 0 where
  pub head_len_is : found.head_len ≡ head_len
  pub body_is : found.body_len ≡ body_len_of wanted head
  pub persists_is : found.persists ≡ persists head found.body_len
  pub expects_is : found.expects_continue ≡ expects_continue head

-- the bytes begin with the request
pub record IsFoundIn (wanted : RequestHead → ℕ) (bytes : List ℕ) (request : FoundRequest) : Type 0 where
  pub head : RequestHead
  pub begins : BeginsWithHead head_limit field_limit bytes head
  pub found : IsFound head (length (print_request head)) (wanted head) request
  pub within : request.head_len ≤ length bytes
  pub small : request.body_len ≤ body_limit

-- the state of the head is right for these bytes
abbrev pub IsHeadState : (RequestHead → ℕ) → List ℕ → HeadState → Type 0
IsHeadState wanted bytes state.Incomplete = IsUnfinished head_limit bytes
IsHeadState wanted bytes (state.Whole found) = IsFoundIn wanted bytes found
IsHeadState wanted bytes state.Invalid = NeverBeginsWithHead head_limit field_limit bytes

-- before the response to this request there was no interim one, or the one that the client expects
abbrev pub IsInterim : Request → List ℕ → Type 0
IsInterim (Persistent head body) text = (text ≡ []) ⊎ ((text ≡ continue_text) × (expects_continue head ≡ true))
IsInterim (Last head body) text = (text ≡ []) ⊎ ((text ≡ continue_text) × (expects_continue head ≡ true))
IsInterim (Invalid other) text = text ≡ []

-- before the response to a request that is not whole, nothing is sent, or the interim response that the client expects
abbrev pub IsPending : List ℕ → List ℕ → Type 0
IsPending bytes text =
    (text ≡ [])
    ⊎ ((text ≡ continue_text)
    × ((head : RequestHead) × BeginsWithHead head_limit field_limit bytes head × (expects_continue head ≡ true)))

-- a request with its interim response and its response
pub record Exchange : Type 0 where
  pub request : Request
  pub interim : List ℕ
  pub reply : List ℕ

-- each request has the responses beside it
abbrev pub AreRespondedTo : Responses → List Exchange → Type 0
AreRespondedTo replies [] = Unit {0}
AreRespondedTo replies (exchange ∷ exchanges) =
    IsInterim exchange.request exchange.interim × IsRespondedTo replies exchange.request exchange.reply × AreRespondedTo replies exchanges

abbrev pub requests_of : List Exchange → List Request
requests_of [] = []
requests_of (exchange ∷ exchanges) = exchange.request ∷ requests_of exchanges

abbrev pub responses_of : List Exchange → List ℕ
responses_of [] = []
responses_of (exchange ∷ exchanges) = exchange.interim ++ (exchange.reply ++ responses_of exchanges)

-- the promise: the bytes received begin with requests, and the bytes sent are the beginning of the responses to them,
-- one after the other in the order of the requests, and nothing else; an interim response may follow to a request whose
-- head alone was received
pub record IsServed (replies : Responses) (received sent : List ℕ) : Type 0 where
  pub exchanges : List Exchange
  pub rest : List ℕ
  pub pending : List ℕ
  pub unsent : List ℕ
  pub in_order : AreRequestsIn received (requests_of exchanges) rest
  pub replied : AreRespondedTo replies exchanges
  pub expected : IsPending rest pending
  pub front : responses_of exchanges ++ pending ≡ sent ++ unsent
