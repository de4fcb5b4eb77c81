-- The responses of a node about its feed: to a request for `/feed`, and to a GET of what is below it.
use Rattle.std.specs.Prelude.{◌≡◌, ◌⊎◌, ◌||◌, ◌&&◌, ℕ, Bool, true, false, MatchBool, if◌then◌else◌, List, [], codes, Option, Some, None}
use Rattle.std.specs.Option.{option_map_or}
use Rattle.std.specs.Str.{bytes_eq}
use Rattle.httparse.specs.Grammar.{RequestHead}
use Rattle.feed_http_heads.specs.Requests.{lacks_host, is_get, is_head}
use Rattle.node_request.specs.Routes.{is_unsupported_method, route_of}
use Rattle.node_request.specs.declared.route.Route.{Route}
use Rattle.node_request.specs.declared.route.Route.TheVariants.{Feed, Fetch}
use Rattle.node_request.specs.FoundRequests.{BeginsWith, HasNoHead}
use Rattle.node_request.specs.FetchRequests.{FetchPolicyValue, is_authorized}
use Rattle.node_request.specs.declared.representation.Representation.{Representation}
use Rattle.node_request.specs.declared.representation.Representation.TheVariants.{Text}
use Rattle.node_response.specs.Responses.{ResponseValue, ResponseTextValue, refusal, response_with, response_of}
use Rattle.node_response.specs.declared.status.Status.TheVariants as status
use Rattle.node_operator.specs.declared.feed_responses.FeedTarget.{FeedTarget}
use Rattle.node_operator.specs.declared.feed_responses.FeedTarget.TheVariants.{Releases, End, OtherMethod, Release}

-- what a request asks of `/feed` by its method (RFC 9110, section 9.3)
abbrev pub asked_by : RequestHead → Option FeedTarget
asked_by head =
    if is_get head || is_head head then Some Releases
    else (if bytes_eq head.method (codes "DELETE") then Some End
    else (if is_unsupported_method head.method then Some OtherMethod else None))

-- what it asks of a target below `/feed`, which only a POST may fetch
abbrev pub asked_below : RequestHead → Option FeedTarget
asked_below head = if is_get head || is_head head then Some Release else None

-- what it asks of the feed by its route
abbrev pub target_at : Route → RequestHead → Option FeedTarget
target_at Feed head = asked_by head
target_at Fetch head = asked_below head
target_at route head = None

-- the same; without a host it asks for nothing
abbrev pub feed_target : RequestHead → Option FeedTarget
feed_target head = if lacks_host head then None else target_at (route_of head) head

-- a response of status 200 with some body
abbrev pub IsListResponse : ResponseValue → Type 0
IsListResponse reply = (representation : Representation) × (body : List ℕ) × (reply ≡ response_with status.Listed representation body)

-- the response to a client that asks that the fetch end, and has the token or not: 204 if one is under way, and
-- otherwise 409
abbrev pub IsEndResponse : Bool → Bool → ResponseValue → Type 0
IsEndResponse false is_busy reply = reply ≡ refusal status.Unauthorized Text (codes "Unauthorized")
IsEndResponse true true reply = reply ≡ response_with status.Ended Text []
IsEndResponse true false reply = reply ≡ refusal status.Conflict Text (codes "Idle")

-- the response to a request: the list, and the end of a fetch, only to a client that has the token
abbrev pub IsResponseToFeedTarget : List ℕ → Bool → RequestHead → FeedTarget → ResponseValue → Type 0
IsResponseToFeedTarget token is_busy head Release reply = reply ≡ refusal status.PostOnly Text (codes "Method")
IsResponseToFeedTarget token is_busy head OtherMethod reply = reply ≡ refusal status.GetOrDelete Text (codes "Method")
IsResponseToFeedTarget token is_busy head Releases reply =
    MatchBool (is_authorized token head) (IsListResponse reply) (reply ≡ refusal status.Unauthorized Text (codes "Unauthorized"))
IsResponseToFeedTarget token is_busy head End reply = IsEndResponse (is_authorized token head) is_busy reply

-- the bytes are such a request to a node with this token, and this is the response to it
pub record IsFeedAnswer (policy : FetchPolicyValue) (bytes : List ℕ) (keeps : Bool) (response : ResponseTextValue) : Type 0 where
  pub token : List ℕ
  pub configured : policy.token ≡ Some token
  pub head : RequestHead
  pub begins : BeginsWith bytes head
  pub target : FeedTarget
  pub names : feed_target head ≡ Some target
  pub reply : ResponseValue
  pub is : IsResponseToFeedTarget token policy.is_busy head target reply
  pub written : response ≡ response_of keeps (is_head head) reply

-- the node has no token, or the bytes are no such request
abbrev pub IsNotAboutFeed : FetchPolicyValue → List ℕ → Type 0
IsNotAboutFeed policy bytes =
    (policy.token ≡ None) ⊎ (HasNoHead bytes ⊎ ((head : RequestHead) × BeginsWith bytes head × (feed_target head ≡ None)))

-- the response, exactly if the bytes are such a request
abbrev pub IsFeedResponse : FetchPolicyValue → List ℕ → Bool → Option ResponseTextValue → Type 0
IsFeedResponse policy bytes keeps None = IsNotAboutFeed policy bytes
IsFeedResponse policy bytes keeps (Some response) = IsFeedAnswer policy bytes keeps response

-- it asks that the fetch end
abbrev pub is_end : Option FeedTarget → Bool
is_end None = false
is_end (Some End) = true
is_end (Some Releases) = false
is_end (Some OtherMethod) = false
is_end (Some Release) = false

-- the request has the token of the node, if there is one
abbrev pub has_token_of : FetchPolicyValue → RequestHead → Bool
has_token_of policy head = option_map_or (λ token. is_authorized token head) policy.token false

-- a request with this head ends the fetch that is under way: it asks for that, and has the token
abbrev pub ends_by : FetchPolicyValue → RequestHead → Bool
ends_by policy head = policy.is_busy && (is_end (feed_target head) && has_token_of policy head)

-- the bytes are such a request
abbrev pub EndsFetch : FetchPolicyValue → List ℕ → Type 0
EndsFetch policy bytes = (head : RequestHead) × BeginsWith bytes head × (ends_by policy head ≡ true)

-- they are not
abbrev pub EndsNoFetch : FetchPolicyValue → List ℕ → Type 0
EndsNoFetch policy bytes = HasNoHead bytes ⊎ ((head : RequestHead) × BeginsWith bytes head × (ends_by policy head ≡ false))
