-- The responses of a node to requests of `/sites`, by which it reads its folder of site files again.
use Rattle.std.specs.Prelude.{◌≡◌, ◌⊎◌, ◌&&◌, ℕ, Bool, true, false, not, if◌then◌else◌, List, codes, Option, Some, None, is_none}
use Rattle.std.specs.Option.{option_map_or}
use Rattle.std.specs.Str.{bytes_eq}
use Rattle.httparse.specs.Grammar.{RequestHead}
use Rattle.feed_http_heads.specs.Options.{SaysWhetherItKeeps}
use Rattle.feed_http_heads.specs.Requests.{lacks_host, is_head}
use Rattle.feed_http_heads.specs.Targets.{origin_form}
use Rattle.node_request.specs.Routes.{query_in, route_of}
use Rattle.node_request.specs.declared.route.Route.{Route}
use Rattle.node_request.specs.declared.route.Route.TheVariants.{Sites}
use Rattle.node_request.specs.FoundRequests.{BeginsWith, HasNoHead}
use Rattle.node_request.specs.FetchRequests.{FetchPolicyValue, is_authorized}
use Rattle.node_request.specs.SitesRequests.{sites_query}
use Rattle.node_request.specs.declared.representation.Representation.TheVariants.{Text}
use Rattle.node_response.specs.FetchResponses.{progress_response}
use Rattle.node_response.specs.Messages.{IsMessageFor, BeginsStream}
use Rattle.node_response.specs.Responses.{ResponseTextValue, ResponseValue, refusal, response_of}
use Rattle.node_response.specs.declared.status.Status.TheVariants as status

-- the route is `/sites`
abbrev pub is_sites_route : Route → Bool
is_sites_route Sites = true
is_sites_route route = false

-- the method is POST
abbrev pub is_post : RequestHead → Bool
is_post head = bytes_eq head.method (codes "POST")

-- the request is for `/sites`; without a host it asks for nothing
abbrev pub is_for_sites : RequestHead → Bool
is_for_sites head = not (lacks_host head) && is_sites_route (route_of head)

-- why a request is refused, if it is: another method than POST (RFC 9110, section 15.5.6), no token, a node without a folder,
-- a query that is neither empty nor `check`, or a folder that is being read
abbrev pub sites_refusal : List ℕ → Bool → Bool → RequestHead → Option ResponseValue
sites_refusal token has_folder is_reloading head =
    if not (is_post head) then Some (refusal status.PostOnly Text (codes "Method"))
    else (if not (is_authorized token head) then Some (refusal status.Unauthorized Text (codes "Unauthorized"))
    else (if not has_folder then Some (refusal status.NotFound Text (codes "NoSites"))
    else (if is_none (sites_query (query_in (origin_form head.target))) then Some (refusal status.BadRequest Text (codes "Query"))
    else (if is_reloading then Some (refusal status.Conflict Text (codes "Reloading")) else None))))

-- the response: an error, or the head of the one that says what is wrong with the files
abbrev pub sites_response : List ℕ → Bool → Bool → Bool → RequestHead → ResponseTextValue
sites_response token has_folder is_reloading keeps head =
    option_map_or (response_of keeps (is_head head)) (sites_refusal token has_folder is_reloading head) progress_response

-- such a response: an error, or to a POST the beginning of the one that says what is read
abbrev pub IsSitesMessage : Bool → RequestHead → ResponseTextValue → Type 0
IsSitesMessage keeps head response = IsMessageFor keeps (is_head head) response ⊎ (BeginsStream response × (is_post head ≡ true))

-- the bytes are a request for `/sites` to a node with this token, and this is the response to it, of a node that has a folder
-- or has none
pub record IsSitesAnswer (has_folder : Bool) (policy : FetchPolicyValue) (bytes : List ℕ) (keeps : Bool) (response : ResponseTextValue) : Type 0 where
  pub token : List ℕ
  pub configured : policy.token ≡ Some token
  pub head : RequestHead
  pub begins : BeginsWith bytes head
  pub asks : is_for_sites head ≡ true
  pub is : response ≡ sites_response token has_folder policy.is_reloading keeps head

-- the bytes are not a request for `/sites`
abbrev pub AsksForNoSites : List ℕ → Type 0
AsksForNoSites bytes = HasNoHead bytes ⊎ ((head : RequestHead) × BeginsWith bytes head × (is_for_sites head ≡ false))

-- the response, exactly if the node has a token and the bytes are such a request
abbrev pub IsSitesResponse : Bool → FetchPolicyValue → List ℕ → Bool → Option ResponseTextValue → Type 0
IsSitesResponse has_folder policy bytes keeps None = (policy.token ≡ None) ⊎ AsksForNoSites bytes
IsSitesResponse has_folder policy bytes keeps (Some response) = IsSitesAnswer has_folder policy bytes keeps response

-- the bytes are a POST of `/sites`
abbrev pub PostsSites : List ℕ → Type 0
PostsSites bytes = (head : RequestHead) × BeginsWith bytes head × (is_for_sites head ≡ true) × (is_post head ≡ true)

-- the response says whether the connection is kept; one to a POST may say that it is closed although it is kept, since the
-- response that says what is read ends with it
abbrev pub SaysOfSites : List ℕ → Bool → ResponseTextValue → Type 0
SaysOfSites bytes keeps response =
    SaysWhetherItKeeps keeps response.bytes ⊎ (PostsSites bytes × SaysWhetherItKeeps false response.bytes)
