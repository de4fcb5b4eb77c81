-- Requests that a node read its folder of site files again: a POST of `/sites`, with a bearer token.
use Rattle.std.specs.Prelude.{◌≡◌, ◌⊎◌, ℕ, Bool, true, false, if◌then◌else◌, List, codes, Option, Some, None}
use Rattle.std.specs.Str.{bytes_eq}
use Rattle.httparse.specs.Grammar.{RequestHead}
use Rattle.feed_http_heads.specs.Requests.{lacks_host}
use Rattle.feed_http_heads.specs.Targets.{origin_form}
use Rattle.node_request.specs.Routes.{query_in, route_of}
use Rattle.node_request.specs.FetchRequests.{FetchPolicyValue, is_authorized}
use Rattle.node_request.specs.FoundRequests.{BeginsWith, HasNoHead}
use Rattle.node_request.specs.declared.route.Route.{Route}
use Rattle.node_request.specs.declared.route.Route.TheVariants.{Sites}
use Rattle.node_request.specs.declared.sites_target.SitesRequest.{SitesRequest}
use Rattle.node_request.specs.declared.sites_target.SitesRequest.TheVariants.{Reload, Check}

-- what a query of `/sites` asks for: that the sites of the folder begin, or that its files are only checked
abbrev pub sites_query : List ℕ → Option SitesRequest
sites_query query = if bytes_eq query (codes "") then Some Reload else (if bytes_eq query (codes "check") then Some Check else None)

-- what a target of this route asks for
abbrev pub sites_at : Route → List ℕ → Option SitesRequest
sites_at Sites target = sites_query (query_in target)
sites_at route target = None

-- what a POST asks for
abbrev pub sites_asked : RequestHead → Option SitesRequest
sites_asked head = if bytes_eq head.method (codes "POST") then sites_at (route_of head) (origin_form head.target) else None

-- what an authorized request asks for
abbrev pub authorized_sites : List ℕ → RequestHead → Option SitesRequest
authorized_sites token head = if lacks_host head then None else (if is_authorized token head then sites_asked head else None)

-- the same for the bytes of a request; without a head they ask for nothing
abbrev pub IsSitesRequest : List ℕ → List ℕ → Option SitesRequest → Type 0
IsSitesRequest token bytes asked =
    ((head : RequestHead) × BeginsWith bytes head × (asked ≡ authorized_sites token head)) ⊎ (HasNoHead bytes × (asked ≡ None))

-- why a node begins to read its folder: never while it is reading it, and never without a token
abbrev pub IsSitesBy : Bool → Option (List ℕ) → List ℕ → Option SitesRequest → Type 0
IsSitesBy true token bytes asked = asked ≡ None
IsSitesBy false None bytes asked = asked ≡ None
IsSitesBy false (Some token) bytes asked = IsSitesRequest token bytes asked

-- the same by a policy
abbrev pub IsSitesToRead : FetchPolicyValue → List ℕ → Option SitesRequest → Type 0
IsSitesToRead policy bytes asked = IsSitesBy policy.is_reloading policy.token bytes asked
