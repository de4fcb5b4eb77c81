-- Entity tags and conditional requests (RFC 9110, sections 8.8.3, 13.1.2 and 13.2.1), and preflights (Fetch standard,
-- section 3.3).
use Rattle.std.specs.Prelude.{ℕ, ◌&&◌, ◌||◌, not, Bool, true, false, if◌then◌else◌, List, [], codes, Option, Some, None}
use Rattle.std.specs.List.{flat_map}
use Rattle.std.specs.Option.{option_map_or}
use Rattle.std.specs.Str.{bytes_eq}
use Rattle.httparse.specs.Grammar.{RequestHead}
use Rattle.feed_http_heads.specs.Targets.{origin_form}
use Rattle.feed_http_heads.specs.Requests.{lacks_host, is_get, is_head}
use Rattle.node_request.specs.Conditions.{has_tag}
use Rattle.node_request.specs.Representations.{representation_of}
use Rattle.node_request.specs.Routes.{query_in, route_of}
use Rattle.node_request.specs.declared.representation.Representation.{Representation}
use Rattle.node_request.specs.declared.representation.Representation.TheVariants.{Text}
use Rattle.node_request.specs.declared.route.Route.{Route}
use Rattle.node_request.specs.declared.route.Route.TheVariants as route
use Rattle.node_response.specs.Responses.{ResponseValue, response_with, with_tag, not_modified, is_good}
use Rattle.node_response.specs.declared.status.Status.{Status}
use Rattle.node_response.specs.declared.status.Status.TheVariants as status
use Rattle.node_response.specs.Tags.{SiteValue, entity_tag, inputs_of}
use Rattle.node_resolver.specs.Answers.{Dated}
use Rattle.node_resolver.specs.Status.{active_line}

-- the route has entity tags
abbrev pub has_validator : Route → Bool
has_validator route.Status = true
has_validator route.Resolve = true
has_validator route.Package = true
has_validator route.Titles = true
has_validator other = false

-- a GET or a HEAD of a route that has entity tags
abbrev pub is_tagged : RequestHead → Bool
is_tagged head = (is_get head || is_head head) && has_validator (route_of head)

-- the tag of a representation of all routes that have one: the names of the active releases, a line for each, stand for
-- what their files hold
abbrev pub tag_of : SiteValue → Dated → Representation → List ℕ
tag_of site actives representation =
    entity_tag (inputs_of site actives.today (flat_map active_line actives.actives) representation)

-- the tag of what a request asks for, if it has one
abbrev pub tag_to : SiteValue → Dated → RequestHead → List ℕ
tag_to site actives head =
    if is_tagged head then tag_of site actives (representation_of (route_of head) (query_in (origin_form head.target)) head) else []

-- the response to a client that has the tag or not: a 200 has the tag, and becomes a 304 for a client that has it; any
-- other response stays as it is
abbrev pub validated_by : Bool → List ℕ → ℕ → ResponseValue → ResponseValue
validated_by has tag max_age reply =
    if is_good reply.status
    then (if has then not_modified tag max_age reply.representation else with_tag tag max_age reply)
    else reply

-- the response to a request, if its target has a tag
abbrev pub validated : RequestHead → List ℕ → ℕ → ResponseValue → ResponseValue
validated head tag max_age reply = if is_tagged head then validated_by (has_tag tag head) tag max_age reply else reply

-- the status of the response to a preflight of a route
abbrev pub preflight_of : Route → Option Status
preflight_of route.Home = Some status.Preflight
preflight_of route.Status = Some status.Preflight
preflight_of route.Resolve = Some status.QueryPreflight
preflight_of route.Package = Some status.QueryPreflight
preflight_of route.Go = Some status.QueryPreflight
preflight_of route.Titles = Some status.Preflight
preflight_of other = None

-- the status of the response to a preflight; a request without a host is none, and nor is one of `/feed`
abbrev pub preflight_status : RequestHead → Option Status
preflight_status head =
    if lacks_host head || not (bytes_eq head.method (codes "OPTIONS")) then None else preflight_of (route_of head)

-- the response to a preflight, or else the one to the request
abbrev pub unless_preflight : RequestHead → ResponseValue → ResponseValue
unless_preflight head reply = option_map_or (λ code. response_with code Text []) (preflight_status head) reply

-- the response to a request with this tag, from the response that disregards the tag
abbrev pub final_response : RequestHead → List ℕ → ℕ → ResponseValue → ResponseValue
final_response head tag max_age reply = unless_preflight head (validated head tag max_age reply)
