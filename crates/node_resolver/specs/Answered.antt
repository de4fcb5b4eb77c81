-- Targets whose response is known to be a 200.
use Rattle.std.specs.Prelude.{◌≡◌, ℕ, List}
use Rattle.httparse.specs.Grammar.{RequestHead}
use Rattle.feed_http_heads.specs.Targets.{origin_form}
use Rattle.node_request.specs.Representations.{representation_of}
use Rattle.node_request.specs.Routes.{query_in, route_of}
use Rattle.node_request.specs.declared.route.Route.{Route}
use Rattle.node_request.specs.declared.representation.Representation.{Representation}
use Rattle.node_response.specs.Responses.{ResponseValue}
use Rattle.node_response.specs.declared.status.Status.TheVariants as status
use Rattle.node_resolver.specs.Answers.{Sited}
use Rattle.node_resolver.specs.Responses.{route_response, untagged_response}

-- the response is a 200 of this representation
abbrev pub IsGoodIn : Representation → ResponseValue → Type 0
IsGoodIn representation reply = (reply.status ≡ status.Good) × (reply.representation ≡ representation)

-- the response to each request of this route, path and query is a 200
abbrev pub IsAnswered : Route → List ℕ → List ℕ → Sited → Type 0
IsAnswered route path query actives = (head : RequestHead) → IsGoodIn (representation_of route query head) (route_response route head path query actives)

-- the response to this request is a 200, whatever follows its head
abbrev pub IsAnsweredTo : RequestHead → Sited → Type 0
IsAnsweredTo head actives = (body : List ℕ)
    → IsGoodIn (representation_of (route_of head) (query_in (origin_form head.target)) head) (untagged_response head body actives)
