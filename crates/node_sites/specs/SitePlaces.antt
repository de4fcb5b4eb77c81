-- The site that responds to a request, as the log and the metrics name it.
use Rattle.std.specs.Prelude.{◌≡◌, ◌⊎◌, ◌||◌, ℕ, Bool, true, false, not, if◌then◌else◌, List, Option, None}
use Rattle.httparse.specs.Grammar.{RequestHead}
use Rattle.feed_http_heads.specs.Requests.{lacks_host}
use Rattle.node_request.specs.FoundRequests.{BeginsWith, HasNoHead}
use Rattle.node_request.specs.Hosts.{host_of}
use Rattle.node_request.specs.Routes.{route_of}
use Rattle.node_request.specs.declared.route.Route.{Route}
use Rattle.node_request.specs.declared.route.Route.TheVariants as route
use Rattle.node_sites.specs.declared.node_sites.NodeSites.{NodeSites}
use Rattle.node_sites.specs.NodeSites.{place_for}

-- a reader's route, by whose host a site responds; an operator's takes any host
abbrev pub is_readers : Route → Bool
is_readers route.Home = true
is_readers route.Status = true
is_readers route.Resolve = true
is_readers route.Package = true
is_readers route.Go = true
is_readers route.Titles = true
is_readers route.Unknown = true
is_readers named = false

-- the place of the site of the host that a reader's request is for
abbrev pub site_place : NodeSites → RequestHead → Option ℕ
site_place sites head = if lacks_host head || not (is_readers (route_of head)) then None else place_for (host_of head) sites

-- the same for the bytes of a request
abbrev pub IsSitePlace : NodeSites → List ℕ → Option ℕ → Type 0
IsSitePlace sites bytes place =
    (HasNoHead bytes × (place ≡ None)) ⊎ ((head : RequestHead) × BeginsWith bytes head × (place ≡ site_place sites head))
