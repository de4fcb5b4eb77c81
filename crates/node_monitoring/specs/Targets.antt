-- The target of a request, as the counters of requests name it.
use Rattle.httparse.specs.Grammar.{RequestHead}
use Rattle.node_monitoring.specs.declared.request_kind.Target.{Target}
use Rattle.node_monitoring.specs.declared.request_kind.Target.TheVariants as target
use Rattle.node_request.specs.Routes.{route_of}
use Rattle.node_request.specs.declared.route.Route.{Route}
use Rattle.node_request.specs.declared.route.Route.TheVariants as route

-- the target under which the requests of a route are counted
abbrev pub target_in : Route → Target
target_in route.Home = target.Home
target_in route.Status = target.Status
target_in route.Resolve = target.Resolve
target_in route.Package = target.Resolve
target_in route.Go = target.Go
target_in route.Titles = target.Titles
target_in route.Feed = target.Feed
target_in route.Fetch = target.Feed
target_in route.Metrics = target.Metrics
target_in route.Health = target.Health
target_in route.Ready = target.Health
target_in route.Live = target.Health
target_in route.Sites = target.Other
target_in route.Unknown = target.Other

-- the same for the target of a request
abbrev pub target_of : RequestHead → Target
target_of head = target_in (route_of head)
