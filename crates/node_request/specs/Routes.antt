-- The method and the target of a request (RFC 9110, section 9.3; RFC 9112, section 3.2), and the route that this names.
use Rattle.std.specs.Prelude.{ℕ, ◌||◌, if◌then◌else◌, List, [], Bool, codes, drop, take, is_some}
use Rattle.std.specs.Option.{option_map_or}
use Rattle.std.specs.Str.{bytes_eq}
use Rattle.feed_bytes.specs.Split.{split_once, strip_prefix}
use Rattle.httparse.specs.Grammar.{RequestHead}
use Rattle.feed_http_heads.specs.Targets.{origin_form}
use Rattle.node_request.specs.declared.route.Route.{Route}
use Rattle.node_request.specs.declared.route.Route.TheVariants.{Home, Status, Resolve, Package, Go, Titles, Feed, Fetch}
use Rattle.node_request.specs.declared.route.Route.TheVariants.{Metrics, Health, Ready, Live, Sites, Unknown}

-- the path of a target that begins with it, up to its first question mark
abbrev pub path_in : List ℕ → List ℕ
path_in target = option_map_or (λ parts. parts.0) (split_once 63 target) target

-- the query of such a target, after the question mark
abbrev pub query_in : List ℕ → List ℕ
query_in target = option_map_or (λ parts. parts.1) (split_once 63 target) []

-- whether a path begins with `/resolve/`, and so names a package
abbrev pub names_package : List ℕ → Bool
names_package path = bytes_eq (take 9 path) (codes "/resolve/")

-- the package that a path names
abbrev pub package_in : List ℕ → List ℕ
package_in path = drop 9 path

-- whether a path begins with `/feed/`, in any case of letters
abbrev pub names_fetch : List ℕ → Bool
names_fetch path = is_some (strip_prefix (codes "/feed/") path)

-- the table of targets: the route that a path names
abbrev pub route_at : List ℕ → Route
route_at path =
    if bytes_eq path (codes "/") then Home
    else (if bytes_eq path (codes "/status") then Status
    else (if bytes_eq path (codes "/resolve") then Resolve
    else (if bytes_eq path (codes "/go") then Go
    else (if bytes_eq path (codes "/titles") then Titles
    else (if names_package path then Package
    else (if bytes_eq path (codes "/feed") then Feed
    else (if names_fetch path then Fetch
    else (if bytes_eq path (codes "/metrics") then Metrics
    else (if bytes_eq path (codes "/health") then Health
    else (if bytes_eq path (codes "/health/ready") then Ready
    else (if bytes_eq path (codes "/health/live") then Live
    else (if bytes_eq path (codes "/sites") then Sites
    else Unknown))))))))))))

-- the route that the target of a request names
abbrev pub route_of : RequestHead → Route
route_of head = route_at (path_in (origin_form head.target))

-- the methods that RFC 9110 names (section 9.3), other than GET and HEAD
abbrev pub is_unsupported_method : List ℕ → Bool
is_unsupported_method method =
    bytes_eq method (codes "POST") || bytes_eq method (codes "PUT") || bytes_eq method (codes "DELETE")
    || bytes_eq method (codes "CONNECT") || bytes_eq method (codes "OPTIONS") || bytes_eq method (codes "TRACE")
