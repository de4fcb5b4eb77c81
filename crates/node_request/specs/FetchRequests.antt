-- Fetch requests to a node over HTTP: a POST of `/feed/` and the name of a release, with a bearer token.
use Rattle.std.specs.Prelude.{◌≡◌, ◌⊎◌, ℕ, Bool, true, false, if◌then◌else◌, List, codes, take, drop, Option, Some, None, is_some, Result, Ok, Err}
use Rattle.std.specs.Option.{option_map_or}
use Rattle.std.specs.Str.{bytes_eq}
use Rattle.feed_bytes.specs.Split.{strip_prefix}
use Rattle.httparse.specs.Grammar.{RequestHead}
use Rattle.feed_http_heads.specs.Fields.{values_named, only}
use Rattle.feed_http_heads.specs.Requests.{lacks_host}
use Rattle.feed_http_heads.specs.Targets.{origin_form}
use Rattle.feed_bytes.specs.Trim.{trimmed}
use Rattle.feed_names.specs.ReleaseName.{Name, IsName, IsNameFault}
use Rattle.feed_names.specs.declared.release_name.NameFault.{NameFault}
use Rattle.node_request.specs.Routes.{path_in, route_of}
use Rattle.node_request.specs.declared.route.Route.{Route}
use Rattle.node_request.specs.declared.route.Route.TheVariants.{Fetch}
use Rattle.node_request.specs.FoundRequests.{BeginsWith, HasNoHead}

-- who may make a node fetch, or read its folder of site files: the token that authorizes a client, if one is configured,
-- and whether a fetch is under way, or the folder is being read
pub record FetchPolicyValue : Type 0 where
  pub token : Option (List ℕ)
  pub is_busy : Bool
  pub is_reloading : Bool

-- the path after `/feed/`
abbrev pub name_after_feed : List ℕ → Option (List ℕ)
name_after_feed path = if bytes_eq (take 6 path) (codes "/feed/") then Some (drop 6 path) else None

-- the release that a path of this route names
abbrev pub name_at : Route → List ℕ → Option (List ℕ)
name_at Fetch path = name_after_feed path
name_at route path = None

-- the release to fetch, as a POST names it
abbrev pub name_to_fetch : RequestHead → Option (List ℕ)
name_to_fetch head = if bytes_eq head.method (codes "POST") then name_at (route_of head) (path_in (origin_form head.target)) else None

-- the value is `Bearer`, in any case (RFC 9110, section 11.1), a space and the token (RFC 6750, section 2.1)
abbrev pub has_token : List ℕ → List ℕ → Bool
has_token token value = option_map_or (λ rest. bytes_eq (trimmed rest) token) (strip_prefix (codes "Bearer ") value) false

-- the request's only Authorization field has the token
abbrev pub is_authorized : List ℕ → RequestHead → Bool
is_authorized token head = option_map_or (has_token token) (only (values_named (codes "authorization") head.fields)) false

-- the release that an authorized request asks to fetch
abbrev pub authorized_name : List ℕ → RequestHead → Option (List ℕ)
authorized_name token head = if lacks_host head then None else (if is_authorized token head then name_to_fetch head else None)

-- the release that a text names, or why it is not a name
abbrev pub IsNamedBy : List ℕ → Result Name NameFault → Type 0
IsNamedBy text (Ok name) = IsName text name
IsNamedBy text (Err fault) = IsNameFault text fault

-- the release that a request with this head asks to fetch: none, unless it has the token and names one
abbrev pub IsAskedRelease : List ℕ → RequestHead → Option (Result Name NameFault) → Type 0
IsAskedRelease token head None = authorized_name token head ≡ None
IsAskedRelease token head (Some named) = (text : List ℕ) × (authorized_name token head ≡ Some text) × IsNamedBy text named

-- the same for the bytes of a request; without a head they ask for none
abbrev pub IsFetchRequest : List ℕ → List ℕ → Option (Result Name NameFault) → Type 0
IsFetchRequest token bytes asked =
    ((head : RequestHead) × BeginsWith bytes head × IsAskedRelease token head asked) ⊎ (HasNoHead bytes × (asked ≡ None))

-- the release that a node begins to fetch: none while it is fetching, and none without a token
abbrev pub IsFetchBy : Bool → Option (List ℕ) → List ℕ → Option (Result Name NameFault) → Type 0
IsFetchBy true token bytes asked = asked ≡ None
IsFetchBy false None bytes asked = asked ≡ None
IsFetchBy false (Some token) bytes asked = IsFetchRequest token bytes asked

-- the same by a policy
abbrev pub IsFetchToBegin : FetchPolicyValue → List ℕ → Option (Result Name NameFault) → Type 0
IsFetchToBegin policy bytes asked = IsFetchBy policy.is_busy policy.token bytes asked

-- whether a node begins to fetch
abbrev pub IsWhetherToBegin : FetchPolicyValue → List ℕ → Bool → Type 0
IsWhetherToBegin policy bytes begins =
    (asked : Option (Result Name NameFault)) × IsFetchToBegin policy bytes asked × (begins ≡ is_some asked)
