-- The first line of a request in the log of a node.
use Rattle.std.specs.Prelude.{◌≡◌, ◌⊎◌, ◌||◌, ℕ, Bool, true, false, if◌then◌else◌, List, ◌∷◌, ◌++◌, codes}
use Rattle.std.specs.Option.{option_map_or}
use Rattle.std.specs.Str.{bytes_eq}
use Rattle.feed_bytes.specs.Split.{split_once}
use Rattle.feed_http_heads.specs.Targets.{origin_form}
use Rattle.node_monitoring.specs.Queries.{first_line}
use Rattle.node_request.specs.Routes.{is_unsupported_method, path_in, route_at}
use Rattle.node_request.specs.declared.route.Route.{Route}
use Rattle.node_monitoring.specs.ShownPaths.{is_shown, is_shown_path}

-- a method that RFC 9110 names (section 9.3)
abbrev pub is_known_method : List ℕ → Bool
is_known_method method = bytes_eq method (codes "GET") || (bytes_eq method (codes "HEAD") || is_unsupported_method method)

-- such a method, or a dash
abbrev pub shown_method : List ℕ → List ℕ
shown_method method = if is_known_method method then method else codes "-"

-- the path of a route, if the log shows it, or a dash
abbrev pub shown_path : Route → List ℕ → List ℕ
shown_path route path = if is_shown route path then path else codes "-"

-- the same for the path of a target
abbrev pub shown_target : List ℕ → List ℕ
shown_target target = shown_path (route_at (path_in (origin_form target))) (path_in (origin_form target))

-- a version (RFC 9112, section 2.3)
abbrev pub is_version : List ℕ → Bool
is_version text = bytes_eq text (codes "HTTP/1.1") || bytes_eq text (codes "HTTP/1.0")

-- three texts with a space between each and the next
abbrev pub spaced : List ℕ → List ℕ → List ℕ → List ℕ
spaced method target version = method ++ 32 ∷ (target ++ 32 ∷ version)

-- the line of such parts (RFC 9112, section 3), or a dash if the last one is not a version
abbrev pub line_of_parts : List ℕ → List ℕ → List ℕ → List ℕ
line_of_parts method target version = if is_version version then spaced (shown_method method) (shown_target target) version else codes "-"

-- the line behind its method
abbrev pub behind_method : List ℕ → List ℕ → List ℕ
behind_method method rest = option_map_or (λ parts. line_of_parts method parts.0 parts.1) (split_once 32 rest) (codes "-")

-- a line in a log without queries: of a request line its method, its path and its version, and of any other line a dash
abbrev pub plain_line : List ℕ → List ℕ
plain_line line = option_map_or (λ parts. behind_method parts.0 parts.1) (split_once 32 line) (codes "-")

-- the line of a request in the log
abbrev pub shown_line : Bool → List ℕ → List ℕ
shown_line has_queries request = if has_queries then first_line request else plain_line (first_line request)

-- a dash, or a text that passes a test
abbrev pub IsDashOr : (List ℕ → Bool) → List ℕ → Type 0
IsDashOr test text = (text ≡ codes "-") ⊎ (test text ≡ true)

-- a dash, or a method that RFC 9110 names, a path of a node and a version; each of the first two may be a dash
abbrev pub IsPlain : List ℕ → Type 0
IsPlain line =
    (line ≡ codes "-")
    ⊎ ((method path version : List ℕ) × IsDashOr is_known_method method × IsDashOr is_shown_path path × (is_version version ≡ true) × (line ≡ spaced method path version))

-- in a log without queries each line is such a line, whatever the bytes of the request are
abbrev pub LinesArePlain : Type 0
LinesArePlain = (request : List ℕ) → IsPlain (shown_line false request)
