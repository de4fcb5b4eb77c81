-- The paths of a node, with the names in them.
use Rattle.std.specs.Prelude.{ℕ, ◌-◌, ◌&&◌, not, Bool, true, false, nat_lt, nat_le, List, length, take, drop, codes, is_some}
use Rattle.std.specs.List.{list_all}
use Rattle.std.specs.Str.{bytes_eq}
use Rattle.feed_dates.specs.Days.{day_of_date}
use Rattle.feed_names.specs.ReleaseName.{is_package_byte}
use Rattle.node_request.specs.Routes.{package_in, route_at}
use Rattle.node_request.specs.declared.route.Route.{Route}
use Rattle.node_request.specs.declared.route.Route.TheVariants as route

-- the key of a package: 1 to 100 letters, digits, hyphens, underscores and dots; the first is not a dot
abbrev pub is_package : List ℕ → Bool
is_package text = nat_lt 0 (length text) && (nat_le (length text) 100 && (not (bytes_eq (take 1 text) (codes ".")) && list_all is_package_byte text))

-- the text is a date
abbrev pub is_dated : List ℕ → Bool
is_dated text = is_some (day_of_date text)

-- `_`, a date and `.txt`
abbrev pub is_tail : List ℕ → Bool
is_tail text = bytes_eq (take 1 text) (codes "_") && (bytes_eq (drop 10 (drop 1 text)) (codes ".txt") && is_dated (take 10 (drop 1 text)))

-- the name of a release: a package, and 15 bytes that are such an end
abbrev pub is_release : List ℕ → Bool
is_release text = is_package (take (length text - 15) text) && is_tail (drop (length text - 15) text)

-- the path is `/feed/` and the name of a release
abbrev pub names_release : List ℕ → Bool
names_release path = bytes_eq (take 6 path) (codes "/feed/") && is_release (drop 6 path)

-- the log shows the path of a route: a package behind `/resolve/` and a release behind `/feed/` have valid names
abbrev pub is_shown : Route → List ℕ → Bool
is_shown route.Package path = is_package (package_in path)
is_shown route.Fetch path = names_release path
is_shown route.Unknown path = false
is_shown named path = true

-- the path is one of a node
abbrev pub is_shown_path : List ℕ → Bool
is_shown_path path = is_shown (route_at path) path
