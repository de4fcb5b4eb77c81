-- The packages that may have more hits, as a page names them.
use Rattle.std.specs.Prelude.{ℕ, ◌+◌, ◌-◌, ◌==◌, if◌then◌else◌, List, [], ◌∷◌, ◌++◌, codes, length, take}
use Rattle.std.specs.Fmt.{decimal}
use Rattle.feed_names.specs.ReleaseName.{Name}
use Rattle.node_hits.specs.Tallies.{named_limit}
use Rattle.node_site.specs.Packages.{shown_package}
use Rattle.node_site.specs.Site as site_file

-- what is in front of the name at this place of a list
abbrev pub separator : ℕ → List ℕ
separator place = if place == 0 then [] else codes ", "

-- the names of packages from this place on, as readers see them
abbrev pub names_from : site_file.SiteValue → ℕ → List Name → List ℕ
names_from site place [] = []
names_from site place (name ∷ names) =
    (separator place ++ shown_package site name.package_name) ++ names_from site (place + 1) names

-- how many packages are not named, if any are
abbrev pub unnamed : ℕ → List ℕ
unnamed count = if count == 0 then [] else codes " (+" ++ (decimal count ++ codes ")")

-- the first packages, and how many more there are
unfoldable pub partial_names : site_file.SiteValue → List Name → List ℕ
partial_names site names = names_from site 0 (take named_limit names) ++ unnamed (length names - named_limit)
