-- The packages that a node waits for before it answers readers.
use Rattle.std.specs.Prelude.{◌⊎◌, ℕ, Bool, if◌then◌else◌, All, List, [], ◌++◌, codes, Some, None}
use Rattle.std.specs.List.{Contains, flat_map, list_any}
use Rattle.std.specs.Str.{bytes_eq}
use Rattle.feed_names.specs.ReleaseName.{Name}
use Rattle.feed_model.specs.History.{History, Reports}
use Rattle.feed_releases.specs.Actives.{ActiveValue}
use Rattle.node_resolver.specs.NodeResponses.{AsksForFetch, AsksForNoFetch}
use Rattle.node_service.specs.declared.wanted.TheConstants.{MISSING}

-- a feed with this history reports a release of the package
abbrev pub HasRelease : History → List ℕ → Type 0
HasRelease h package_name = (n : Name) × Reports h package_name (Some n)

-- it reports one of each wanted package
abbrev pub HasEach : History → List (List ℕ) → Type 0
HasEach h wanted = All (HasRelease h) wanted

-- it reports none of one of them
abbrev pub LacksOne : History → List (List ℕ) → Type 0
LacksOne h wanted = (package_name : List ℕ) × Contains wanted package_name × Reports h package_name None

-- a request that asks nothing of the feed is answered: no wanted package lacks a release, or it asks the node to fetch
abbrev pub IsAnswerable : List (List ℕ) → History → List ℕ → Type 0
IsAnswerable wanted h bytes = HasEach h wanted ⊎ AsksForFetch bytes

-- it is not: a wanted package lacks a release, and it does not ask the node to fetch
abbrev pub IsUnanswerable : List (List ℕ) → History → List ℕ → Type 0
IsUnanswerable wanted h bytes = LacksOne h wanted × AsksForNoFetch bytes

-- one of the active releases is of the package
abbrev pub has_package : List ActiveValue → List ℕ → Bool
has_package actives package_name = list_any (λ active. bytes_eq active.name.package_name package_name) actives

-- the line that names a package without an active release
abbrev pub missing_line : List ActiveValue → List ℕ → List ℕ
missing_line actives package_name = if has_package actives package_name then [] else MISSING.now ++ package_name ++ codes "\n"

-- the lines that name the wanted packages without an active release, in their order
abbrev pub missing_text : List ActiveValue → List (List ℕ) → List ℕ
missing_text actives wanted = flat_map (missing_line actives) wanted
