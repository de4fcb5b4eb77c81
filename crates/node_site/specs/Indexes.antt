-- Where the first row with a key is in a site file.
use Rattle.std.specs.Prelude.{◌≡◌, ℕ, ◌+◌, zero, suc, ◌&&◌, ◌||◌, ◌==◌, Bool, true, false, List, [], ◌∷◌, Option, Some, None, is_some, if◌then◌else◌, codes}
use Rattle.std.specs.Option.{option_and_then, option_or}
use Rattle.std.specs.List.{list_all, list_any}
use Rattle.std.specs.Ordering.{nat_cmp}
use Rattle.std.specs.Cmp.Lexicographic.{slice_cmp}
use Rattle.std.specs.BTreeMap.{get_by}
use Rattle.std.specs.Str.{bytes_eq, str_to_ascii_lowercase}
use Rattle.toml.specs.Data.{Items, no_items, item, Members, as_table}
use Rattle.node_site.specs.declared.places.Places.{Places}
use Rattle.node_site.specs.declared.title_places.TitlePlaces.{TitlePlaces}
use Rattle.node_site.specs.declared.domains.Domains.{Domains}
use Rattle.node_site.specs.Held.{is_on_title, is_package, is_title}
use Rattle.node_site.specs.Platforms.{is_platform}
use Rattle.node_site.specs.Lookups.{items_at}
use Rattle.node_site.specs.Site.{except_in, package_of, platform_of, texts_in, title_of}
use Rattle.node_site.specs.Urls.{is_host}

-- the place of a key
abbrev pub place_at : List ℕ → Places → Option ℕ
place_at key places = get_by (λ k. slice_cmp nat_cmp key k.items) places.places

-- the place of a title of a package
abbrev pub title_at : List ℕ → List ℕ → TitlePlaces → Option ℕ
title_at package_id id titles = option_and_then (place_at id) (get_by (λ k. slice_cmp nat_cmp package_id k.items) titles.packages)

-- a key has this place now, unless it had one
abbrev pub AddsPlace : Places → List ℕ → ℕ → Places → Type 0
AddsPlace old key place new =
    (other : List ℕ) → place_at other new ≡ option_or (place_at other old) (if bytes_eq key other then Some place else None)

abbrev pub AddsTitle : TitlePlaces → List ℕ → List ℕ → ℕ → TitlePlaces → Type 0
AddsTitle old package_id id place new =
    (other_package other : List ℕ) → title_at other_package other new
    ≡ option_or (title_at other_package other old) (if bytes_eq package_id other_package && bytes_eq id other then Some place else None)

-- the place of the first row that passes a test, counted from a number
abbrev pub place_or : {A : Type 0} → (Members → A) → (A → Bool) → ℕ → Option Members → Option ℕ → Option ℕ
place_or make test place (Some ms) rest = if test (make ms) then Some place else rest
place_or make test place None rest = rest

abbrev pub first_place : {A : Type 0} → (Members → A) → (A → Bool) → ℕ → Items → Option ℕ
first_place make test place no_items = None
first_place make test place (item d ds) = place_or make test place (as_table d) (first_place make test (place + 1) ds)

abbrev pub first_place_in : {A : Type 0} → (Members → A) → (A → Bool) → Option Items → Option ℕ
first_place_in make test None = None
first_place_in make test (Some items) = first_place make test 0 items

-- the places are those of the first tables about packages
abbrev pub ArePackages : Option Items → Places → Type 0
ArePackages rows places = (id : List ℕ) → place_at id places ≡ first_place_in package_of (is_package id) rows

-- .. about titles
abbrev pub AreTitles : Option Items → TitlePlaces → Type 0
AreTitles rows titles = (package_id id : List ℕ) → title_at package_id id titles ≡ first_place_in title_of (is_title package_id id) rows

-- .. that switch a title of a package on
abbrev pub AreOnTitles : Option Items → Places → Type 0
AreOnTitles rows places = (id : List ℕ) → place_at id places ≡ first_place_in title_of (is_on_title id) rows

-- .. about platforms, by their hosts in lower case
abbrev pub ArePlatforms : Option Items → Places → Type 0
ArePlatforms rows places = (host : List ℕ) → place_at (str_to_ascii_lowercase host) places ≡ first_place_in platform_of (is_platform host) rows

-- the text is a key
abbrev pub is_known : List ℕ → Places → Bool
is_known text places = is_some (place_at text places)

-- the keys are the domains of the list in lower case
abbrev pub IsKnown : List (List ℕ) → Places → Type 0
IsKnown except places = (text : List ℕ) → is_known text places ≡ list_any (λ domain. bytes_eq (str_to_ascii_lowercase domain) text) except

-- what is behind one of the dots of a host is a key
abbrev pub has_parent : Places → List ℕ → Bool
has_parent places [] = false
has_parent places (b ∷ rest) = ((b == 46) && is_known rest places) || has_parent places rest

-- the domains are those of the list, each the name of a host
pub record AreDomains (except : List (List ℕ)) (domains : Domains) : Type 0 where
  pub known : IsKnown except domains.places
  pub hosts : list_all is_host except ≡ true

-- the table at a place of a list
abbrev pub row_at : ℕ → Items → Option Members
row_at place no_items = None
row_at zero (item d ds) = as_table d
row_at (suc place) (item d ds) = row_at place ds

abbrev pub row_in : Option ℕ → Option Items → Option Members
row_in None rows = None
row_in (Some place) None = None
row_in (Some place) (Some rows) = row_at place rows

-- how many rows a list has
abbrev pub count_of : Items → ℕ
count_of no_items = 0
count_of (item d ds) = 1 + count_of ds

abbrev pub count_in : Option Items → ℕ
count_in None = 0
count_in (Some rows) = count_of rows

-- the look-ups of a document
pub record AreIndexes (doc : Members) (platform_places package_places : Places) (title_places : TitlePlaces) (on_places : Places) (domains : Domains) : Type 0 where
  pub platforms : ArePlatforms (items_at (codes "platform") doc) platform_places
  pub packages : ArePackages (items_at (codes "package") doc) package_places
  pub titles : AreTitles (items_at (codes "title") doc) title_places
  pub on_titles : AreOnTitles (items_at (codes "title") doc) on_places
  pub except : IsKnown (texts_in (except_in doc)) domains.places
