-- The holdings of a library among the rows of a list.
use Rattle.std.specs.Prelude.{ℕ, ℤ, ◌&&◌, ◌||◌, Bool, true, List, [], ◌∷◌, Option, Some, None, is_some, option_map, unwrap_or}
use Rattle.std.specs.List.{find}
use Rattle.std.specs.Str.{bytes_eq}
use Rattle.feed_dates.specs.declared.day_range.DayRange.{DayRange}
use Rattle.node_site.specs.Site.{HoldingValue, PackageValue, TitleValue, SiteValue}
use Rattle.node_site.specs.Valid.{is_forward}
use Rattle.node_site.specs.HoldingsFiles.{has_bytes, rows_of}

-- the table is about this package, or about this title of it
abbrev pub is_package : List ℕ → PackageValue → Bool
is_package id rule = bytes_eq rule.id id

abbrev pub is_title : List ℕ → List ℕ → TitleValue → Bool
is_title package_id id rule = bytes_eq rule.package_id package_id && bytes_eq rule.id id

abbrev pub holding_of_package : PackageValue → HoldingValue
holding_of_package rule = rule.holding

abbrev pub holding_of_title : TitleValue → HoldingValue
holding_of_title rule = rule.holding

-- what the first such table says, if there is one
abbrev pub package_holding : List ℕ → List PackageValue → Option HoldingValue
package_holding id rules = option_map holding_of_package (find (is_package id) rules)

abbrev pub title_holding : List ℕ → List ℕ → List TitleValue → Option HoldingValue
title_holding package_id id rules = option_map holding_of_title (find (is_title package_id id) rules)

-- what the holdings file says of a title. A row without a title is about the whole package, so it is about no title
abbrev pub listed_title : List ℕ → List ℕ → List TitleValue → Option HoldingValue
listed_title package_id [] rows = None
listed_title package_id (b ∷ id) rows = title_holding package_id (b ∷ id) rows

-- what it says of a whole package
abbrev pub listed_package : List ℕ → List TitleValue → Option HoldingValue
listed_package package_id rows = title_holding package_id [] rows

-- what the library has of a title or a package that no table mentions: all, or with `held = false` in `[library]` nothing
abbrev pub unlisted : SiteValue → HoldingValue
unlisted site = record { is_held = site.holds_unlisted; first = None; last = None }

-- what the library has of the titles of a package, unless something is said of the title: the package's table decides before its
-- row in the holdings file
abbrev pub holding_beside : SiteValue → List ℕ → HoldingValue
holding_beside site package_id =
    unwrap_or (package_holding package_id site.packages) (unwrap_or (listed_package package_id (rows_of site.listing)) (unlisted site))

-- the table switches a title of this package on
abbrev pub is_on_title : List ℕ → TitleValue → Bool
is_on_title package_id rule = rule.holding.is_held && bytes_eq rule.package_id package_id

-- the row of the holdings file says that the library has a title of this package
abbrev pub is_on_listed : List ℕ → TitleValue → Bool
is_on_listed package_id row = has_bytes row.id && is_on_title package_id row

-- the library may have titles of a package: unless the package is off, and neither a table nor a row of the holdings file
-- switches a title of it on
abbrev pub may_hold : SiteValue → List ℕ → Bool
may_hold site package_id =
    (holding_beside site package_id).is_held
    || (is_some (find (is_on_title package_id) site.titles) || is_some (find (is_on_listed package_id) (rows_of site.listing)))

-- what the library has of a title of a package. The first place that says something decides, in this order: the title's table,
-- its row in the holdings file, the package's table, its row in the file, and else the default
abbrev pub holding_at : SiteValue → List ℕ → List ℕ → HoldingValue
holding_at site package_id id =
    unwrap_or (title_holding package_id id site.titles)
    (unwrap_or (listed_title package_id id (rows_of site.listing)) (holding_beside site package_id))

-- the days from a first to a last one share a day with others: neither begins after the other has ended
abbrev pub shares_day : Option ℤ → Option ℤ → Option ℤ → Option ℤ → Bool
shares_day first last other_first other_last = is_forward first other_last && is_forward other_first last

-- the library has one of the days that are asked for, if there are such
abbrev pub has_asked : HoldingValue → Option DayRange → Bool
has_asked holding None = true
has_asked holding (Some days) = shares_day holding.first holding.last (Some days.first) (Some days.last)

-- the library has a title, a day of its coverage, and a day that is asked for
abbrev pub has_days : HoldingValue → Option ℤ → Option ℤ → Option DayRange → Bool
has_days holding first last asked = holding.is_held && (shares_day holding.first holding.last first last && has_asked holding asked)

-- the library has what is asked for of a row: by the package and the title, the coverage, and the days
unfoldable pub library_has : SiteValue → List ℕ → List ℕ → Option ℤ → Option ℤ → Option DayRange → Bool
library_has site package_id id first last asked = has_days (holding_at site package_id id) first last asked
