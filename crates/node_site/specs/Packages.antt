-- The names of packages, and their order.
use Rattle.std.specs.Prelude.{ℕ, List, Option, unwrap_or}
use Rattle.std.specs.List.{find, position_or_len}
use Rattle.std.specs.Option.{option_and_then}
use Rattle.node_site.specs.Site.{PackageValue, SiteValue}
use Rattle.node_site.specs.Held.{is_package}

abbrev pub name_of_package : PackageValue → Option (List ℕ)
name_of_package rule = rule.name

-- the name that the first table about a package gives it
abbrev pub name_for_readers : SiteValue → List ℕ → Option (List ℕ)
name_for_readers site id = option_and_then name_of_package (find (is_package id) site.packages)

-- the name that readers see: the given one, or else the package as releases name it
abbrev pub shown_package : SiteValue → List ℕ → List ℕ
shown_package site id = unwrap_or (name_for_readers site id) id

-- the place of a package in the order of the site: that of the first table about it. A package without a table comes behind
-- all those that have one
abbrev pub package_place : SiteValue → List ℕ → ℕ
package_place site id = position_or_len (is_package id) site.packages
