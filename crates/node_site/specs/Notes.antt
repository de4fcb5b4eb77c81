-- The notes for readers on titles and packages.
use Rattle.std.specs.Prelude.{ℕ, List, Option}
use Rattle.std.specs.List.{find}
use Rattle.std.specs.Option.{option_and_then, option_or}
use Rattle.node_site.specs.Held.{is_package, is_title}
use Rattle.node_site.specs.Site.{PackageValue, SiteValue, TitleValue}

abbrev pub note_of_package : PackageValue → Option (List ℕ)
note_of_package rule = rule.note

abbrev pub note_of_title : TitleValue → Option (List ℕ)
note_of_title rule = rule.note

-- the note on a title of a package: its own, or else that of the package
abbrev pub note_on : SiteValue → List ℕ → List ℕ → Option (List ℕ)
note_on site package_id id =
    option_or (option_and_then note_of_title (find (is_title package_id id) site.titles))
    (option_and_then note_of_package (find (is_package package_id) site.packages))
