-- The pages of a node's packages, behind the forms: the home page, which has the first ones, and the page of all.
use Rattle.std.specs.Prelude.{ℕ, ◌-◌, not, nat_lt, Bool, if◌then◌else◌, List, [], ◌∷◌, ◌++◌, length, take, filter, Option, Some, None}
use Rattle.std.specs.List.{flat_map, list_any}
use Rattle.feed_answer.specs.Pairs.{is_empty}
use Rattle.feed_releases.specs.Actives.{ActiveValue}
use Rattle.node_site.specs.Packages.{shown_package}
use Rattle.node_site.specs.Site as site_file
use Rattle.node_site.specs.Texts.{text_of}
use Rattle.node_templates.specs.Values.{Values}
use Rattle.node_templates.specs.Pages.{Part, page_text, with_values}
use Rattle.node_templates.specs.declared.slot.Slot.TheVariants as slot
use Rattle.node_templates.specs.declared.template.Template.TheVariants as template
use Rattle.node_site.specs.declared.text_table.Text.TheVariants as text
use Rattle.node_pages.specs.HitsPage.{digits_of}
use Rattle.node_pages.specs.Lists.{list_mark}
use Rattle.node_pages.specs.declared.home_page.TheConstants.{FORM_PAGE, HOME_START, HOME_END}

abbrev pub heading_values : site_file.SiteValue → Values
heading_values site = (slot.Heading, text_of site text.FindHoldings) ∷ []

-- the page with the forms alone
unfoldable pub form_page : site_file.SiteValue → List ℕ
form_page site = page_text site (with_values (heading_values site) FORM_PAGE)

-- a package by its name
unfoldable pub package_parts : site_file.SiteValue → ActiveValue → List Part
package_parts site active = with_values ((slot.Package, shown_package site active.name.package_name) ∷ []) (template.Package ∷ [])

-- the list of the package has more than a header
abbrev pub has_rows : ActiveValue → Bool
has_rows active = not (is_empty active.holdings.rows)

-- such packages
abbrev pub listed : List ActiveValue → List ActiveValue
listed actives = filter has_rows actives

-- the first of them, at most so many
abbrev pub packages : site_file.SiteValue → ℕ → List ActiveValue → List Part
packages site most actives = flat_map (package_parts site) (take most (listed actives))

-- has a value if there are such packages
abbrev pub packages_mark : List ActiveValue → List ℕ
packages_mark actives = list_mark (not (list_any has_rows actives))

-- how many of so many packages are left out, if any are
abbrev pub packages_left : ℕ → ℕ → Option ℕ
packages_left most count = if nat_lt most count then Some (count - most) else None

-- the end of the list, and how many packages are left out
unfoldable pub packages_end : List ℕ → Option ℕ → List Part
packages_end mark left = with_values ((slot.Listed, mark) ∷ (slot.LeftOut, digits_of left) ∷ []) HOME_END

-- the forms and at most so many packages
abbrev pub packages_parts : site_file.SiteValue → ℕ → List ActiveValue → List Part
packages_parts site most actives =
    with_values ((slot.Heading, text_of site text.FindHoldings) ∷ (slot.Listed, packages_mark actives) ∷ []) HOME_START
    ++ (packages site most actives ++ packages_end (packages_mark actives) (packages_left most (length (listed actives))))

-- the most packages that the home page shows
abbrev pub home_limit : ℕ
home_limit = 200

-- the home page has the first packages
unfoldable pub home_page : site_file.SiteValue → List ActiveValue → List ℕ
home_page site actives = page_text site (packages_parts site home_limit actives)

-- the page of the active releases has all packages
unfoldable pub status_page : site_file.SiteValue → List ActiveValue → List ℕ
status_page site actives = page_text site (packages_parts site (length actives) actives)
