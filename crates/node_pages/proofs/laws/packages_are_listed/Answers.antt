use Rattle.std.proofs.Common.{◌≡◌, ◌<◌, ◌≤◌, ◌^◌, ◌-◌, ◌++◌, ℕ, List, [], Option, Some, None, codes, length, take, refl, sym, ap, subst, ◌∙◌, arith}
use Rattle.std.proofs.lemmas.List.{append-nil, take_all}
use Rattle.node_site.specs.Site as site_file
use Rattle.node_templates.specs.Pages.{template_text}
use Rattle.node_templates.specs.declared.template.Template.TheVariants as template
use Rattle.feed_releases.specs.Actives.{ActiveValue}
use Rattle.node_pages.specs.HitsPage.{digits_of}
use Rattle.node_pages.specs.HomePage.{home_limit, home_page, listed, packages_left, status_page}
use Rattle.node_pages.specs.Laws.{HasText, left_text, list_text}
use Rattle.node_pages.proofs.Packages.{end_values, few_listed, is_listed, none_are_left, none_left, number_left, some_are_left}
use Rattle.node_pages.proofs.laws.packages_are_listed.Goals as goal

-- the end of a list, by the number that is left
ends_with : (site : site_file.SiteValue) (left : Option ℕ) (number : Option ℕ) (text : List ℕ) → number ≡ left
    → template_text site (end_values (digits_of left)) template.PackagesEnd ≡ text
    → template_text site (end_values (digits_of number)) template.PackagesEnd ≡ text
ends_with site left number text same is = ap (λ (n : Option ℕ). template_text site (end_values (digits_of n)) template.PackagesEnd) same ∙ is

all_listed : (site : site_file.SiteValue) (actives : List ActiveValue) → 0 < length (listed actives) → HasText (status_page site actives) (list_text site (listed actives))
unfolding status_page
all_listed site actives some =
    let most = length actives in
    let number = packages_left most (length (listed actives)) in
    let whole = is_listed site most actives some [] (ends_with site None number (codes "</ul>\n" ++ []) (none_are_left most (length (listed actives)) (few_listed actives)) (none_left site)) in
    let shown : list_text site (take most (listed actives)) ++ [] ≡ list_text site (listed actives) =
    append-nil (list_text site (take most (listed actives))) ∙ ap (list_text site) (take_all most (listed actives) (few_listed actives)) in
    subst (HasText (status_page site actives)) shown whole

many_listed : (site : site_file.SiteValue) (actives : List ActiveValue) → home_limit < length (listed actives) → length actives < 2 ^ 64
    → HasText (home_page site actives) (list_text site (take home_limit (listed actives)) ++ left_text site (length (listed actives) - home_limit))
unfolding home_page
many_listed site actives many small =
    let count = length (listed actives) in
    let few = few_listed actives in
    is_listed site home_limit actives (omega (arith, many)) (left_text site (count - home_limit))
    (ends_with site (Some (count - home_limit)) (packages_left home_limit count) (codes "</ul>\n" ++ left_text site (count - home_limit)) (some_are_left home_limit count many)
    (number_left site (count - home_limit) (omega (arith, small, few))))

few_listed_alike : (site : site_file.SiteValue) (actives : List ActiveValue) → length (listed actives) ≤ home_limit → home_page site actives ≡ status_page site actives
unfolding home_page status_page
few_listed_alike site actives few =
    let count = length (listed actives) in
    let shown : take home_limit (listed actives) ≡ take (length actives) (listed actives) =
    take_all home_limit (listed actives) few ∙ sym (take_all (length actives) (listed actives) (few_listed actives)) in
    let left : packages_left home_limit count ≡ packages_left (length actives) count =
    none_are_left home_limit count few ∙ sym (none_are_left (length actives) count (few_listed actives)) in
    rw (shown, left) refl

pub returns : goal.returns
returns c = record {
  all = all_listed;
  few = few_listed_alike;
  many = many_listed;
}
