-- The lists of packages on the pages.
use Rattle.std.proofs.Common.{◌≡◌, ◌<◌, ◌≤◌, ◌^◌, ◌-◌, ℕ, Bool, true, List, [], ◌∷◌, ◌++◌, Some, None, codes, length, filter, take, refl, ap, ◌∙◌, inl, inr, arith}
use Rattle.std.proofs.Common.{rules}
use Rattle.std.specs.Prelude.{not}
use Rattle.std.specs.Char.{is_ascii_digit}
use Rattle.std.specs.Fmt.{decimal}
use Rattle.std.specs.List.{flat_map, list_all, list_any}
use Rattle.std.specs.Str.Parse.{digits_value}
use Rattle.std.proofs.lemmas.Bool.{and_from, and_parts, cases_Bool, false≢true, le-ltb, lt-ltb}
use Rattle.std.proofs.lemmas.Bool.Decides.{nat_tests}
use Rattle.std.proofs.lemmas.Fmt.{decimal_is_IsNumeral, decimal_nonempty}
use Rattle.std.proofs.lemmas.Grind.{common_steps}
use Rattle.std.proofs.lemmas.List.Sums.{count_by-le-length, length-filter}
use Rattle.std.proofs.lemmas.Str.Parse.{IsNumeralModel, numerals_by_value}
use Rattle.node_response.specs.Escapes.{escaped}
use Rattle.node_site.specs.Packages.{shown_package}
use Rattle.node_site.specs.Site as site_file
use Rattle.node_site.specs.Texts.{text_of}
use Rattle.node_site.specs.declared.text_table.Text.TheVariants as words
use Rattle.node_templates.proofs.Parts.{page_append}
use Rattle.node_templates.proofs.PlainTexts.{escaped_plain}
use Rattle.node_templates.specs.Pages.{Part, fragments_text, has_bytes, line_text, page_text, template_text, with_values}
use Rattle.node_templates.specs.PlainTexts.{is_plain}
use Rattle.node_templates.specs.Templates.{lines_of}
use Rattle.node_templates.specs.Values.{Values}
use Rattle.node_templates.specs.declared.slot.Slot.TheVariants as slot
use Rattle.node_templates.specs.declared.template.Hole.TheVariants.{Nothing, Words}
use Rattle.node_templates.specs.declared.template.Template.TheVariants as template
use Rattle.node_templates.specs.declared.template.When.TheVariants.{Given}
use Rattle.feed_releases.specs.Actives.{ActiveValue}
use Rattle.node_pages.specs.HitsPage.{digits_of}
use Rattle.node_pages.specs.HomePage.{has_rows, listed, package_parts, packages, packages_end, packages_left, packages_mark, packages_parts}
use Rattle.node_pages.specs.Laws.{HasText, item_text, left_text, list_text}
use Rattle.node_pages.specs.Lists.{list_mark}
use Rattle.node_pages.specs.declared.home_page.TheConstants.{HOME_START}

-- an item
of_one : (start name finish : List ℕ) → (((start ++ name) ++ ((finish ++ []) ++ [])) ++ []) ++ [] ≡ start ++ (name ++ finish)
of_one start name finish = grind (arith, common_steps)

item_is : (site : site_file.SiteValue) (active : ActiveValue) → page_text site (package_parts site active) ≡ item_text site active
unfolding lines_of fragments_text template_text page_text package_parts
item_is site active = of_one (codes "<li><bdi>") (escaped (shown_package site active.name.package_name)) (codes "</bdi></li>\n")

items_are : (site : site_file.SiteValue) (actives : List ActiveValue) → page_text site (flat_map (package_parts site) actives) ≡ flat_map (item_text site) actives
unfolding page_text
items_are site [] = refl
items_are site (active ∷ actives) =
    page_append site (package_parts site active) (flat_map (package_parts site) actives)
    ∙ ap (λ (t : List ℕ). t ++ page_text site (flat_map (package_parts site) actives)) (item_is site active)
    ∙ ap (λ (t : List ℕ). item_text site active ++ t) (items_are site actives)

-- what is before the items: the values of its parts, and its text up to the list
abbrev start_values : List ℕ → Values
start_values heading = (slot.Heading, heading) ∷ (slot.Listed, codes "list") ∷ []

abbrev head_of_list : site_file.SiteValue → List ℕ → List ℕ
head_of_list site heading =
    line_text site (start_values heading) (Given slot.Listed, (codes "<h2>", Words words.Packages) ∷ (codes "</h2>\n", Nothing) ∷ [])

abbrev before : site_file.SiteValue → List ℕ → List ℕ
before site heading =
    template_text site (start_values heading) template.Top
    ++ (template_text site (start_values heading) template.SearchForm
    ++ (template_text site (start_values heading) template.TitlesForm ++ head_of_list site heading))

list_begins : (site : site_file.SiteValue) (heading : List ℕ) → template_text site (start_values heading) template.Packages ≡ head_of_list site heading ++ codes "<ul>\n"
unfolding lines_of fragments_text template_text
list_begins site heading = refl

of_five : (a b c d e : List ℕ) → a ++ (b ++ (c ++ ((d ++ e) ++ []))) ≡ (a ++ (b ++ (c ++ d))) ++ e
of_five a b c d e = grind (arith, common_steps)

start_is : (site : site_file.SiteValue) (heading : List ℕ) → page_text site (with_values (start_values heading) HOME_START) ≡ before site heading ++ codes "<ul>\n"
unfolding page_text
start_is site heading =
    let top = template_text site (start_values heading) template.Top in
    let search = template_text site (start_values heading) template.SearchForm in
    let titles = template_text site (start_values heading) template.TitlesForm in
    ap (λ (t : List ℕ). top ++ (search ++ (titles ++ (t ++ [])))) (list_begins site heading)
    ∙ of_five top search titles (head_of_list site heading) (codes "<ul>\n")

-- what is behind the items
abbrev pub end_values : List ℕ → Values
end_values digits = (slot.Listed, codes "list") ∷ (slot.LeftOut, digits) ∷ []

of_left : (start text space digits finish : List ℕ)
    → ((start ++ text) ++ ((space ++ digits) ++ ((finish ++ []) ++ []))) ++ [] ≡ start ++ (text ++ (space ++ (digits ++ finish)))
of_left start text space digits finish = grind (arith, common_steps)

some_left : (site : site_file.SiteValue) (digits : List ℕ) → has_bytes digits ≡ true
    → template_text site (end_values digits) template.PackagesEnd
    ≡ codes "</ul>\n" ++ (codes "<p><a href=\"/status?format=html\">" ++ (escaped (text_of site words.NotShown) ++ (codes " " ++ (escaped digits ++ codes "</a></p>\n"))))
unfolding lines_of fragments_text template_text
some_left site [] some = absurd (false≢true some)
some_left site (d ∷ digits) some =
    ap (λ (t : List ℕ). codes "</ul>\n" ++ t)
    (of_left (codes "<p><a href=\"/status?format=html\">") (escaped (text_of site words.NotShown)) (codes " ") (escaped (d ∷ digits)) (codes "</a></p>\n"))

pub none_left : (site : site_file.SiteValue) → template_text site (end_values []) template.PackagesEnd ≡ codes "</ul>\n" ++ []
unfolding lines_of fragments_text template_text
none_left site = refl

-- digits stand for themselves in a page
numerals : IsNumeralModel (λ ds. list_all is_ascii_digit ds ≡ true) (digits_value 10)
numerals = numerals_by_value (λ ds. list_all is_ascii_digit ds ≡ true) (search rules)

digit_plain : (b : ℕ) → is_ascii_digit b ≡ true → is_plain b ≡ true
digit_plain b digit = grind (arith, nat_tests)

digits_plain : (ds : List ℕ) → list_all is_ascii_digit ds ≡ true → list_all is_plain ds ≡ true
digits_plain [] all = refl
digits_plain (d ∷ ds) all =
    let parts = and_parts (is_ascii_digit d) (list_all is_ascii_digit ds) all in
    and_from (is_plain d) (list_all is_plain ds) (digit_plain d parts.0) (digits_plain ds parts.1)

decimal_stands : (n : ℕ) → n < 2 ^ 64 → escaped (decimal n) ≡ decimal n
decimal_stands n small = escaped_plain (decimal n) (digits_plain (decimal n) (numerals.from (decimal n) (decimal_is_IsNumeral n small).0.1))

has_some : (bytes : List ℕ) → 0 < length bytes → has_bytes bytes ≡ true
has_some [] some = absurd (omega (arith, some))
has_some (b ∷ bytes) some = refl

pub number_left : (site : site_file.SiteValue) (n : ℕ) → n < 2 ^ 64 → template_text site (end_values (decimal n)) template.PackagesEnd ≡ codes "</ul>\n" ++ left_text site n
number_left site n small =
    some_left site (decimal n) (has_some (decimal n) (decimal_nonempty n small))
    ∙ ap (λ (digits : List ℕ). codes "</ul>\n" ++ (codes "<p><a href=\"/status?format=html\">" ++ (escaped (text_of site words.NotShown) ++ (codes " " ++ (digits ++ codes "</a></p>\n")))))
    (decimal_stands n small)

-- a list has items
any_of : {X : Type 0} (p : X → Bool) (xs : List X) → 0 < length (filter p xs) → list_any p xs ≡ true
any_of p [] some = absurd (omega (arith, some))
any_of p (x ∷ xs) some = elim (cases_Bool (p x)) [
  | inl passes ↦ rw passes refl
  | inr fails ↦ rw fails (any_of p xs (rw fails at some))
]

mark_is : (actives : List ActiveValue) → 0 < length (listed actives) → packages_mark actives ≡ codes "list"
mark_is actives some = ap (λ (any : Bool). list_mark (not any)) (any_of has_rows actives some)

pub few_listed : (actives : List ActiveValue) → length (listed actives) ≤ length actives
few_listed actives = let counted = length-filter has_rows actives in let bound = count_by-le-length has_rows actives in omega (arith, counted, bound)

in_the_middle : (first start items finish left after : List ℕ)
    → (first ++ start) ++ (items ++ ((finish ++ left) ++ after)) ≡ first ++ (((start ++ (items ++ finish)) ++ left) ++ after)
in_the_middle first start items finish left after = grind (arith, common_steps)

-- the parts of a page of packages, whose list has items
module _ (site : site_file.SiteValue) (most : ℕ) (actives : List ActiveValue) (some : 0 < length (listed actives)) where
  abbrev digits : List ℕ
  digits = digits_of (packages_left most (length (listed actives)))

  abbrev heading : List ℕ
  heading = text_of site words.FindHoldings

  abbrev foot : List ℕ
  foot = template_text site (end_values digits) template.Foot ++ []

  abbrev parts_with : List ℕ → List Part
  parts_with mark =
      with_values ((slot.Heading, heading) ∷ (slot.Listed, mark) ∷ []) HOME_START
      ++ (packages site most actives ++ packages_end mark (packages_left most (length (listed actives))))

  end_is : page_text site (packages_end (codes "list") (packages_left most (length (listed actives)))) ≡ template_text site (end_values digits) template.PackagesEnd ++ foot
  unfolding page_text packages_end
  end_is = refl

  pub is_listed : (left : List ℕ) → template_text site (end_values digits) template.PackagesEnd ≡ codes "</ul>\n" ++ left
      → HasText (page_text site (packages_parts site most actives)) (list_text site (take most (listed actives)) ++ left)
  is_listed left ends =
      let start = with_values (start_values heading) HOME_START in
      let items = packages site most actives in
      let last = packages_end (codes "list") (packages_left most (length (listed actives))) in
      let shown = flat_map (item_text site) (take most (listed actives)) in
      record {
        before = before site heading;
        after = foot;
        same = ap (λ (mark : List ℕ). page_text site (parts_with mark)) (mark_is actives some)
            ∙ page_append site start (items ++ last)
            ∙ ap (λ (t : List ℕ). page_text site start ++ t) (page_append site items last)
            ∙ ap (λ (t : List ℕ). t ++ (page_text site items ++ page_text site last)) (start_is site heading)
            ∙ ap (λ (t : List ℕ). (before site heading ++ codes "<ul>\n") ++ (t ++ page_text site last)) (items_are site (take most (listed actives)))
            ∙ ap (λ (t : List ℕ). (before site heading ++ codes "<ul>\n") ++ (shown ++ t)) (end_is ∙ ap (λ (t : List ℕ). t ++ foot) ends)
            ∙ in_the_middle (before site heading) (codes "<ul>\n") shown (codes "</ul>\n") left foot;
      }

pub none_are_left : (most count : ℕ) → count ≤ most → packages_left most count ≡ None
none_are_left most count few = rw (le-ltb most count few) refl

pub some_are_left : (most count : ℕ) → most < count → packages_left most count ≡ Some (count - most)
some_are_left most count many = rw (lt-ltb most count many) refl
