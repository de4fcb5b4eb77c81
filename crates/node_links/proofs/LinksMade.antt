-- The links to articles, and those of a library.
use Rattle.std.proofs.Common.{◌≡◌, ℕ, ◌&&◌, Bool, true, false, List, [], ◌∷◌, ◌++◌, Option, Some, None, option_map, if◌then◌else◌, refl, sym, ap, ◌∙◌}
use Rattle.std.specs.List.{cons_option, list_all}
use Rattle.std.specs.Option.{option_and_then}
use Rattle.percent_encoding.proofs.PercentLemmas.{round_trip}
use Rattle.percent_encoding.specs.declared.ascii_set.TheConstants.{NON_ALPHANUMERIC}
use Rattle.node_links.specs.Articles.{article_link, template_link}
use Rattle.node_site.specs.ArticleTemplates.{article_template}
use Rattle.node_site.specs.Fields.{field_named}
use Rattle.node_site.specs.Hosts.{is_link}
use Rattle.node_links.specs.LibraryLinks.{LibraryLinkValue, library_links, made_links, request_rules, with_label}
use Rattle.node_site.specs.Occasions.{is_used}
use Rattle.node_site.specs.Proxies.{is_direct, proxied}
use Rattle.node_links.specs.RequestLaws.{ArticlesAreWhole, IsArticleLink, PartsAreNoSteps, RequestsAreLinks, is_safe}
use Rattle.node_links.specs.Requests.{CitedTitleValue, field_text, filled, gives_all, if_link, is_step, part_of, part_text}
use Rattle.node_site.specs.Site.{LinkRuleValue, SiteValue}
use Rattle.node_site.specs.Texts.{text_of}
use Rattle.node_site.specs.declared.occasion.LinkUse.{LinkUse}
use Rattle.node_site.specs.declared.occasion.SearchOutcome.{SearchOutcome}
use Rattle.node_site.specs.declared.text_table.Text.TheVariants.{Request}

-- ---- steps

no_step : (text : List ℕ) (b : Bool) → is_step text ≡ b → is_step (if b then [] else text) ≡ false
no_step text true e = refl
no_step text false e = e

pub parts_are_no_steps : PartsAreNoSteps
unfolding part_text
parts_are_no_steps cited name bytes =
    let text : List ℕ = field_text cited (field_named name) in
    ap is_step (round_trip NON_ALPHANUMERIC (part_of cited name) refl bytes) ∙ no_step text (is_step text) refl

-- ---- the links of a library

both_true : (a b : Bool) → a ≡ true → b ≡ true → (a && b) ≡ true
both_true true b one other = other
both_true false b one other = one

safe_if : (label address : List ℕ) (rest : List LibraryLinkValue) (b : Bool) → is_link address ≡ b → list_all is_safe rest ≡ true
    → list_all is_safe (cons_option (option_map (with_label label) (if b then Some address else None)) rest) ≡ true
safe_if label address rest true e more = both_true (is_link address) (list_all is_safe rest) e more
safe_if label address rest false e more = more

safe_if_used : (label address : List ℕ) (rest : List LibraryLinkValue) (b : Bool) → list_all is_safe rest ≡ true
    → list_all is_safe (cons_option (if b then option_map (with_label label) (if_link address) else None) rest) ≡ true
safe_if_used label address rest true more = safe_if label address rest (is_link address) refl more
safe_if_used label address rest false more = more

made_safe : (usage : LinkUse) (outcome : SearchOutcome) (cited : CitedTitleValue) (rules : List LinkRuleValue)
    → list_all is_safe (made_links usage outcome cited rules) ≡ true
made_safe usage outcome cited [] = refl
made_safe usage outcome cited (rule ∷ rules) =
    safe_if_used rule.label (filled cited rule.address) (made_links usage outcome cited rules) (is_used usage rule.occasion outcome)
    (made_safe usage outcome cited rules)

all_of_both : (xs ys : List LibraryLinkValue) → list_all is_safe xs ≡ true → list_all is_safe ys ≡ true → list_all is_safe (xs ++ ys) ≡ true
all_of_both [] ys one other = other
all_of_both (x ∷ xs) ys one other = go (is_safe x) one (λ more. all_of_both xs ys more other)
  where
    go : (b : Bool) → (b && list_all is_safe xs) ≡ true → (list_all is_safe xs ≡ true → list_all is_safe (xs ++ ys) ≡ true) → (b && list_all is_safe (xs ++ ys)) ≡ true
    go true h later = later h
    go false h later = cc

pub requests_are_links : RequestsAreLinks
unfolding library_links
requests_are_links site usage outcome cited =
    let request = request_rules (text_of site Request) site.request in
    all_of_both (made_links usage outcome cited request) (made_links usage outcome cited site.links) (made_safe usage outcome cited request)
    (made_safe usage outcome cited site.links)

-- ---- the links to articles

module _ (site : SiteValue) (id url : List ℕ) (is_free : Bool) (cited : CitedTitleValue) (link : List ℕ) where
  -- the link to an address as a page has it
  abbrev linked : List ℕ → Option (List ℕ)
  linked address = if_link (proxied site address (is_direct site id is_free))

  of_safe : (template text : List ℕ) (b : Bool) → article_template site id url ≡ Some template → gives_all cited template ≡ true
      → text ≡ proxied site (filled cited template) (is_direct site id is_free) → is_link text ≡ b
      → (if b then Some text else None) ≡ Some link → IsArticleLink site id url is_free cited link
  of_safe template text true has whole goes safe is =
      let same : text ≡ link = cc in
      record { template = template; has_template = has; is_whole = whole; goes = sym same ∙ goes; is_safe = ap is_link (sym same) ∙ safe }
  of_safe template text false has whole goes safe is = cc

  of_whole : (template : List ℕ) (b : Bool) → article_template site id url ≡ Some template → gives_all cited template ≡ b
      → option_and_then linked (if b then Some (filled cited template) else None) ≡ Some link → IsArticleLink site id url is_free cited link
  of_whole template true has whole is =
      let text : List ℕ = proxied site (filled cited template) (is_direct site id is_free) in
      of_safe template text (is_link text) has whole refl refl is
  of_whole template false has whole is = cc

  of_template : (o : Option (List ℕ)) → article_template site id url ≡ o
      → option_and_then (template_link site cited (is_direct site id is_free)) o ≡ Some link → IsArticleLink site id url is_free cited link
  of_template None has is = cc
  of_template (Some template) has is = of_whole template (gives_all cited template) has refl is

  is_of : IsArticleLink site id url is_free cited link
      → option_and_then (template_link site cited (is_direct site id is_free)) (article_template site id url) ≡ Some link
  is_of is =
      ap (option_and_then (template_link site cited (is_direct site id is_free))) is.has_template
      ∙ ap (λ (b : Bool). option_and_then linked (if b then Some (filled cited is.template) else None)) is.is_whole
      ∙ ap if_link (sym is.goes) ∙ ap (λ (b : Bool). if b then Some link else None) is.is_safe

pub articles_are_whole : ArticlesAreWhole
unfolding article_link
articles_are_whole site id url is_free cited link =
    (of_template site id url is_free cited link (article_template site id url) refl, is_of site id url is_free cited link)
