-- A hit whose link to the article is measured and not yet written.
use Rattle.std.proofs.Common.{◌≡◌, ◌∙◌, ℕ, Bool, true, false, is_some, List, length, Option, Some, None, refl, sym}
use Rattle.std.specs.Prelude.{if◌then◌else◌, option_map, unwrap_or}
use Rattle.feed_answer.specs.declared.availability.Availability.{Availability}
use Rattle.feed_kbart.specs.RowValue.{RowValue}
use Rattle.feed_names.specs.ReleaseName.{Name}
use Rattle.node_links.specs.Articles.{article_link, with_title_id}
use Rattle.node_site.specs.Hosts.{is_link}
use Rattle.node_links.specs.Requests.{CitedTitleValue}
use Rattle.node_site.specs.Site as site_file
use Rattle.node_links.proofs.LinksMade.{articles_are_whole}
use Rattle.node_hits.specs.Hits.{article_if, article_of, is_free, leads_to_article}
use Rattle.node_hits.specs.Searches.{SearchValue}

known : (len : Option ℕ) (link : Option (List ℕ)) → len ≡ option_map length link → (if is_some len then link else None) ≡ link
known None None e = refl
known None (Some link) e = cc
known (Some len) link e = refl

article_known : (len : Option ℕ) (site : site_file.SiteValue) (cited : CitedTitleValue) (name : Name) (row : RowValue)
    → article_if len site cited name row
    ≡ (if is_some len then article_link site name.package_name row.url (is_free row) (with_title_id row.title_id cited) else None)
article_known None site cited name row = refl
article_known (Some len) site cited name row = refl

led : (b : Bool) (len : Option ℕ) (made : Option (List ℕ)) → len ≡ option_map length (if b then made else None)
    → (if is_some len then made else None) ≡ (if b then made else None)
led true len made e = known len made e
led false None made e = refl
led false (Some len) made e = cc

-- the link that is measured is that of the hit
pub article_is : (len : Option ℕ) (site : site_file.SiteValue) (search : SearchValue) (availability : Availability) (name : Name) (row : RowValue)
    → len ≡ option_map length (article_of site search availability name row)
    → article_if len site search.cited name row ≡ article_of site search availability name row
article_is len site search availability name row e =
    article_known len site search.cited name row
    ∙ led (leads_to_article search.scope availability row) len
    (article_link site name.package_name row.url (is_free row) (with_title_id row.title_id search.cited)) e

safe_if : (made : Option (List ℕ)) (len : ℕ) (page : List ℕ) → Some len ≡ option_map length made
    → ((link : List ℕ) → made ≡ Some link → is_link link ≡ true) → is_link (unwrap_or made page) ≡ true
safe_if None len page e safe = cc
safe_if (Some link) len page e safe = safe link refl

-- a link to an article is safe
pub article_is_link : (len : ℕ) (site : site_file.SiteValue) (cited : CitedTitleValue) (name : Name) (row : RowValue) (page : List ℕ)
    → Some len ≡ option_map length (article_if (Some len) site cited name row) → is_link (unwrap_or (article_if (Some len) site cited name row) page) ≡ true
article_is_link len site cited name row page e =
    safe_if (article_if (Some len) site cited name row) len page e
    (λ link is. ((articles_are_whole site name.package_name row.url (is_free row) (with_title_id row.title_id cited) link).0 is).is_safe)

pub own_article_is_link : (len : Option ℕ) (site : site_file.SiteValue) (cited : CitedTitleValue) (name : Name) (row : RowValue) (page : List ℕ)
    → is_some len ≡ true → len ≡ option_map length (article_if len site cited name row) → true ≡ is_link (unwrap_or (article_if len site cited name row) page)
own_article_is_link None site cited name row page some e = cc
own_article_is_link (Some len) site cited name row page some e = sym (article_is_link len site cited name row page e)
