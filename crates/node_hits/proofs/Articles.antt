-- The links to articles are those of the hits that lead to them.
use Rattle.std.proofs.Common.{◌≡◌, ◌&&◌, ℕ, Bool, true, false, List, Option, Some, None, if◌then◌else◌, refl, ap, ◌∙◌}
use Rattle.std.specs.Prelude.{unwrap_or}
use Rattle.feed_answer.specs.HitValue.{HitValue}
use Rattle.feed_answer.specs.Today.{TodayValue}
use Rattle.feed_names.specs.ReleaseName.{Name}
use Rattle.node_links.specs.Articles.{article_link}
use Rattle.node_site.specs.Site as site_file
use Rattle.node_hits.specs.Hits.{ReleaseHitValue, cited_in, is_for_hits, is_free, is_open_or_unknown, leads_to_article, link_text, may_be_full_text, page_text, release_hit}
use Rattle.node_hits.specs.Laws.{ArticlesComeFirst, IsArticle}
use Rattle.node_hits.specs.Searches.{SearchValue}

and_left : (a b : Bool) → (a && b) ≡ true → a ≡ true
and_left true b e = refl
and_left false b e = absurd (cc)

and_right : (a b : Bool) → (a && b) ≡ true → b ≡ true
and_right true b e = e
and_right false b e = absurd (cc)

both : (a b : Bool) → a ≡ true → b ≡ true → (a && b) ≡ true
both true b one other = other
both false b one other = one

-- a link that depends on a condition
chosen : (b : Bool) (made : Option (List ℕ)) (link : List ℕ) → (if b then made else None) ≡ Some link → (b ≡ true) × (made ≡ Some link)
chosen true made link e = (refl, e)
chosen false made link e = absurd (cc)

module _ (site : site_file.SiteValue) (today : TodayValue) (search : SearchValue) (name : Name) (hit : HitValue) (link : List ℕ) where
  abbrev found : ReleaseHitValue
  found = release_hit site today search name hit

  abbrev made : Option (List ℕ)
  made = article_link site name.package_name hit.row.url (is_free hit.row) (cited_in search hit.row)

  is_article : found.article ≡ Some link → IsArticle site search found link
  is_article e =
      let parts = chosen (leads_to_article search.scope found.availability hit.row) made link e in
      let others = and_right (is_for_hits search.scope) (is_open_or_unknown found.availability && may_be_full_text hit.row) parts.0 in
      record {
        of_query = and_left (is_for_hits search.scope) (is_open_or_unknown found.availability && may_be_full_text hit.row) parts.0;
        open_or_unknown = and_left (is_open_or_unknown found.availability) (may_be_full_text hit.row) others;
        full_or_unknown = and_right (is_open_or_unknown found.availability) (may_be_full_text hit.row) others;
        means = parts.1;
      }

  has_article : IsArticle site search found link → found.article ≡ Some link
  has_article is =
      let others = both (is_open_or_unknown found.availability) (may_be_full_text hit.row) is.open_or_unknown is.full_or_unknown in
      ap (λ (b : Bool). if b then made else None)
      (both (is_for_hits search.scope) (is_open_or_unknown found.availability && may_be_full_text hit.row) is.of_query others) ∙ is.means

  comes_first : IsArticle site search found link → link_text found ≡ link
  comes_first is = ap (λ (o : Option (List ℕ)). unwrap_or o (page_text found)) (has_article is)

pub articles_come_first : ArticlesComeFirst
articles_come_first site today search name hit link =
    ((is_article site today search name hit link, has_article site today search name hit link), comes_first site today search name hit link)
