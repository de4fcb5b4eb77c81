-- The links to articles, and to what a DOI names.
use Rattle.std.specs.Prelude.{◌≡◌, ℕ, ◌||◌, Bool, true, false, All, List, [], ◌++◌, Option, Some, None, if◌then◌else◌, codes, count_by, length}
use Rattle.std.specs.List.{list_all}
use Rattle.std.specs.Option.{option_and_then, option_map_or}
use Rattle.node_site.specs.ArticleTemplates.{article_template}
use Rattle.node_site.specs.Fields.{field_named}
use Rattle.node_site.specs.Proxies.{is_direct, prefix_at, prefix_for, proxied}
use Rattle.node_site.specs.Site.{SiteValue}
use Rattle.node_site.specs.declared.field.Field.{Field}
use Rattle.node_site.specs.declared.field.Field.TheVariants.{TitleId}
use Rattle.node_links.specs.Requests.{CitedTitleValue, filled, gives, gives_all, if_link, if_short, names_in, without_step}
use Rattle.node_links.specs.declared.article_sizes.ArticleSizes.{ArticleSizes}
use Rattle.node_links.specs.declared.article_sizes.LinkSize.{LinkSize}
use Rattle.node_links.specs.declared.article_sizes.MadeSize.{MadeSize}
use Rattle.node_links.specs.declared.site_links.HostPrefix.{HostPrefix}

-- a name is that of the `title_id` of a row
abbrev pub is_row_field : Option Field → Bool
is_row_field (Some TitleId) = true
is_row_field other = false

abbrev pub is_row_name : List ℕ → Bool
is_row_name name = is_row_field (field_named name)

-- how often a template has such a name
abbrev pub row_names : List ℕ → ℕ
row_names template = count_by is_row_name (names_in template)

-- the citation has the part of a name, if that is not the `title_id` of a row, and all such names of a template
abbrev pub is_given_or_row : CitedTitleValue → List ℕ → Bool
is_given_or_row cited name = is_row_name name || gives cited name

abbrev pub gives_others : CitedTitleValue → List ℕ → Bool
gives_others cited template = list_all (is_given_or_row cited) (names_in template)

-- a citation for a row, and the part of a template that the row gives; a step counts as absent
abbrev pub with_title_id : List ℕ → CitedTitleValue → CitedTitleValue
with_title_id title_id cited = record cited { title_id = title_id }

abbrev pub row_part : List ℕ → List ℕ
row_part title_id = without_step (if_short title_id)

-- the address of the cited article, if the citation has every name of the template
abbrev pub article_address : CitedTitleValue → List ℕ → Option (List ℕ)
article_address cited template = if gives_all cited template then Some (filled cited template) else None

-- the safe link to it
abbrev pub template_link : SiteValue → CitedTitleValue → Bool → List ℕ → Option (List ℕ)
template_link site cited is_direct template =
    option_and_then (λ address. if_link (proxied site address is_direct)) (article_address cited template)

-- what all links to an article by a template have in common, whatever the row is
pub record IsSizeOf (site : SiteValue) (cited : CitedTitleValue) (is_direct : Bool) (template : List ℕ) (size : LinkSize) : Type 0 where
  pub is_whole : size.is_whole ≡ gives_others cited template
  pub row_names : size.row_names ≡ row_names template
  pub len : size.len ≡ length (proxied site (filled (with_title_id [] cited) template) is_direct)
  pub is_encoded : size.is_encoded
      ≡ option_map_or (λ prefix. prefix.is_encoded) (prefix_for site (filled (with_title_id [] cited) template) is_direct) false

abbrev pub IsMade : SiteValue → CitedTitleValue → MadeSize → Type 0
IsMade site cited made = IsSizeOf site cited made.is_direct made.template.items made.size

abbrev pub AreMade : SiteValue → CitedTitleValue → ArticleSizes → Type 0
AreMade site cited sizes = All (IsMade site cited) sizes.made.items

-- a site, and what a query cites
pub record CitedLinksValue : Type 0 where
  pub site : SiteValue
  pub cited : CitedTitleValue

-- the prefix of the links to a host
abbrev pub IsPrefixOf : SiteValue → HostPrefix → Type 0
IsPrefixOf site last = last.prefix ≡ prefix_at site last.host.items

-- the link to the cited article in a row of a package, which goes through a proxy as the link to the row does
unfoldable pub article_link : SiteValue → List ℕ → List ℕ → Bool → CitedTitleValue → Option (List ℕ)
article_link site id url is_free cited =
    option_and_then (template_link site cited (is_direct site id is_free)) (article_template site id url)

-- the link to what a DOI names, which goes through a proxy as others do
unfoldable pub doi_link : SiteValue → List ℕ → Option (List ℕ)
doi_link site doi = if_link (proxied site (codes "https://doi.org/" ++ doi) false)
