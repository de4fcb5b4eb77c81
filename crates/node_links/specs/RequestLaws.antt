-- Laws of the links to forms and to articles.
use Rattle.std.specs.Prelude.{◌≡◌, ◌↔◌, ℕ, ◌<◌, Bool, true, false, List, Some, not, filter, All}
use Rattle.std.specs.List.{list_all}
use Rattle.percent_encoding.specs.Percent.{percent_decode}
use Rattle.node_links.specs.Articles.{article_link}
use Rattle.node_site.specs.ArticleTemplates.{article_template}
use Rattle.node_site.specs.Kinds.{is_template}
use Rattle.node_site.specs.Laws.{is_plain}
use Rattle.node_links.specs.LibraryLinks.{LibraryLinkValue, library_links}
use Rattle.node_site.specs.Proxies.{is_direct, proxied}
use Rattle.node_links.specs.Requests.{CitedTitleValue, filled, gives_all, is_step, part_of, part_text}
use Rattle.node_site.specs.Site.{SiteValue}
use Rattle.node_site.specs.Hosts.{host_of, is_link}
use Rattle.node_site.specs.declared.field.Names.{Names}
use Rattle.node_site.specs.declared.occasion.LinkUse.{LinkUse}
use Rattle.node_site.specs.declared.occasion.SearchOutcome.{SearchOutcome}

-- the bytes of a link other than letters, digits and `%`: among them is each byte that ends a value or begins a parameter
abbrev pub marks : List ℕ → List ℕ
marks text = filter (λ b. not (is_plain b)) text

-- a citation adds no such byte: all links to a form, and all to articles, have the marks of their template
abbrev pub PartsAddNoMarks : Type 0
PartsAddNoMarks = (template : List ℕ) (one other : CitedTitleValue) → marks (filled one template) ≡ marks (filled other template)

-- nor does it change the host
abbrev pub RequestsKeepHost : Type 0
RequestsKeepHost = (names : Names) (template : List ℕ) (cited : CitedTitleValue) → is_template names template ≡ true
    → host_of (filled cited template) ≡ host_of template

-- nor is a part a step to another folder
abbrev pub PartsAreNoSteps : Type 0
PartsAreNoSteps = (cited : CitedTitleValue) (name : List ℕ) → All (λ b. b < 256) (part_of cited name)
    → is_step (percent_decode (part_text cited name)) ≡ false

-- a link is safe in a page
abbrev pub is_safe : LibraryLinkValue → Bool
is_safe link = is_link link.address

-- so is each link of a library
abbrev pub RequestsAreLinks : Type 0
RequestsAreLinks = (site : SiteValue) (usage : LinkUse) (outcome : SearchOutcome) (cited : CitedTitleValue)
    → list_all is_safe (library_links site usage outcome cited) ≡ true

-- a link to an article: the citation has each name of a template, and the link goes through a proxy as the link to its row does
pub record IsArticleLink (site : SiteValue) (id url : List ℕ) (is_free : Bool) (cited : CitedTitleValue) (link : List ℕ) : Type 0 where
  pub template : List ℕ
  pub has_template : article_template site id url ≡ Some template
  pub is_whole : gives_all cited template ≡ true
  pub goes : link ≡ proxied site (filled cited template) (is_direct site id is_free)
  pub is_safe : is_link link ≡ true

-- there is a link to an article exactly if it is such a link
abbrev pub ArticlesAreWhole : Type 0
ArticlesAreWhole = (site : SiteValue) (id url : List ℕ) (is_free : Bool) (cited : CitedTitleValue) (link : List ℕ)
    → (article_link site id url is_free cited ≡ Some link) ↔ IsArticleLink site id url is_free cited link
