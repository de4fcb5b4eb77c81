-- The values that a site may have.
use Rattle.std.specs.Prelude.{◌≡◌, ℕ, ℤ, int_lt, ◌&&◌, Bool, true, not, List, Option, Some, None}
use Rattle.std.specs.List.{list_all}
use Rattle.node_site.specs.declared.kind.ValueKind.{ValueKind}
use Rattle.node_site.specs.declared.kind.ValueKind.TheVariants.{Text, Note, Language, Color, Url, Template, Article, Prefix, Package, FileName, Host}
use Rattle.node_site.specs.Words.{is_name}
use Rattle.node_site.specs.Urls.{is_host}
use Rattle.node_site.specs.Kinds.{is_of}
use Rattle.node_site.specs.Site.{HoldingValue, LinkRuleValue, PackageValue, PlatformValue, TitleValue, SiteValue, replacement}

-- a text is of its kind, if there is one
abbrev pub fits : ValueKind → Option (List ℕ) → Bool
fits kind None = true
fits kind (Some text) = is_of kind text

-- the last day is not before the first
abbrev pub is_forward : Option ℤ → Option ℤ → Bool
is_forward (Some first) (Some last) = not (int_lt last first)
is_forward None last = true
is_forward (Some first) None = true

abbrev pub is_holding : HoldingValue → Bool
is_holding holding = is_forward holding.first holding.last

-- a package has a name as in the names of releases
abbrev pub is_package_rule : PackageValue → Bool
is_package_rule rule =
    ((is_of Package rule.id && fits Text rule.name) && (fits Article rule.article && fits Note rule.note)) && is_holding rule.holding

abbrev pub is_title_rule : TitleValue → Bool
is_title_rule rule = ((is_of Package rule.package_id && is_of Text rule.id) && fits Note rule.note) && is_holding rule.holding

abbrev pub is_platform_rule : PlatformValue → Bool
is_platform_rule rule = is_of Host rule.host && (fits Article rule.article && fits Prefix rule.prefix)

abbrev pub is_link_rule : LinkRuleValue → Bool
is_link_rule rule = is_of Text rule.label && is_of Template rule.address

-- each text of the site is of its kind: no address but of `http` and `https`, no prefix without a host
pub record IsSite (site : SiteValue) : Type 0 where
  pub name : fits Text site.name ≡ true
  pub language : fits Language site.language ≡ true
  pub color : fits Color site.color ≡ true
  pub help : fits Url site.help ≡ true
  pub contact : fits Url site.contact ≡ true
  pub request : fits Template site.request ≡ true
  pub holdings : fits FileName site.holdings ≡ true
  pub replaced : (name : List ℕ) → is_name name ≡ true → fits Text (replacement name site.replaced) ≡ true
  pub prefix : fits Prefix site.prefix ≡ true
  pub except : list_all is_host site.except ≡ true
  pub platforms : list_all is_platform_rule site.platforms ≡ true
  pub packages : list_all is_package_rule site.packages ≡ true
  pub titles : list_all is_title_rule site.titles ≡ true
  pub links : list_all is_link_rule site.links ≡ true
