-- The length of a link to an article, from what all links by its template have in common.
use Rattle.std.proofs.Common.{◌≡◌, ◌≢◌, ◌≤◌, ◌<◌, ◌∙◌, ◌+◌, ◌*◌, ◌-◌, ◌&&◌, ◌||◌, ◌==◌, ℕ, Bool, true, false}
use Rattle.std.proofs.Common.{nat_le, not, ◌/◌, div-lt_iff_lt-mul, mul_comm, List, [], length, Option, Some, None, ap, refl, sym, subst, arith}
use Rattle.std.specs.Prelude.{if◌then◌else◌, option_map}
use Rattle.std.specs.Option.{option_and_then}
use Rattle.std.proofs.lemmas.Bool.Decides.{nat_tests}
use Rattle.node_links.specs.Articles.{IsSizeOf, with_title_id, row_names, row_part, template_link}
use Rattle.node_site.specs.Hosts.{host_of}
use Rattle.node_site.specs.Kinds.{is_article}
use Rattle.node_site.specs.Proxies.{PrefixValue, prefix_at, prefix_for, proxied, through, written_target}
use Rattle.node_links.specs.Requests.{CitedTitleValue, escaped, filled, gives_all, if_link, is_given}
use Rattle.node_site.specs.Site.{SiteValue}
use Rattle.node_site.specs.Urls.{url_limit}
use Rattle.node_site.specs.Valid.{IsSite}
use Rattle.node_links.specs.declared.article_sizes.LinkSize.{LinkSize}
use Rattle.node_site.specs.declared.field.Names.TheVariants.{OfArticle}
use Rattle.node_links.proofs.Fillings.{requests_keep_host}
use Rattle.node_links.proofs.LinksFit.{article_fits, template_of}
use Rattle.node_links.proofs.RowSizes.{gives_with_row, row_adds, through_adds}

pub holds_not : (b : Bool) → not b ≡ true → b ≡ false
holds_not true h = sym h
holds_not false h = refl

pub lacks_not : (b : Bool) → not b ≡ false → b ≡ true
lacks_not true h = refl
lacks_not false h = sym h

-- what an unsigned quotient says of the product
pub more_than : (len names unit limit : ℕ) → 0 < names → len ≤ limit → (limit - len) / names < unit → limit < len + names * unit
more_than len names unit limit some fits more =
    let times : limit - len < unit * names = (div-lt_iff_lt-mul some).0 more in
    let same : unit * names ≡ names * unit = mul_comm unit names in
    omega (arith, times, same, fits)

pub at_most : (len names unit limit : ℕ) → 0 < names → len ≤ limit → unit ≤ (limit - len) / names → len + names * unit ≤ limit
at_most len names unit limit some fits few =
    let same : unit * names ≡ names * unit = mul_comm unit names in
    let never : ¬ (limit - len < unit * names) = λ more. let over : (limit - len) / names < unit = (div-lt_iff_lt-mul some).1 more in omega (arith, few, over) in
    omega (arith, same, fits, never)

pub some_from : (n : ℕ) → n ≢ 0 → 0 < n
some_from n other = grind (arith, other)

module _ (site : SiteValue) (cited : CitedTitleValue) (is_direct : Bool) (template title_id : List ℕ) (size : LinkSize)
    (valid : IsSite site) (article : is_article template ≡ true) (is : IsSizeOf site cited is_direct template size) where
  abbrev one : CitedTitleValue
  one = with_title_id title_id cited

  abbrev none : CitedTitleValue
  none = with_title_id [] cited

  abbrev link : List ℕ
  link = proxied site (filled one template) is_direct

  same_host : host_of (filled one template) ≡ host_of (filled none template)
  same_host =
      requests_keep_host OfArticle template one (template_of template article) ∙ sym (requests_keep_host OfArticle template none (template_of template article))

  same_prefix : prefix_for site (filled one template) is_direct ≡ prefix_for site (filled none template) is_direct
  same_prefix = ap (λ (host : Option (List ℕ)). if is_direct then None else option_and_then (prefix_at site) host) same_host

  -- the bytes that the row adds for each of its names
  abbrev unit : ℕ
  unit = length (written_target size.is_encoded (escaped (row_part title_id)))

  long : length link ≡ size.len + size.row_names * unit
  unfolding proxied
  long =
      ap (λ (prefix : Option PrefixValue). length (through prefix (filled one template))) same_prefix
      ∙ through_adds (prefix_for site (filled none template) is_direct) (filled one template) (filled none template) (row_names template * unit)
      (subst (λ takes. length (written_target takes (filled one template))
      ≡ length (written_target takes (filled none template)) + row_names template * unit) is.is_encoded
      (row_adds cited title_id size.is_encoded template))
      ∙ ap (λ n. n + row_names template * unit) (sym is.len)
      ∙ ap (λ n. size.len + n * unit) (sym is.row_names)

  -- a row has the link if all names are given, and the link is not too long
  abbrev len_if : Bool → Bool → Option ℕ
  len_if whole fits = if whole then (if fits then Some (size.len + size.row_names * unit) else None) else None

  len_is : (whole fits : Bool) → gives_all one template ≡ whole → nat_le (length link) url_limit ≡ fits
      → option_map length (template_link site one is_direct template) ≡ len_if whole fits
  len_is true fits given e =
      ap (λ b. option_map length (option_and_then (λ (address : List ℕ). if_link (proxied site address is_direct)) (if b then Some (filled one template) else None))) given
      ∙ ap (λ b. option_map length (if b then Some link else None)) (article_fits site valid template one is_direct article ∙ e)
      ∙ last fits
    where
      last : (b : Bool) → option_map length (if b then Some link else None) ≡ (if b then Some (size.len + size.row_names * unit) else None)
      last true = ap Some long
      last false = refl
  len_is false fits given e =
      ap (λ b. option_map length (option_and_then (λ (address : List ℕ). if_link (proxied site address is_direct)) (if b then Some (filled one template) else None))) given

  whole_is : (others part : Bool) → size.is_whole ≡ others → is_given (row_part title_id) ≡ part
      → gives_all one template ≡ (others && ((size.row_names == 0) || part))
  whole_is others part e f =
      gives_with_row cited title_id template
      ∙ ap (λ b. b && ((row_names template == 0) || is_given (row_part title_id))) (sym is.is_whole ∙ e)
      ∙ ap (λ n. others && ((n == 0) || is_given (row_part title_id))) (sym is.row_names)
      ∙ ap (λ b. others && ((size.row_names == 0) || b)) f

  some_names : 0 < size.row_names → (size.row_names == 0) ≡ false
  some_names some = grind (arith, nat_tests, some)

  pub not_whole : size.is_whole ≡ false → None ≡ option_map length (template_link site one is_direct template)
  not_whole e = sym (len_is false (nat_le (length link) url_limit) (whole_is false (is_given (row_part title_id)) e refl) refl)

  too_long : (whole : Bool) → gives_all one template ≡ whole → nat_le (length link) url_limit ≡ false
      → None ≡ option_map length (template_link site one is_direct template)
  too_long true given e = sym (len_is true false given e)
  too_long false given e = sym (len_is false false given e)

  pub none_fits : url_limit < size.len → None ≡ option_map length (template_link site one is_direct template)
  none_fits more = too_long (gives_all one template) refl (grind (arith, nat_tests, long, more))

  pub no_row : size.is_whole ≡ true → size.len ≤ url_limit → size.row_names ≡ 0
      → Some size.len ≡ option_map length (template_link site one is_direct template)
  no_row whole fits names =
      let all : size.len + size.row_names * unit ≡ size.len = ap (λ n. size.len + n * unit) names ∙ omega arith in
      sym (ap Some all)
      ∙ sym (len_is true true (whole_is true (is_given (row_part title_id)) whole refl ∙ ap (λ n. (n == 0) || is_given (row_part title_id)) names)
      (grind (arith, nat_tests, long, all, fits)))

  pub no_part : size.is_whole ≡ true → 0 < size.row_names → is_given (row_part title_id) ≡ false
      → None ≡ option_map length (template_link site one is_direct template)
  no_part whole some empty =
      sym (len_is false (nat_le (length link) url_limit) (whole_is true false whole empty ∙ ap (λ b. b || false) (some_names some)) refl)

  pub row_too_long : url_limit < size.len + size.row_names * unit → None ≡ option_map length (template_link site one is_direct template)
  row_too_long more = too_long (gives_all one template) refl (grind (arith, nat_tests, long, more))

  pub row_fits : size.is_whole ≡ true → 0 < size.row_names → is_given (row_part title_id) ≡ true → size.len + size.row_names * unit ≤ url_limit
      → Some (size.len + size.row_names * unit) ≡ option_map length (template_link site one is_direct template)
  row_fits whole some given fits =
      sym (len_is true true (whole_is true true whole given ∙ ap (λ b. b || true) (some_names some)) (grind (arith, nat_tests, long, fits)))
