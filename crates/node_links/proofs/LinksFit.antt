-- A link to an article, through a proxy or not, is safe if it is not too long.
use Rattle.std.proofs.Common.{◌≡◌, ◌==◌, ◌&&◌, ◌∙◌, ◌+◌, ℕ, zero, suc, Bool, true, false, cond, nat_le, nat_lt, not}
use Rattle.std.proofs.Common.{is_some, List, [], ◌∷◌, ◌++◌, length, drop, All, Option, Some, None, ap, refl, sym, subst, arith}
use Rattle.std.specs.Prelude.{if◌then◌else◌, option_map}
use Rattle.std.specs.List.{find, list_all, position_or_len}
use Rattle.std.specs.Option.{option_and_then, option_or}
use Rattle.std.proofs.lemmas.Bool.Decides.{nat_tests}
use Rattle.std.proofs.lemmas.List.Folds.{list_all-append}
use Rattle.percent_encoding.proofs.PercentLemmas.{All-percent_encode}
use Rattle.percent_encoding.specs.Percent.{percent_encode}
use Rattle.percent_encoding.specs.declared.ascii_set.TheConstants.{NON_ALPHANUMERIC}
use Rattle.node_site.specs.ArticleTemplates.{article_of_package, article_of_platform, article_template, package_article, platform_article}
use Rattle.node_site.specs.Held.{is_package}
use Rattle.node_site.specs.Hosts.{host_of, is_link}
use Rattle.node_site.specs.Kinds.{has_end, has_fields, is_article, is_front, is_of, is_prefix, is_template}
use Rattle.node_site.specs.Laws.{is_plain}
use Rattle.node_site.specs.Platforms.{is_platform, platform_at}
use Rattle.node_site.specs.Proxies.{PrefixValue, is_excepted, platform_prefix, prefix_at, prefix_of, prefix_of_platform, proxied, site_prefix, through, written_target}
use Rattle.node_links.specs.Requests.{CitedTitleValue, filled, filled_from, part_of, part_text}
use Rattle.node_site.specs.Site.{PackageValue, PlatformValue, SiteValue}
use Rattle.node_site.specs.Urls.{after_byte, after_scheme, before_byte, has_byte, is_visible, url_limit}
use Rattle.node_site.specs.Valid.{IsSite, fits, is_holding, is_package_rule, is_platform_rule}
use Rattle.node_site.specs.declared.field.Names.TheVariants.{OfArticle, OfPrefix}
use Rattle.node_site.specs.declared.kind.ValueKind.TheVariants.{Article, Host, Note, Prefix, Text, Package}
use Rattle.node_links.proofs.Fillings.{filled_lacks, requests_keep_host}
use Rattle.node_site.proofs.HostTexts.{Lacks, and_left, and_right, host_is, host_kept, lacks-append, lacks_parts, link_lacks, plain_text_lacks}
use Rattle.node_site.proofs.Proxying.{escape_is_plain, kept_is_plain}

abbrev Shows : List ℕ → Type 0
Shows text = list_all is_visible text ≡ true

both : (a b : Bool) → a ≡ true → b ≡ true → (a && b) ≡ true
both true b one other = other
both false b one other = one

shows-append : (xs ys : List ℕ) → Shows xs → Shows ys → Shows (xs ++ ys)
shows-append xs ys one other = list_all-append is_visible xs ys ∙ both (list_all is_visible xs) (list_all is_visible ys) one other

shows-drop : (n : ℕ) (xs : List ℕ) → Shows xs → Shows (drop n xs)
shows-drop zero xs h = h
shows-drop (suc n) [] h = refl
shows-drop (suc n) (b ∷ xs) h = shows-drop n xs (and_right (is_visible b) (list_all is_visible xs) h)

lacks-drop : (n : ℕ) (xs : List ℕ) → Lacks xs → Lacks (drop n xs)
lacks-drop zero xs h = h
lacks-drop (suc n) [] h = refl
lacks-drop (suc n) (b ∷ xs) h = lacks-drop n xs (lacks_parts (b == 92) (has_byte 92 xs) h).1

plain_shows : (b : ℕ) → is_plain b ≡ true → is_visible b ≡ true
plain_shows b h = grind (arith, nat_tests)

plain_text_shows : (text : List ℕ) → All (λ b. is_plain b ≡ true) text → Shows text
plain_text_shows [] h = refl
plain_text_shows (b ∷ rest) h =
    let here : is_plain b ≡ true = h 0 0 (omega arith) in
    let more : All (λ b. is_plain b ≡ true) rest = λ k d within. h (suc k) d (omega (arith, within)) in
    both (is_visible b) (list_all is_visible rest) (plain_shows b here) (plain_text_shows rest more)

escaped_plain : (text : List ℕ) → All (λ b. is_plain b ≡ true) (percent_encode NON_ALPHANUMERIC text)
escaped_plain text = All-percent_encode (λ b. is_plain b ≡ true) NON_ALPHANUMERIC text kept_is_plain escape_is_plain

-- ---- a filled template

part_shows : (cited : CitedTitleValue) (name : List ℕ) → Shows (part_text cited name)
unfolding part_text
part_shows cited name = plain_text_shows _ (escaped_plain (part_of cited name))

either_shows : (c : Bool) (x y : List ℕ) → Shows x → Shows y → Shows (if c then x else y)
either_shows true x y one other = one
either_shows false x y one other = other

filled_shows : (cited : CitedTitleValue) (is_open : Bool) (name rest : List ℕ) → Shows rest → Shows (filled_from cited is_open name rest)
filled_shows cited true name [] h = refl
filled_shows cited false name [] h = refl
filled_shows cited true name (b ∷ rest) h =
    let more = and_right (is_visible b) (list_all is_visible rest) h in
    either_shows (b == 125) _ _
    (shows-append (part_text cited name) (filled_from cited false [] rest) (part_shows cited name) (filled_shows cited false [] rest more))
    (filled_shows cited true (name ++ b ∷ []) rest more)
filled_shows cited false name (b ∷ rest) h =
    let more = and_right (is_visible b) (list_all is_visible rest) h in
    either_shows (b == 123) _ _ (filled_shows cited true [] rest more)
    (both (is_visible b) (list_all is_visible (filled_from cited false name rest)) (and_left (is_visible b) (list_all is_visible rest) h)
    (filled_shows cited false name rest more))

link_shows : (url : List ℕ) → is_link url ≡ true → Shows url
link_shows url h =
    and_left (list_all is_visible url) (is_some (host_of url)) (and_right (nat_le (length url) url_limit) (list_all is_visible url && is_some (host_of url)) h)

link_has_host : (url : List ℕ) → is_link url ≡ true → is_some (host_of url) ≡ true
link_has_host url h =
    and_right (list_all is_visible url) (is_some (host_of url)) (and_right (nat_le (length url) url_limit) (list_all is_visible url && is_some (host_of url)) h)

-- an address: all but its length is that of a link
record IsAddress (text : List ℕ) : Type 0 where
  shows : Shows text
  lacks : Lacks text
  has_host : is_some (host_of text) ≡ true

pub template_of : (template : List ℕ) → is_article template ≡ true → is_template OfArticle template ≡ true
template_of template h = and_left (is_template OfArticle template) (has_byte 123 template) h

address_is : (template : List ℕ) (cited : CitedTitleValue) → is_article template ≡ true → IsAddress (filled cited template)
address_is template cited h =
    let is = template_of template h in
    let link = and_left (is_link template) (has_fields OfArticle template)
    (and_left (is_link template && has_fields OfArticle template) (is_front (before_byte 123 template)) is) in
    record {
      shows = filled_shows cited false [] template (link_shows template link);
      lacks = filled_lacks cited false [] template (link_lacks template link);
      has_host = ap is_some (requests_keep_host OfArticle template cited is) ∙ link_has_host template link;
    }

-- ---- behind a prefix

record IsSound (prefix : PrefixValue) : Type 0 where
  front : is_front prefix.front ≡ true
  shows : Shows prefix.rest
  lacks : Lacks prefix.rest

sound_of : (encodes : Bool) (text : List ℕ) → is_prefix text ≡ true → IsSound (prefix_of encodes text)
sound_of encodes text h =
    let is = and_left (is_template OfPrefix text) (not (has_byte 123 (after_byte 123 text))) h in
    let link = and_left (is_link text) (has_fields OfPrefix text) (and_left (is_link text && has_fields OfPrefix text) (is_front (before_byte 123 text)) is) in
    let behind : ℕ = position_or_len (λ b. b == 125) text + 1 in
    record {
      front = and_right (is_link text && has_fields OfPrefix text) (is_front (before_byte 123 text)) is;
      shows = shows-drop behind text (link_shows text link);
      lacks = lacks-drop behind text (link_lacks text link);
    }

written_shows : (takes : Bool) (text : List ℕ) → Shows text → Shows (written_target takes text)
written_shows true text h = plain_text_shows _ (escaped_plain text)
written_shows false text h = h

written_lacks : (takes : Bool) (text : List ℕ) → Lacks text → Lacks (written_target takes text)
written_lacks true text h = plain_text_lacks _ (escaped_plain text)
written_lacks false text h = h

front_is_link : (front : List ℕ) → is_front front ≡ true → is_link front ≡ true
front_is_link front h = and_left (is_link front) (has_end (after_scheme front)) (and_right (nat_lt 8 (length front)) (is_link front && has_end (after_scheme front)) h)

-- of a text that shows and has a host the length decides
length_decides : (text : List ℕ) → Shows text → is_some (host_of text) ≡ true → is_link text ≡ nat_le (length text) url_limit
length_decides text shows host = ap (λ b. nat_le (length text) url_limit && b) (both (list_all is_visible text) (is_some (host_of text)) shows host) ∙ last (nat_le (length text) url_limit)
  where
    last : (b : Bool) → (b && true) ≡ b
    last true = refl
    last false = refl

abbrev IsSoundIfAny : Option PrefixValue → Type 0
IsSoundIfAny prefix = (p : PrefixValue) → prefix ≡ Some p → IsSound p

decides_through : (prefix : Option PrefixValue) (address : List ℕ) → IsSoundIfAny prefix → IsAddress address
    → is_link (through prefix address) ≡ nat_le (length (through prefix address)) url_limit
decides_through None address sound is = length_decides address is.shows is.has_host
decides_through (Some p) address sound is =
    let sound = sound p refl in
    let link = front_is_link p.front sound.front in
    let text : List ℕ = written_target p.is_encoded address ++ p.rest in
    let text_lacks : Lacks text = lacks-append (written_target p.is_encoded address) p.rest (written_lacks p.is_encoded address is.lacks) sound.lacks in
    let host : host_of (p.front ++ text) ≡ host_of p.front =
    host_is (p.front ++ text) (lacks-append p.front text (link_lacks p.front link) text_lacks) ∙ host_kept p.front text sound.front
    ∙ sym (host_is p.front (link_lacks p.front link)) in
    length_decides (p.front ++ text)
    (shows-append p.front text (link_shows p.front link)
    (shows-append (written_target p.is_encoded address) p.rest (written_shows p.is_encoded address is.shows) sound.shows))
    (ap is_some host ∙ link_has_host p.front link)

-- ---- the prefixes and the templates of a site

found_passes : {X : Type 0} (test check : X → Bool) (xs : List X) (x : X) → list_all check xs ≡ true → find test xs ≡ Some x → check x ≡ true
found_passes test check [] x all found = cc
found_passes test check (y ∷ ys) x all found =
    go (test y) found (λ later. found_passes test check ys x (and_right (check y) (list_all check ys) all) later)
  where
    go : (c : Bool) → cond c (Some y) (find test ys) ≡ Some x → (find test ys ≡ Some x → check x ≡ true) → check x ≡ true
    go true is later = let same : y ≡ x = cc in ap check (sym same) ∙ and_left (check y) (list_all check ys) all
    go false is later = later is

platform_passes : (platforms : List PlatformValue) (host : List ℕ) (rule : PlatformValue) → list_all is_platform_rule platforms ≡ true
    → platform_at platforms host ≡ Some rule → is_platform_rule rule ≡ true
platform_passes platforms host rule all found = go (nat_le (length host) 253) found
  where
    go : (c : Bool) → (if c then find (is_platform host) platforms else None) ≡ Some rule → is_platform_rule rule ≡ true
    go true is = found_passes (is_platform host) is_platform_rule platforms rule all is
    go false is = cc

sound_if : (encodes : Bool) (text : Option (List ℕ)) → fits Prefix text ≡ true → IsSoundIfAny (option_map (prefix_of encodes) text)
sound_if encodes None fine p is = cc
sound_if encodes (Some text) fine p is = let same : prefix_of encodes text ≡ p = cc in subst IsSound same (sound_of encodes text fine)

unless : (c : Bool) (prefix : Option PrefixValue) → IsSoundIfAny prefix → IsSoundIfAny (if c then None else prefix)
unless true prefix sound p is = cc
unless false prefix sound p is = sound p is

module _ (site : SiteValue) (valid : IsSite site) where
  platform_sound : (host : List ℕ) (rule : Option PlatformValue) → platform_at site.platforms host ≡ rule
      → IsSoundIfAny (option_and_then prefix_of_platform rule)
  platform_sound host None found p is = cc
  platform_sound host (Some rule) found p is =
      let fine = platform_passes site.platforms host rule valid.platforms found in
      let texts = and_right (is_of Host rule.host) (fits Article rule.article && fits Prefix rule.prefix) fine in
      sound_if rule.encodes rule.prefix (and_right (fits Article rule.article) (fits Prefix rule.prefix) texts) p is

  either_sound : (one other : Option PrefixValue) → IsSoundIfAny one → IsSoundIfAny other → IsSoundIfAny (option_or one other)
  either_sound None other h k = k
  either_sound (Some one) other h k = h

  host_sound : (host : List ℕ) → IsSoundIfAny (prefix_at site host)
  host_sound host =
      unless (is_excepted site.except host) (option_or (platform_prefix site host) (site_prefix site))
      (either_sound (platform_prefix site host) (site_prefix site) (platform_sound host (platform_at site.platforms host) refl)
      (sound_if site.encodes site.prefix valid.prefix))

  prefix_sound : (is_direct : Bool) (host : Option (List ℕ)) → IsSoundIfAny (if is_direct then None else option_and_then (prefix_at site) host)
  prefix_sound true host p is = cc
  prefix_sound false None p is = cc
  prefix_sound false (Some host) p is = host_sound host p is

  -- a link to an article is safe if it is not too long
  pub article_fits : (template : List ℕ) (cited : CitedTitleValue) (is_direct : Bool) → is_article template ≡ true
      → is_link (proxied site (filled cited template) is_direct) ≡ nat_le (length (proxied site (filled cited template) is_direct)) url_limit
  unfolding proxied
  article_fits template cited is_direct h =
      let address : List ℕ = filled cited template in
      decides_through (if is_direct then None else option_and_then (prefix_at site) (host_of address)) address
      (prefix_sound is_direct (host_of address)) (address_is template cited h)

  article_if : (text : Option (List ℕ)) (template : List ℕ) → fits Article text ≡ true → text ≡ Some template → is_article template ≡ true
  article_if None template fine is = cc
  article_if (Some text) template fine is = let same : text ≡ template = cc in ap is_article (sym same) ∙ fine

  package_fits : (id : List ℕ) (rule : Option PackageValue) → find (is_package id) site.packages ≡ rule → (template : List ℕ)
      → option_and_then article_of_package rule ≡ Some template → is_article template ≡ true
  package_fits id None found template is = cc
  package_fits id (Some rule) found template is =
      let fine = found_passes (is_package id) is_package_rule site.packages rule valid.packages found in
      let texts = and_right (is_of Package rule.id && fits Text rule.name) (fits Article rule.article && fits Note rule.note)
      (and_left ((is_of Package rule.id && fits Text rule.name) && (fits Article rule.article && fits Note rule.note)) (is_holding rule.holding) fine) in
      article_if rule.article template (and_left (fits Article rule.article) (fits Note rule.note) texts) is

  platform_fits : (host : List ℕ) (rule : Option PlatformValue) → platform_at site.platforms host ≡ rule → (template : List ℕ)
      → option_and_then article_of_platform rule ≡ Some template → is_article template ≡ true
  platform_fits host None found template is = cc
  platform_fits host (Some rule) found template is =
      let fine = platform_passes site.platforms host rule valid.platforms found in
      let texts = and_right (is_of Host rule.host) (fits Article rule.article && fits Prefix rule.prefix) fine in
      article_if rule.article template (and_left (fits Article rule.article) (fits Prefix rule.prefix) texts) is

  host_fits : (host : Option (List ℕ)) (template : List ℕ) → option_and_then (platform_article site) host ≡ Some template → is_article template ≡ true
  host_fits None template is = cc
  host_fits (Some host) template is = platform_fits host (platform_at site.platforms host) refl template is

  either_fits : (one other : Option (List ℕ)) (template : List ℕ) → (one ≡ Some template → is_article template ≡ true)
      → (other ≡ Some template → is_article template ≡ true) → option_or one other ≡ Some template → is_article template ≡ true
  either_fits None other template h k is = k is
  either_fits (Some one) other template h k is = h is

  -- the template for the articles of a row is the address of an article
  pub template_fits : (id url template : List ℕ) → article_template site id url ≡ Some template → is_article template ≡ true
  template_fits id url template is =
      either_fits (package_article site id) (option_and_then (platform_article site) (host_of url)) template
      (package_fits id (find (is_package id) site.packages) refl template) (host_fits (host_of url) template) is
