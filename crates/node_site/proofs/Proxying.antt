-- Which links go through the proxy.
use Rattle.std.proofs.Common.{◌≡◌, ℕ, ◌+◌, ◌*◌, ◌<◌, ◌≤◌, length, subst, Bool, true, false, not, List, [], ◌∷◌, ◌++◌, ◌&&◌, Option, Some, None, is_some, nat_le, All}
use Rattle.std.proofs.Common.{if◌then◌else◌, option_map, refl, arith, sym, ap, ◌∙◌}
use Rattle.std.specs.Char.{is_ascii_alphanumeric}
use Rattle.percent_encoding.specs.Percent.{percent_encode}
use Rattle.percent_encoding.specs.declared.ascii_set.TheConstants.{NON_ALPHANUMERIC}
use Rattle.std.proofs.lemmas.List.{length-append}
use Rattle.std.proofs.lemmas.Bool.{agree_below_at}
use Rattle.std.proofs.lemmas.Bool.Decides.{nat_tests}
use Rattle.percent_encoding.specs.AsciiSet.{contains, should_percent_encode}
use Rattle.percent_encoding.proofs.AsciiSetLemmas.{ascii_from_kept, outside_from_kept}
use Rattle.percent_encoding.proofs.PercentLemmas.{All-percent_encode, IsEscapeByte, length-percent_decode, round_trip}
use Rattle.percent_encoding.proofs.StandardFacts.{non_alphanumeric}
use Rattle.std.specs.List.{list_all}
use Rattle.std.specs.Option.{option_and_then, option_map_or, option_or}
use Rattle.node_site.specs.Hosts.{host_of, is_link}
use Rattle.node_site.specs.Site.{SiteValue}
use Rattle.node_site.specs.Proxies.{PrefixValue, is_excepted, platform_prefix, prefix_at, prefix_of, proxied, site_prefix, through, written_target}
use Rattle.node_site.specs.Urls.{is_visible, url_limit}
use Rattle.node_site.specs.Laws.{IsTarget, GoesThrough, LinkFits, is_plain}

not_false : (b : Bool) → not b ≡ false → b ≡ true
not_false true h = refl
not_false false h = sym h

pub free_is_target : (site : SiteValue) (target : List ℕ) → proxied site target true ≡ target
unfolding proxied
free_is_target site target = refl

pub excepted_is_target : (site : SiteValue) (target host : List ℕ) (is_free : Bool) → host_of target ≡ Some host
    → is_excepted site.except host ≡ true → proxied site target is_free ≡ target
unfolding proxied
excepted_is_target site target host true h e = refl
excepted_is_target site target host false h e = rw (h, e)

pub direct_is_target : (site : SiteValue) (target : List ℕ) (is_direct : Bool) → site.prefix ≡ None → ((host : List ℕ) → platform_prefix site host ≡ None)
    → proxied site target is_direct ≡ target
unfolding proxied
direct_is_target site target true none platforms = refl
direct_is_target site target false none platforms = of_host (host_of target)
  where
    no_prefix : (host : List ℕ) (b : Bool) → (if b then None else option_or (platform_prefix site host) (site_prefix site)) ≡ None
    no_prefix host true = refl
    no_prefix host false =
        ap (λ (o : Option PrefixValue). option_or o (site_prefix site)) (platforms host) ∙ ap (λ (t : Option (List ℕ)). option_map (prefix_of site.encodes) t) none

    of_host : (o : Option (List ℕ)) → through (option_and_then (prefix_at site) o) target ≡ target
    of_host None = refl
    of_host (Some host) = ap (λ (p : Option PrefixValue). through p target) (no_prefix host (is_excepted site.except host))

-- a byte that stays as it is is a letter or a digit
kept_is_alphanumeric : (b : ℕ) → should_percent_encode NON_ALPHANUMERIC b ≡ false → is_ascii_alphanumeric b ≡ true
kept_is_alphanumeric b kept =
    let ascii : b < 128 = ascii_from_kept NON_ALPHANUMERIC b kept in
    let outside : contains NON_ALPHANUMERIC b ≡ false = outside_from_kept NON_ALPHANUMERIC b kept in
    let agrees : contains NON_ALPHANUMERIC b ≡ not (is_ascii_alphanumeric b) =
    agree_below_at (contains NON_ALPHANUMERIC) (λ k. not (is_ascii_alphanumeric k)) 128 b non_alphanumeric ascii in
    not_false (is_ascii_alphanumeric b) (sym agrees ∙ outside)

pub kept_is_plain : (b : ℕ) → should_percent_encode NON_ALPHANUMERIC b ≡ false → is_plain b ≡ true
kept_is_plain b kept = rw (kept_is_alphanumeric b kept)

pub escape_is_plain : (b : ℕ) → IsEscapeByte b → is_plain b ≡ true
escape_is_plain b h = grind (arith, nat_tests)

-- what is written of a target
written : (takes : Bool) (target : List ℕ) → All (λ b. b < 256) target
    → IsTarget takes target (if takes then percent_encode NON_ALPHANUMERIC target else target)
written false target bytes = refl
written true target bytes =
    (round_trip NON_ALPHANUMERIC target refl bytes, All-percent_encode (λ b. is_plain b ≡ true) NON_ALPHANUMERIC target kept_is_plain escape_is_plain)

pub others_go : (site : SiteValue) (target host : List ℕ) (prefix : PrefixValue) → All (λ b. b < 256) target
    → host_of target ≡ Some host → prefix_at site host ≡ Some prefix → GoesThrough prefix target (proxied site target false)
unfolding proxied
others_go site target host prefix bytes h p = record {
  middle = written_target prefix.is_encoded target;
  encloses = ap (λ (o : Option PrefixValue). through o target) (ap (option_and_then (prefix_at site)) h ∙ p);
  follows = written prefix.is_encoded target bytes;
}

-- ---- the room of a link

written_fits : (takes : Bool) (target : List ℕ) → All (λ b. b < 256) target
    → length (if takes then percent_encode NON_ALPHANUMERIC target else target) ≤ (if takes then 3 * length target else length target)
written_fits false target bytes = omega arith
written_fits true target bytes =
    subst (λ (t : List ℕ). length (percent_encode NON_ALPHANUMERIC target) ≤ 3 * length t) (round_trip NON_ALPHANUMERIC target refl bytes)
    (length-percent_decode (percent_encode NON_ALPHANUMERIC target)).1

pub link_fits : LinkFits
link_fits None target bytes = omega arith
link_fits (Some prefix) target bytes =
    let text : List ℕ = written_target prefix.is_encoded target in
    let whole : length (prefix.front ++ (text ++ prefix.rest)) ≡ length prefix.front + length (text ++ prefix.rest) = length-append prefix.front (text ++ prefix.rest) in
    let behind : length (text ++ prefix.rest) ≡ length text + length prefix.rest = length-append text prefix.rest in
    let fits : length text ≤ (if prefix.is_encoded then 3 * length target else length target) = written_fits prefix.is_encoded target bytes in
    grind (arith)

-- ---- links that are not safe

and_right : (a b : Bool) → b ≡ false → (a && b) ≡ false
and_right true b e = e
and_right false b e = refl

and_left : (a b : Bool) → a ≡ false → (a && b) ≡ false
and_left true b e = absurd (cc)
and_left false b e = refl

-- a target that is too long has no safe link
pub long_is_unsafe : (prefix : Option PrefixValue) (target : List ℕ) → All (λ b. b < 256) target → url_limit < length target
    → is_link (through prefix target) ≡ false
long_is_unsafe prefix target bytes long = of prefix
  where
    longer : (takes : Bool) → length target ≤ length (if takes then percent_encode NON_ALPHANUMERIC target else target)
    longer false = omega arith
    longer true =
        subst (λ (t : List ℕ). length t ≤ length (percent_encode NON_ALPHANUMERIC target)) (round_trip NON_ALPHANUMERIC target refl bytes)
        (length-percent_decode (percent_encode NON_ALPHANUMERIC target)).0

    too_long : (link : List ℕ) → url_limit < length link → is_link link ≡ false
    too_long link more = and_left (nat_le (length link) url_limit) _ (grind (arith, nat_tests))

    of : (o : Option PrefixValue) → is_link (through o target) ≡ false
    of None = too_long target long
    of (Some p) =
        let text : List ℕ = written_target p.is_encoded target in
        let whole : length (p.front ++ (text ++ p.rest)) ≡ length p.front + length (text ++ p.rest) = length-append p.front (text ++ p.rest) in
        let behind : length (text ++ p.rest) ≡ length text + length p.rest = length-append text p.rest in
        let more : length target ≤ length text = longer p.is_encoded in
        too_long (p.front ++ (text ++ p.rest)) (omega (arith, whole, behind, more, long))

-- nor has one with a byte that is not visible, if it is not escaped
pub odd_is_unsafe : (prefix : Option PrefixValue) (target : List ℕ) → option_map_or (λ p. p.is_encoded) prefix false ≡ false
    → list_all is_visible target ≡ false → is_link (through prefix target) ≡ false
odd_is_unsafe prefix target plain odd = of prefix plain
  where
    odd_front : (text rest : List ℕ) → list_all is_visible text ≡ false → list_all is_visible (text ++ rest) ≡ false
    odd_front [] rest e = absurd (cc)
    odd_front (b ∷ text) rest e = go (is_visible b) e (odd_front text rest)
      where
        go : (c : Bool) → (c && list_all is_visible text) ≡ false → (list_all is_visible text ≡ false → list_all is_visible (text ++ rest) ≡ false)
            → (c && list_all is_visible (text ++ rest)) ≡ false
        go true h later = later h
        go false h later = refl

    odd_behind : (front text : List ℕ) → list_all is_visible text ≡ false → list_all is_visible (front ++ text) ≡ false
    odd_behind [] text e = e
    odd_behind (b ∷ front) text e = and_right (is_visible b) (list_all is_visible (front ++ text)) (odd_behind front text e)

    unsafe : (link : List ℕ) → list_all is_visible link ≡ false → is_link link ≡ false
    unsafe link e = and_right (nat_le (length link) url_limit) _ (and_left (list_all is_visible link) _ e)

    of : (o : Option PrefixValue) → option_map_or (λ p. p.is_encoded) o false ≡ false → is_link (through o target) ≡ false
    of None e = unsafe target odd
    of (Some p) e =
        ap (λ c. is_link (p.front ++ ((if c then percent_encode NON_ALPHANUMERIC target else target) ++ p.rest))) e
        ∙ unsafe (p.front ++ (target ++ p.rest)) (odd_behind p.front (target ++ p.rest) (odd_front target p.rest odd))

-- nor one without a host that goes through no proxy
pub hostless_is_unsafe : (prefix : Option PrefixValue) (target : List ℕ) → is_some prefix ≡ false → is_some (host_of target) ≡ false
    → is_link (through prefix target) ≡ false
hostless_is_unsafe None target direct none = and_right (nat_le (length target) url_limit) _ (and_right (list_all is_visible target) _ none)
hostless_is_unsafe (Some prefix) target direct none = absurd (cc)
