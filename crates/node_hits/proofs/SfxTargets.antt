-- The targets of a query: their order, their addresses and their types.
use Rattle.std.proofs.Common.{◌≡◌, ℕ, Bool, true, false, List, [], ◌∷◌, ◌++◌, refl, sym, ap, ◌∙◌, inl, inr, All, codes, map, subst}
use Rattle.std.specs.Prelude.{◌&&◌, ◌||◌, not, if◌then◌else◌, filter}
use Rattle.std.specs.List.{list_all}
use Rattle.std.proofs.lemmas.Bool.{cases_Bool}
use Rattle.std.proofs.lemmas.List.Elements.{All-append, All-cons, All-nil}
use Rattle.feed_kbart.specs.RowValue.{RowValue}
use Rattle.node_request.specs.declared.sfx_query.SfxOptions.{SfxOptions}
use Rattle.node_links.proofs.LinksMade.{requests_are_links}
use Rattle.node_site.specs.Hosts.{is_link}
use Rattle.node_links.specs.LibraryLinks.{LibraryLinkValue, library_links}
use Rattle.node_links.specs.RequestLaws.{is_safe}
use Rattle.node_site.specs.Site as site_file
use Rattle.node_site.specs.declared.occasion.LinkUse.TheVariants.{Shown}
use Rattle.feed_answer.specs.declared.availability.Availability.{Availability}
use Rattle.node_hits.specs.Hits.{ReleaseHitValue, is_abstracts, is_open, is_readable, link_text}
use Rattle.node_hits.specs.Sfx.{TargetValue, hit_target, hit_targets, is_asked, is_target, link_target, link_targets, service_of}
use Rattle.node_hits.specs.SfxLaws.{FullTextsAreAlone, TargetsAreHitsAndLinks, TargetsAreLinks}
use Rattle.node_hits.specs.Tallies.{outcome_of}
use Rattle.node_hits.specs.declared.sfx_names.TheConstants.{ABSTRACT, FULL_TEXT}

both : (a b : Bool) → (a && b) ≡ true → (a ≡ true) × (b ≡ true)
both true b e = (refl, e)
both false b e = absurd (cc)

not_true : (b : Bool) → not b ≡ true → b ≡ false
not_true false e = refl
not_true true e = absurd (cc)

abbrev url_of : TargetValue → List ℕ
url_of target = target.service.url

-- ---- the order

urls_append : (xs ys : List TargetValue) → map url_of (xs ++ ys) ≡ map url_of xs ++ map url_of ys
urls_append [] ys = refl
urls_append (x ∷ xs) ys = ap (λ t. url_of x ∷ t) (urls_append xs ys)

hit_urls : (options : SfxOptions) (site : site_file.SiteValue) (hits : List ReleaseHitValue) → map url_of (map (hit_target options site) hits) ≡ map link_text hits
hit_urls options site [] = refl
hit_urls options site (found ∷ hits) = ap (λ t. link_text found ∷ t) (hit_urls options site hits)

ways_of : (links : List LibraryLinkValue) → map url_of (map link_target links) ≡ map (λ (link : LibraryLinkValue). link.address) links
ways_of [] = refl
ways_of (link ∷ links) = ap (λ t. link.address ∷ t) (ways_of links)

either_ways : (alone : Bool) (links : List LibraryLinkValue)
    → map url_of (if alone then [] else map link_target links) ≡ map (λ (link : LibraryLinkValue). link.address) (if alone then [] else links)
either_ways true links = refl
either_ways false links = ways_of links

pub targets_in_order : TargetsAreHitsAndLinks
targets_in_order options site tally cited =
    let links : List LibraryLinkValue = library_links site Shown (outcome_of tally) cited in
    urls_append (hit_targets options site tally.top) (link_targets options links)
    ∙ ap (λ t. t ++ map url_of (link_targets options links)) (hit_urls options site (filter (is_target options) tally.top))
    ∙ ap (λ t. map link_text (filter (is_target options) tally.top) ++ t) (either_ways options.full_texts_only links)

-- ---- what holds of each target

-- a fact of each hit that is a target, and of each link, holds of each target
each_hit : (options : SfxOptions) (site : site_file.SiteValue) (P : TargetValue → Type 0)
    → ((found : ReleaseHitValue) → is_target options found ≡ true → P (hit_target options site found)) → (hits : List ReleaseHitValue) → All P (hit_targets options site hits)
each_hit options site P holds [] = All-nil P
each_hit options site P holds (found ∷ hits) = elim (cases_Bool (is_target options found)) [
  | inl e ↦ subst (λ (b : Bool). All P (map (hit_target options site) (if b then found ∷ filter (is_target options) hits else filter (is_target options) hits))) (sym e)
      (All-cons P (hit_target options site found) (hit_targets options site hits) (holds found e) (each_hit options site P holds hits))
  | inr e ↦ subst (λ (b : Bool). All P (map (hit_target options site) (if b then found ∷ filter (is_target options) hits else filter (is_target options) hits))) (sym e)
      (each_hit options site P holds hits)
]

each_link : (links : List LibraryLinkValue) → list_all is_safe links ≡ true → All (λ target. is_link (url_of target) ≡ true) (map link_target links)
each_link [] safe = All-nil (λ target. is_link (url_of target) ≡ true)
each_link (link ∷ links) safe =
    let parts = both (is_link link.address) (list_all is_safe links) safe in
    All-cons (λ target. is_link (url_of target) ≡ true) (link_target link) (map link_target links) parts.0 (each_link links parts.1)

unless : (alone : Bool) (P : TargetValue → Type 0) (targets : List TargetValue) → (alone ≡ false → All P targets) → All P (if alone then [] else targets)
unless true P targets all = All-nil P
unless false P targets all = all refl

pub targets_safe : TargetsAreLinks
targets_safe options site tally cited =
    let links : List LibraryLinkValue = library_links site Shown (outcome_of tally) cited in
    All-append (λ target. is_link (url_of target) ≡ true) (hit_targets options site tally.top) (link_targets options links)
    (each_hit options site (λ target. is_link (url_of target) ≡ true) (λ found is. (both (is_asked options found) (is_link (link_text found)) is).1) tally.top)
    (unless options.full_texts_only (λ target. is_link (url_of target) ≡ true) (map link_target links)
    (λ shown. each_link links (requests_are_links site Shown (outcome_of tally) cited)))

-- ---- full texts alone

asked_open : (alone opens : Bool) → alone ≡ true → (not alone || opens) ≡ true → opens ≡ true
asked_open true opens e asked = asked
asked_open false opens e asked = absurd (cc)

full_service : (row : RowValue) → is_abstracts row ≡ false → service_of row ≡ codes "getFullTxt"
full_service row full = ap (λ (b : Bool). if b then ABSTRACT.now else FULL_TEXT.now) full

open_is_full : (availability : Availability) (row : RowValue) → (is_readable availability && not (is_abstracts row)) ≡ true → is_abstracts row ≡ false
open_is_full availability row opens = not_true (is_abstracts row) (both (is_readable availability) (not (is_abstracts row)) opens).1

pub full_alone : FullTextsAreAlone
full_alone options site tally cited alone =
    let links : List LibraryLinkValue = library_links site Shown (outcome_of tally) cited in
    All-append (λ target. target.service.service_type ≡ codes "getFullTxt") (hit_targets options site tally.top) (link_targets options links)
    (each_hit options site (λ target. target.service.service_type ≡ codes "getFullTxt")
    (λ found is. full_service found.hit.row (open_is_full found.availability found.hit.row
    (asked_open options.full_texts_only (is_open found) alone (both (is_asked options found) (is_link (link_text found)) is).0))) tally.top)
    (unless options.full_texts_only (λ target. target.service.service_type ≡ codes "getFullTxt") (map link_target links) (λ shown. absurd (cc)))
