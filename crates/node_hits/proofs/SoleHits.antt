-- A sole link is that of the only hit.
use Rattle.std.proofs.Common.{◌≡◌, ◌<◌, ℕ, suc, List, [], ◌∷◌, Bool, true, false, Option, Some, None, refl, sym, ap, ◌∙◌, arith, length, subst}
use Rattle.std.specs.Prelude.{◌==◌, ◌&&◌, ◌-◌, nat_lt, if◌then◌else◌, option_map}
use Rattle.std.specs.List.{list_all}
use Rattle.std.proofs.lemmas.Bool.{ne_eqb}
use Rattle.std.proofs.lemmas.Bool.Decides.{nat_tests}
use Rattle.feed_answer.specs.declared.availability.Availability.{Availability}
use Rattle.feed_answer.specs.declared.availability.Availability.TheVariants.{Available, Partly, NotCompared, Embargoed}
use Rattle.feed_answer.specs.declared.grade.Grade.{Grade}
use Rattle.feed_answer.specs.declared.grade.Grade.TheVariants.{Inside, Overlap, Untested}
use Rattle.node_site.specs.Hosts.{is_link}
use Rattle.node_hits.specs.Hits.{ReleaseHitValue, LinkValue, best_link, better, is_available, is_certain, is_full_text, is_inside, link_of, link_text, link_url, link_with, rank_of}
use Rattle.node_hits.specs.Looks.{FoundValue}
use Rattle.node_hits.specs.Tallies.{counted, first_within, link_if_certain, shown_limit, sole_link, tally_of, text_limit, text_size}
use Rattle.node_hits.specs.Laws.{IsSoleHit, SoleLinkIsOfSoleHit}

and_left : (a b : Bool) → (a && b) ≡ true → a ≡ true
and_left true b e = refl
and_left false b e = absurd (cc)

and_right : (a b : Bool) → (a && b) ≡ true → b ≡ true
and_right true b e = e
and_right false b e = absurd (cc)

available : (a : Availability) → is_available a ≡ true → a ≡ Available
available Available e = refl
available Partly e = absurd (cc)
available NotCompared e = absurd (cc)
available Embargoed e = absurd (cc)

inside : (g : Grade) → is_inside g ≡ true → g ≡ Inside
inside Inside e = refl
inside Overlap e = absurd (cc)
inside Untested e = absurd (cc)

better_none : (one : Option LinkValue) → better one None ≡ one
better_none None = refl
better_none (Some one) = refl

-- the best link of one hit is its own
best_one : (found : ReleaseHitValue) → best_link (found ∷ []) ≡ option_map link_url (link_of found)
best_one found = ap (option_map link_url) (better_none (link_of found))

linked : (b : Bool) (rank : ℕ) (text url : List ℕ) → option_map link_url (if b then Some (link_with rank text) else None) ≡ Some url → (b ≡ true) × (text ≡ url)
linked true rank text url e = (refl, cc)
linked false rank text url e = absurd (cc)

chosen : (b : Bool) (link : Option (List ℕ)) (url : List ℕ) → (if b then link else None) ≡ Some url → (b ≡ true) × (link ≡ Some url)
chosen true link url e = (refl, e)
chosen false link url e = absurd (cc)

shown_one : (room : Bool) (found : ReleaseHitValue) (link : Option (List ℕ)) (url : List ℕ) → link_if_certain (if room then found ∷ [] else []) link ≡ Some url
    → (is_certain found ≡ true) × (link ≡ Some url)
shown_one true found link url e = chosen (is_certain found) link url e
shown_one false found link url e = absurd (cc)

-- what is known of the only hit that is counted
record IsSoleOne (found : ReleaseHitValue) (url : List ℕ) : Type 0 where
  available : found.availability ≡ Available
  inside : found.hit.grade ≡ Inside
  full : is_full_text found.hit.row ≡ true
  whole : found.is_held_whole ≡ true
  link : is_link url ≡ true
  means : url ≡ link_text found

-- the link of a list of hits, if it has only one
abbrev sole_of : List ReleaseHitValue → Option (List ℕ)
sole_of hits = if length hits == 1 then link_if_certain (first_within shown_limit text_limit hits) (best_link hits) else None

sole_one : (found : ReleaseHitValue) (url : List ℕ) → sole_of (found ∷ []) ≡ Some url → IsSoleOne found url
sole_one found url is =
    let shown = shown_one (nat_lt 0 (text_limit - text_size found)) found (best_link (found ∷ [])) url is in
    let in_full = and_left ((is_available found.availability && is_inside found.hit.grade) && is_full_text found.hit.row) found.is_held_whole shown.0 in
    let covered = and_left (is_available found.availability && is_inside found.hit.grade) (is_full_text found.hit.row) in_full in
    let own = linked (is_link (link_text found)) (rank_of found) (link_text found) url (sym (best_one found) ∙ shown.1) in
    record {
      available = available found.availability (and_left (is_available found.availability) (is_inside found.hit.grade) covered);
      inside = inside found.hit.grade (and_right (is_available found.availability) (is_inside found.hit.grade) covered);
      full = and_right (is_available found.availability && is_inside found.hit.grade) (is_full_text found.hit.row) in_full;
      whole = and_right ((is_available found.availability && is_inside found.hit.grade) && is_full_text found.hit.row) found.is_held_whole shown.0;
      link = subst (λ (u : List ℕ). is_link u ≡ true) own.1 own.0;
      means = sym own.1;
    }

-- of several hits none is the sole one
several : (one other : ReleaseHitValue) (more : List ReleaseHitValue) → (length (one ∷ other ∷ more) == 1) ≡ false
several one other more = ne_eqb (suc (suc (length more))) 1 (λ e. omega arith)

none_of_several : (one other : ReleaseHitValue) (more : List ReleaseHitValue) → sole_of (one ∷ other ∷ more) ≡ None
none_of_several one other more =
    let hits = one ∷ other ∷ more in
    ap (λ b. if b then link_if_certain (first_within shown_limit text_limit hits) (best_link hits) else None) (several one other more)

sole_only : (hits : List ReleaseHitValue) (url : List ℕ) → sole_of hits ≡ Some url → (found : ReleaseHitValue) × (hits ≡ found ∷ []) × IsSoleOne found url
sole_only [] url is = absurd (cc)
sole_only (found ∷ []) url is = (found, refl, sole_one found url is)
sole_only (one ∷ other ∷ more) url is = let none = none_of_several one other more in absurd (cc)

one_has : (found : ReleaseHitValue) (url : List ℕ) → IsSoleOne found url → text_size found < text_limit → sole_of (found ∷ []) ≡ Some url
one_has found url is small =
    let best = best_link (found ∷ []) in
    let linked : is_link (link_text found) ≡ true = subst (λ (u : List ℕ). is_link u ≡ true) is.means is.link in
    let room : nat_lt 0 (text_limit - text_size found) ≡ true = grind (arith, nat_tests) in
    ap (λ b. link_if_certain (if b then found ∷ [] else []) best) room
    ∙ ap (λ (a : Availability). if ((is_available a && is_inside found.hit.grade) && is_full_text found.hit.row) && found.is_held_whole then best else None) is.available
    ∙ ap (λ (g : Grade). if (is_inside g && is_full_text found.hit.row) && found.is_held_whole then best else None) is.inside
    ∙ ap (λ b. if b && found.is_held_whole then best else None) is.full
    ∙ ap (λ b. if b then best else None) is.whole
    ∙ best_one found
    ∙ ap (λ b. option_map link_url (if b then Some (link_with (rank_of found) (link_text found)) else None)) linked
    ∙ ap Some (sym is.means)

whole_sole : (whole one : Bool) (link : Option (List ℕ)) (url : List ℕ) → (if whole && one then link else None) ≡ Some url
    → (whole ≡ true) × ((if one then link else None) ≡ Some url)
whole_sole true one link url is = (refl, is)
whole_sole false one link url is = absurd (cc)

abbrev all_whole : List FoundValue → Bool
all_whole founds = list_all (λ release. release.is_whole) founds

sole_from : (founds : List FoundValue) (url : List ℕ) → sole_link (tally_of founds) ≡ Some url → IsSoleHit founds url
sole_from founds url is =
    let split = whole_sole (all_whole founds) (length (counted founds) == 1) _ url is in
    let own = sole_only (counted founds) url split.1 in
    record {
      found = own.0;
      all = split.0;
      sole = own.1;
      available = own.2.available;
      inside = own.2.inside;
      full = own.2.full;
      whole = own.2.whole;
      link = own.2.link;
      means = own.2.means;
    }

sole_has : (founds : List FoundValue) (url : List ℕ) (is : IsSoleHit founds url) → text_size is.found < text_limit → sole_link (tally_of founds) ≡ Some url
sole_has founds url is small =
    let own : IsSoleOne is.found url = record { available = is.available; inside = is.inside; full = is.full; whole = is.whole; link = is.link; means = is.means } in
    ap (λ b. if b && (length (counted founds) == 1) then link_if_certain (tally_of founds).shown (tally_of founds).best else None) is.all
    ∙ ap sole_of is.sole
    ∙ one_has is.found url own small

pub sole_is : SoleLinkIsOfSoleHit
sole_is founds url = (sole_from founds url, sole_has founds url)
