-- The best link is that of the hit with the highest rank.
use Rattle.std.proofs.Common.{◌≡◌, ◌<◌, ◌≤◌, ℕ, zero, suc, List, [], ◌∷◌, Bool, true, false, Option, Some, None, refl, sym, ap, ◌∙◌, inl, inr, arith}
use Rattle.std.specs.Prelude.{if◌then◌else◌, nat_lt, option_map}
use Rattle.std.proofs.lemmas.Bool.{cases_Bool, false≢true}
use Rattle.std.proofs.lemmas.Bool.Decides.{nat_tests}
use Rattle.node_site.specs.Hosts.{is_link}
use Rattle.node_hits.specs.Hits.{ReleaseHitValue, LinkValue, link_with, link_text, link_url, better, highest_link, best_link, rank_of}
use Rattle.node_hits.specs.Ranks.{IsLinkAt, RanksAbove, IsBestLink}

-- the link is that of a hit above which none ranks, or no hit may be linked to
abbrev IsHighest : List ReleaseHitValue → Option LinkValue → Type 0
IsHighest hits None = (place : ℕ) (found : ReleaseHitValue) → ¬ (IsLinkAt hits place found)
IsHighest hits (Some link) =
    (place : ℕ) × (best : ReleaseHitValue) × IsLinkAt hits place best × (link.url ≡ link_text best) × (link.rank ≡ rank_of best)
    × ((other_place : ℕ) (other : ReleaseHitValue) → IsLinkAt hits other_place other → ¬ (RanksAbove other_place other place best))

some_same : {A : Type 0} → (a b : A) → Some a ≡ Some b → a ≡ b
some_same {A} a b e = cc

-- what is known of the hit at the front of a list
front_link : (found other : ReleaseHitValue) → Some found ≡ Some other → is_link (link_text other) ≡ true → is_link (link_text found) ≡ true
front_link found other at link = ap (λ (f : ReleaseHitValue). is_link (link_text f)) (some_same found other at) ∙ link

-- a hit in front that may not be linked to changes nothing
behind : (found : ReleaseHitValue) (more : List ReleaseHitValue) (link : Option LinkValue) → is_link (link_text found) ≡ false → IsHighest more link → IsHighest (found ∷ more) link
behind found more None none rest = others
  where
    others : (place : ℕ) (other : ReleaseHitValue) → ¬ (IsLinkAt (found ∷ more) place other)
    others zero other is = false≢true (sym none ∙ front_link found other is.at is.link)
    others (suc place) other is = rest place other (record { at = is.at; link = is.link })
behind found more (Some link) none rest = (suc rest.0, rest.1, record { at = rest.2.at; link = rest.2.link }, rest.3, rest.4, highest)
  where
    highest : (place : ℕ) (other : ReleaseHitValue) → IsLinkAt (found ∷ more) place other → ¬ (RanksAbove place other (suc rest.0) rest.1)
    highest zero other is above = false≢true (sym none ∙ front_link found other is.at is.link)
    highest (suc place) other is (inl higher) = rest.5 place other (record { at = is.at; link = is.link }) (inl higher)
    highest (suc place) other is (inr (same, earlier)) = rest.5 place other (record { at = is.at; link = is.link }) (inr (same, omega arith))

-- one that may be linked to is chosen if none behind it has a higher rank
in_front : (found : ReleaseHitValue) (more : List ReleaseHitValue) → is_link (link_text found) ≡ true
    → ((place : ℕ) (other : ReleaseHitValue) → IsLinkAt more place other → rank_of other ≤ rank_of found)
    → IsHighest (found ∷ more) (Some (link_with (rank_of found) (link_text found)))
in_front found more is_linked lower = (zero, found, record { at = refl; link = is_linked }, refl, refl, highest)
  where
    highest : (place : ℕ) (other : ReleaseHitValue) → IsLinkAt (found ∷ more) place other → ¬ (RanksAbove place other zero found)
    highest zero other is (inl higher) = let same : rank_of found ≡ rank_of other = ap rank_of (some_same found other is.at) in omega (arith, higher, same)
    highest (suc place) other is (inl higher) = let low = lower place other (record { at = is.at; link = is.link }) in omega (arith, higher, low)
    highest place other is (inr (same, earlier)) = omega (arith, earlier)

-- otherwise that behind it is
past : (found : ReleaseHitValue) (more : List ReleaseHitValue) (link : LinkValue) → rank_of found < link.rank → IsHighest more (Some link) → IsHighest (found ∷ more) (Some link)
past found more link lower rest = (suc rest.0, rest.1, record { at = rest.2.at; link = rest.2.link }, rest.3, rest.4, highest)
  where
    highest : (place : ℕ) (other : ReleaseHitValue) → IsLinkAt (found ∷ more) place other → ¬ (RanksAbove place other (suc rest.0) rest.1)
    highest zero other is (inl higher) =
        let same : rank_of found ≡ rank_of other = ap rank_of (some_same found other is.at) in
        let known = rest.4 in omega (arith, lower, higher, same, known)
    highest zero other is (inr (equal, earlier)) =
        let same : rank_of found ≡ rank_of other = ap rank_of (some_same found other is.at) in
        let known = rest.4 in omega (arith, lower, equal, same, known)
    highest (suc place) other is (inl higher) = rest.5 place other (record { at = is.at; link = is.link }) (inl higher)
    highest (suc place) other is (inr (same, earlier)) = rest.5 place other (record { at = is.at; link = is.link }) (inr (same, omega arith))

-- no hit has a higher rank than the highest
bounded : (hits : List ReleaseHitValue) (link : LinkValue) → IsHighest hits (Some link)
    → (place : ℕ) (other : ReleaseHitValue) → IsLinkAt hits place other → rank_of other ≤ link.rank
bounded hits link is place other at = elim (cases_Bool (nat_lt link.rank (rank_of other))) [
  | inl higher ↦ let known = is.4 in absurd (is.5 place other at (inl (grind (arith, nat_tests))))
  | inr lower ↦ grind (arith, nat_tests)
]

linked : (found : ReleaseHitValue) (more : List ReleaseHitValue) (link : Option LinkValue) → is_link (link_text found) ≡ true → IsHighest more link
    → IsHighest (found ∷ more) (better (Some (link_with (rank_of found) (link_text found))) link)
linked found more None is_linked rest = in_front found more is_linked (λ place other is. absurd (rest place other is))
linked found more (Some link) is_linked rest = go (nat_lt (rank_of found) link.rank) refl
  where
    go : (b : Bool) → nat_lt (rank_of found) link.rank ≡ b → IsHighest (found ∷ more) (if b then Some link else Some (link_with (rank_of found) (link_text found)))
    go true test = past found more link (grind (arith, nat_tests)) rest
    go false test = in_front found more is_linked
        (λ place other is. let low = bounded more link rest place other is in let high : link.rank ≤ rank_of found = grind (arith, nat_tests) in omega arith)

highest_is : (hits : List ReleaseHitValue) → IsHighest hits (highest_link hits)
highest_is [] = λ place found is. cc (is.at)
highest_is (found ∷ more) = go (is_link (link_text found)) refl (highest_is more)
  where
    go : (b : Bool) → is_link (link_text found) ≡ b → IsHighest more (highest_link more)
        → IsHighest (found ∷ more) (better (if b then Some (link_with (rank_of found) (link_text found)) else None) (highest_link more))
    go true is rest = linked found more (highest_link more) is rest
    go false is rest = behind found more (highest_link more) is rest

told : (hits : List ReleaseHitValue) (link : Option LinkValue) → IsHighest hits link → IsBestLink hits (option_map link_url link)
told hits None is = is
told hits (Some link) is = (is.0, is.1, is.2, is.3, is.5)

pub best_is : (hits : List ReleaseHitValue) → IsBestLink hits (best_link hits)
best_is hits = told hits (highest_link hits) (highest_is hits)
