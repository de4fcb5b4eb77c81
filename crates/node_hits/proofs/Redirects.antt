-- Where a reader is sent on.
use Rattle.std.proofs.Common.{◌≡◌, ℕ, List, [], ◌∷◌, Bool, true, false, Option, Some, None, subst, refl}
use Rattle.std.specs.Prelude.{if◌then◌else◌, nat_lt, option_map}
use Rattle.node_site.specs.Hosts.{is_link}
use Rattle.node_hits.specs.Hits.{ReleaseHitValue, LinkValue, link_with, link_text, link_url, link_of, better, highest_link, best_link, rank_of}

abbrev IsLinkIfSome : Option LinkValue → Type 0
IsLinkIfSome None = Unit {0}
IsLinkIfSome (Some link) = is_link link.url ≡ true

better_is : (one other : Option LinkValue) → IsLinkIfSome one → IsLinkIfSome other → IsLinkIfSome (better one other)
better_is None other p q = q
better_is (Some one) None p q = p
better_is (Some one) (Some other) p q = go (nat_lt one.rank other.rank)
  where
    go : (b : Bool) → IsLinkIfSome (if b then Some other else Some one)
    go true = q
    go false = p

link_is : (found : ReleaseHitValue) → IsLinkIfSome (link_of found)
link_is found = go (is_link (link_text found)) refl
  where
    go : (b : Bool) → is_link (link_text found) ≡ b → IsLinkIfSome (if b then Some (link_with (rank_of found) (link_text found)) else None)
    go true is = is
    go false is = tt

highest_is : (hits : List ReleaseHitValue) → IsLinkIfSome (highest_link hits)
highest_is [] = tt
highest_is (found ∷ more) = better_is (link_of found) (highest_link more) (link_is found) (highest_is more)

url_is : (link : Option LinkValue) (url : List ℕ) → IsLinkIfSome link → option_map link_url link ≡ Some url → is_link url ≡ true
url_is None url is at = absurd (cc)
url_is (Some link) url is at = let same : link.url ≡ url = cc in subst (λ (u : List ℕ). is_link u ≡ true) same is

pub best_is : (hits : List ReleaseHitValue) (url : List ℕ) → best_link hits ≡ Some url → is_link url ≡ true
best_is hits url is = url_is (highest_link hits) url (highest_is hits) is
