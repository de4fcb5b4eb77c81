-- A tally that is made release by release is that of the list.
use Rattle.std.proofs.Common.{◌≡◌, ◌-◌, ◌+◌, ℕ, suc, List, [], ◌∷◌, ◌++◌, Bool, true, false, Option, Some, None, refl, sym, ap, ◌∙◌, arith, length, append_assoc}
use Rattle.std.specs.Prelude.{fold, nat_lt, ◌&&◌, ◌||◌, if◌then◌else◌}
use Rattle.std.proofs.lemmas.List.{append-nil, length-append}
use Rattle.std.proofs.lemmas.List.Sums.{fold-append}
use Rattle.std.proofs.lemmas.Bool.Decides.{nat_tests}
use Rattle.std.specs.Prelude.{filter, option_map}
use Rattle.std.specs.List.{flat_map, list_all, list_any}
use Rattle.feed_names.specs.ReleaseName.{Name}
use Rattle.node_hits.specs.Hits.{ReleaseHitValue, LinkValue, is_open, link_of, link_url, better, highest_link}
use Rattle.node_hits.specs.Looks.{FoundValue}
use Rattle.node_hits.specs.Ranks.{ranked}
use Rattle.node_hits.proofs.Tops.{top_is, within_first}
use Rattle.node_hits.specs.Tallies.{TallyValue, counted, partial_name, text_size, first_within, shown_limit, text_limit, tally_of}
use Rattle.node_hits.specs.Tallying.{LinksValue, RunningValue, ShownValue, no_links, with_shown, with_top, with_link, with_links, with_hits, with_end, with_releases, no_hits, tally_from}

abbrev running_of : Bool → List Name → ℕ → ShownValue → List ReleaseHitValue → LinksValue → RunningValue
running_of is_whole partial count shown top links =
    record { is_whole = is_whole; partial = partial; count = count; shown = shown; top = top; links = links }

-- tallies of the same parts
same_parts : (w v : Bool) (p q : List Name) (n m : ℕ) (s t : ShownValue) (a b : List ReleaseHitValue) (k l : LinksValue)
    → w ≡ v → p ≡ q → n ≡ m → s ≡ t → a ≡ b → k ≡ l → running_of w p n s a k ≡ running_of v q m t b l
same_parts w v p q n m s t a b k l first second third fourth fifth sixth =
    ap (λ x. running_of x p n s a k) first ∙ ap (λ x. running_of v x n s a k) second ∙ ap (λ x. running_of v q x s a k) third
    ∙ ap (λ x. running_of v q m x a k) fourth ∙ ap (λ x. running_of v q m t x k) fifth ∙ ap (λ x. running_of v q m t b x) sixth

-- each part is made of the hits of a release
pub with_hits_is : (is_whole : Bool) (partial : List Name) (count : ℕ) (shown : ShownValue) (top : List ReleaseHitValue) (links : LinksValue) (hits : List ReleaseHitValue)
    → with_hits (running_of is_whole partial count shown top links) hits
    ≡ running_of is_whole partial (count + length hits) (fold with_shown shown hits) (fold with_top top hits) (fold with_links links hits)
with_hits_is is_whole partial count shown top links [] =
    let same : count ≡ count + 0 = omega arith in
    ap (λ n. running_of is_whole partial n shown top links) same
with_hits_is is_whole partial count shown top links (found ∷ more) =
    let joint : (count + 1) + length more ≡ count + suc (length more) = omega arith in
    with_hits_is is_whole partial (count + 1) (with_shown shown found) (with_top top found) (with_links links found) more
    ∙ ap (λ n. running_of is_whole partial n (fold with_shown (with_shown shown found) more) (fold with_top (with_top top found) more) (fold with_links (with_links links found) more)) joint

and_assoc : (a b c : Bool) → ((a && b) && c) ≡ (a && (b && c))
and_assoc true b c = refl
and_assoc false b c = refl

and_true : (a : Bool) → a ≡ (a && true)
and_true true = refl
and_true false = refl

-- the same after all releases
with_releases_is : (is_whole : Bool) (partial : List Name) (count : ℕ) (shown : ShownValue) (top : List ReleaseHitValue) (links : LinksValue) (founds : List FoundValue)
    → with_releases (running_of is_whole partial count shown top links) founds
    ≡ running_of (is_whole && list_all (λ found. found.is_whole) founds) (partial ++ flat_map partial_name founds) (count + length (counted founds))
    (fold with_shown shown (counted founds)) (fold with_top top (counted founds)) (fold with_links links (counted founds))
with_releases_is is_whole partial count shown top links [] =
    let same : count ≡ count + 0 = omega arith in
    same_parts _ _ _ _ _ _ _ _ _ _ _ _ (and_true is_whole) (sym (append-nil partial)) same refl refl refl
with_releases_is is_whole partial count shown top links (found ∷ more) =
    let first = length-append found.hits (counted more) in
    let joint : (count + length found.hits) + length (counted more) ≡ count + length (found.hits ++ counted more) = omega (arith, first) in
    ap (λ r. with_releases (with_end r found.name found.is_whole) more) (with_hits_is is_whole partial count shown top links found.hits)
    ∙ with_releases_is (is_whole && found.is_whole) (partial ++ partial_name found) (count + length found.hits)
    (fold with_shown shown found.hits) (fold with_top top found.hits) (fold with_links links found.hits) more
    ∙ same_parts _ _ _ _ _ _ _ _ _ _ _ _ (and_assoc is_whole found.is_whole (list_all (λ other. other.is_whole) more))
    (append_assoc partial (partial_name found) (flat_map partial_name more)) joint
    (sym (fold-append with_shown shown found.hits (counted more))) (sym (fold-append with_top top found.hits (counted more)))
    (sym (fold-append with_links links found.hits (counted more)))

no_room : (bytes : ℕ) (hits : List ReleaseHitValue) → first_within 0 bytes hits ≡ []
no_room bytes [] = refl
no_room bytes (found ∷ more) = refl

-- the hits that are shown are the first ones within the limits
shown_step : (b : Bool) (hits : List ReleaseHitValue) (places bytes : ℕ) (found : ReleaseHitValue) (more : List ReleaseHitValue)
    → ((shown : ShownValue) → (fold with_shown shown more).hits ≡ shown.hits ++ first_within shown.places shown.bytes more)
    → (fold with_shown (if b then record { hits = hits ++ found ∷ []; places = places - 1; bytes = bytes - text_size found } else record { hits = hits; places = 0; bytes = bytes }) more).hits
    ≡ hits ++ (if b then found ∷ first_within (places - 1) (bytes - text_size found) more else [])
shown_step true hits places bytes found more rest =
    rest (record { hits = hits ++ found ∷ []; places = places - 1; bytes = bytes - text_size found })
    ∙ append_assoc hits (found ∷ []) (first_within (places - 1) (bytes - text_size found) more)
shown_step false hits places bytes found more rest =
    rest (record { hits = hits; places = 0; bytes = bytes }) ∙ ap (λ l. hits ++ l) (no_room bytes more)

shown_is : (hits : List ReleaseHitValue) (shown : ShownValue) → (fold with_shown shown hits).hits ≡ shown.hits ++ first_within shown.places shown.bytes hits
shown_is [] shown = sym (append-nil shown.hits)
shown_is (found ∷ more) shown =
    shown_step (nat_lt 0 shown.places && nat_lt 0 (shown.bytes - text_size found)) shown.hits shown.places shown.bytes found more (shown_is more)

-- ---- links

better_nil : (one : Option LinkValue) → better one None ≡ one
better_nil None = refl
better_nil (Some one) = refl

abbrev pick : Bool → LinkValue → LinkValue → Option LinkValue
pick b one other = if b then Some other else Some one

better_assoc : (a b c : Option LinkValue) → better (better a b) c ≡ better a (better b c)
better_assoc None b c = refl
better_assoc (Some a) None c = refl
better_assoc (Some a) (Some b) None = better_nil (better (Some a) (Some b))
better_assoc (Some a) (Some b) (Some c) = go (nat_lt a.rank b.rank) (nat_lt b.rank c.rank) (nat_lt a.rank c.rank) refl refl refl
  where
    go : (p q r : Bool) → nat_lt a.rank b.rank ≡ p → nat_lt b.rank c.rank ≡ q → nat_lt a.rank c.rank ≡ r → better (pick p a b) (Some c) ≡ better (Some a) (pick q b c)
    go true true r first second third = let also : nat_lt a.rank c.rank ≡ true = grind (arith, nat_tests) in rw (second, also) refl
    go true false r first second third = rw (second, first) refl
    go false true r first second third = refl
    go false false r first second third = let also : nat_lt a.rank c.rank ≡ false = grind (arith, nat_tests) in rw (also, first) refl

all_is : (hits : List ReleaseHitValue) (links : LinksValue) → (fold with_links links hits).all ≡ better links.all (highest_link hits)
all_is [] links = sym (better_nil links.all)
all_is (found ∷ more) links = all_is more (with_links links found) ∙ better_assoc links.all (link_of found) (highest_link more)

-- a hit adds its link to those of open hits if it is one
open_case : (b : Bool) (found : ReleaseHitValue) (link : Option LinkValue) (rest : List ReleaseHitValue)
    → better (if b then with_link link found else link) (highest_link rest) ≡ better link (highest_link (if b then found ∷ rest else rest))
open_case true found link rest = better_assoc link (link_of found) (highest_link rest)
open_case false found link rest = refl

open_is : (hits : List ReleaseHitValue) (links : LinksValue) → (fold with_links links hits).open_ones ≡ better links.open_ones (highest_link (filter is_open hits))
open_is [] links = sym (better_nil links.open_ones)
open_is (found ∷ more) links =
    open_is more (with_links links found) ∙ open_case (is_open found) found links.open_ones (filter is_open more)

or_assoc : (a b c : Bool) → ((a || b) || c) ≡ (a || (b || c))
or_assoc true b c = refl
or_assoc false b c = refl

or_none : (a : Bool) → a ≡ (a || false)
or_none true = refl
or_none false = refl

has_is : (hits : List ReleaseHitValue) (links : LinksValue) → (fold with_links links hits).has_open ≡ (links.has_open || list_any is_open hits)
has_is [] links = or_none links.has_open
has_is (found ∷ more) links = has_is more (with_links links found) ∙ or_assoc links.has_open (is_open found) (list_any is_open more)

-- ---- the tally

abbrev tally_with : ℕ → Bool → List Name → List ReleaseHitValue → List ReleaseHitValue → Option (List ℕ) → Option (List ℕ) → Bool → TallyValue
tally_with count is_whole partial shown top best best_open has_open =
    record { count = count; is_whole = is_whole; partial = partial; shown = shown; top = top; best = best; best_open = best_open; has_open = has_open }

-- made of its parts
parts : (count one : ℕ) (is_whole : Bool) (partial : List Name) (shown other top high : List ReleaseHitValue) (best link best_open open_link : Option (List ℕ)) (has_open is_one : Bool)
    → count ≡ one → shown ≡ other → top ≡ high → best ≡ link → best_open ≡ open_link → has_open ≡ is_one
    → tally_with count is_whole partial shown top best best_open has_open ≡ tally_with one is_whole partial other high link open_link is_one
parts count one is_whole partial shown other top high best link best_open open_link has_open is_one first second third fourth fifth sixth =
    ap (λ n. tally_with n is_whole partial shown top best best_open has_open) first ∙ ap (λ l. tally_with one is_whole partial l top best best_open has_open) second
    ∙ ap (λ l. tally_with one is_whole partial other l best best_open has_open) third ∙ ap (λ u. tally_with one is_whole partial other high u best_open has_open) fourth
    ∙ ap (λ u. tally_with one is_whole partial other high link u has_open) fifth ∙ ap (λ b. tally_with one is_whole partial other high link open_link b) sixth

highest_shown : (hits : List ReleaseHitValue) → first_within shown_limit text_limit (fold with_top [] hits) ≡ first_within shown_limit text_limit (ranked hits)
highest_shown hits = ap (first_within shown_limit text_limit) (top_is hits) ∙ within_first shown_limit text_limit (ranked hits)

pub tally_is : (founds : List FoundValue) → tally_from (with_releases no_hits founds) ≡ tally_of founds
tally_is founds =
    let count : 0 + length (counted founds) ≡ length (counted founds) = omega arith in
    ap tally_from (with_releases_is true [] 0 no_hits.shown no_hits.top no_hits.links founds)
    ∙ parts _ _ (list_all (λ found. found.is_whole) founds) (flat_map partial_name founds) _ _ _ _ _ _ _ _ _ _ count (shown_is (counted founds) no_hits.shown)
    (highest_shown (counted founds)) (ap (option_map link_url) (all_is (counted founds) no_links)) (ap (option_map link_url) (open_is (counted founds) no_links))
    (has_is (counted founds) no_links)
