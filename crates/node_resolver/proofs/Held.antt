-- The hits of a response are those of the core that the library has.
use Rattle.std.proofs.Common.{◌≡◌, ℕ, zero, suc, List, [], ◌∷◌, ◌++◌, Bool, true, false, Option, Some, None, refl, sym, ap, ◌∙◌, subst, inl, inr, arith, map}
use Rattle.std.specs.Prelude.{◌⊎◌, cond, filter, if◌then◌else◌, slice_get}
use Rattle.std.specs.List.{Contains, flat_map}
use Rattle.std.proofs.lemmas.List.Elements.{Contains-append_left, Contains-append_right, Contains-append_cases, Contains-get_or}
use Rattle.std.proofs.lemmas.Bool.{false≢true}
use Rattle.std.proofs.lemmas.Option.{get_or_from_slice_get, slice_get_within}
use Rattle.feed_answer.specs.Answers.{answer_of}
use Rattle.feed_releases.specs.Actives.{ActiveValue}
use Rattle.node_hits.specs.Searches.{SearchValue, compared}
use Rattle.node_hits.specs.Hits.{ReleaseHitValue, best_link, held_hits, is_found, is_open, link_text, release_hit}
use Rattle.node_hits.specs.Looks.{FoundValue}
use Rattle.node_hits.specs.Ranks.{IsBestLink}
use Rattle.node_hits.specs.Tallies.{partial_name}
use Rattle.node_hits.proofs.BestLinks.{best_is}
use Rattle.node_hits.proofs.HitsFound.{hit_answers, hits_are_found}
use Rattle.node_hits.proofs.LooksPlaced.{of_answer}
use Rattle.node_hits.proofs.ShareBounds.{each_has_share}
use Rattle.node_resolver.specs.Answers.{Sited, found_among, hits_among, release_in, row_counts, shares_in}
use Rattle.node_resolver.specs.Laws.{EachReleaseIsLookedAt, HitsAreHeld, IsHeldHit, LinksAreHeld}

-- ---- elements of lists

first_is : {X : Type 0} → (x : X) (xs : List X) → Contains (x ∷ xs) x
first_is {X} x xs = (zero, omega arith, refl)

later_is : {X : Type 0} → (x : X) (xs : List X) (z : X) → Contains xs z → Contains (x ∷ xs) z
later_is {X} x xs z has = Contains-append_right (x ∷ []) xs z has

none_is : {X : Type 0} → (z : X) → ¬ (Contains [] z)
none_is {X} z has = let less = has.1 in omega (arith, less)

first_or_later : {X : Type 0} → (x : X) (xs : List X) (z : X) → Contains (x ∷ xs) z → (x ≡ z) ⊎ Contains xs z
first_or_later {X} x xs z (zero, less, at) = inl at
first_or_later {X} x xs z (suc k, less, at) = inr (k, omega (arith, less), at)

map_has : {X Y : Type 0} → (f : X → Y) (xs : List X) (y : Y) → Contains (map f xs) y → (x : X) × Contains xs x × (y ≡ f x)
map_has {X} {Y} f [] y has = absurd (none_is y has)
map_has {X} {Y} f (x ∷ xs) y has = by (map_has f xs y) (first_or_later (f x) (map f xs) y has)
  where
    by : (Contains (map f xs) y → (w : X) × Contains xs w × (y ≡ f w)) → (f x ≡ y) ⊎ Contains (map f xs) y → (w : X) × Contains (x ∷ xs) w × (y ≡ f w)
    by behind (inl same) = (x, first_is x xs, sym same)
    by behind (inr later) = let rest = behind later in (rest.0, later_is x xs rest.0 rest.1, rest.2)

map_gives : {X Y : Type 0} → (f : X → Y) (xs : List X) (x : X) → Contains xs x → Contains (map f xs) (f x)
map_gives {X} {Y} f [] x has = absurd (none_is x has)
map_gives {X} {Y} f (w ∷ xs) x has = by (map_gives f xs x) (first_or_later w xs x has)
  where
    by : (Contains xs x → Contains (map f xs) (f x)) → (w ≡ x) ⊎ Contains xs x → Contains (f w ∷ map f xs) (f x)
    by behind (inl same) = subst (λ (y : Y). Contains (f w ∷ map f xs) y) (ap f same) (first_is (f w) (map f xs))
    by behind (inr later) = later_is (f w) (map f xs) (f x) (behind later)

filter_has : {X : Type 0} → (p : X → Bool) (xs : List X) (x : X) → Contains (filter p xs) x → Contains xs x × (p x ≡ true)
filter_has {X} p [] x has = absurd (none_is x has)
filter_has {X} p (w ∷ xs) x has = by (p w) (filter_has p xs x) refl has
  where
    front : (Contains (filter p xs) x → Contains xs x × (p x ≡ true)) → p w ≡ true → (w ≡ x) ⊎ Contains (filter p xs) x → Contains (w ∷ xs) x × (p x ≡ true)
    front behind is (inl same) = (subst (λ (y : X). Contains (w ∷ xs) y) same (first_is w xs), ap p (sym same) ∙ is)
    front behind is (inr later) = let rest = behind later in (later_is w xs x rest.0, rest.1)

    by : (b : Bool) → (Contains (filter p xs) x → Contains xs x × (p x ≡ true)) → p w ≡ b
        → Contains (cond b (w ∷ filter p xs) (filter p xs)) x → Contains (w ∷ xs) x × (p x ≡ true)
    by true behind is has = front behind is (first_or_later w (filter p xs) x has)
    by false behind is has = let rest = behind has in (later_is w xs x rest.0, rest.1)

filter_gives : {X : Type 0} → (p : X → Bool) (xs : List X) (x : X) → Contains xs x → p x ≡ true → Contains (filter p xs) x
filter_gives {X} p [] x has passes = absurd (none_is x has)
filter_gives {X} p (w ∷ xs) x has passes = by (p w) (λ later. filter_gives p xs x later passes) refl (first_or_later w xs x has)
  where
    by : (b : Bool) → (Contains xs x → Contains (filter p xs) x) → p w ≡ b → (w ≡ x) ⊎ Contains xs x → Contains (cond b (w ∷ filter p xs) (filter p xs)) x
    by true behind is (inl same) = subst (λ (y : X). Contains (w ∷ filter p xs) y) same (first_is w (filter p xs))
    by true behind is (inr later) = later_is w (filter p xs) x (behind later)
    by false behind is (inl same) = absurd (false≢true (sym is ∙ ap p same ∙ passes))
    by false behind is (inr later) = behind later

flat_has : {X Y : Type 0} → (f : X → List Y) (xs : List X) (y : Y) → Contains (flat_map f xs) y → (x : X) × Contains xs x × Contains (f x) y
flat_has {X} {Y} f [] y has = absurd (none_is y has)
flat_has {X} {Y} f (x ∷ xs) y has = by (flat_has f xs y) (Contains-append_cases (f x) (flat_map f xs) y has)
  where
    by : (Contains (flat_map f xs) y → (w : X) × Contains xs w × Contains (f w) y) → Contains (f x) y ⊎ Contains (flat_map f xs) y
        → (w : X) × Contains (x ∷ xs) w × Contains (f w) y
    by behind (inl own) = (x, first_is x xs, own)
    by behind (inr later) = let rest = behind later in (rest.0, later_is x xs rest.0 rest.1, rest.2)

flat_gives : {X Y : Type 0} → (f : X → List Y) (xs : List X) (x : X) (y : Y) → Contains xs x → Contains (f x) y → Contains (flat_map f xs) y
flat_gives {X} {Y} f [] x y has own = absurd (none_is x has)
flat_gives {X} {Y} f (w ∷ xs) x y has own = by (λ later. flat_gives f xs x y later own) (first_or_later w xs x has)
  where
    by : (Contains xs x → Contains (flat_map f xs) y) → (w ≡ x) ⊎ Contains xs x → Contains (f w ++ flat_map f xs) y
    by behind (inl same) = Contains-append_left (f w) (flat_map f xs) y (subst (λ (v : X). Contains (f v) y) (sym same) own)
    by behind (inr later) = Contains-append_right (f w) (flat_map f xs) y (behind later)

-- ---- hits

-- what is found in a release
abbrev own_of : SearchValue → Sited → ActiveValue → FoundValue
own_of search actives active = release_in (shares_in search actives) actives.library actives.today search active

held_from : (search : SearchValue) (actives : Sited) (found : ReleaseHitValue) → Contains (hits_among search actives) found → IsHeldHit search actives found
held_from search actives found has =
    let from = flat_has (λ (release : FoundValue). release.hits) (found_among search actives) found has in
    let of = map_has (own_of search actives) actives.actives from.0 from.1 in
    let name = of.0.name in
    let answer = answer_of of.0.holdings (compared search) in
    let own = hit_answers actives.library actives.today search name (shares_in search actives) of.0.holdings found
    (subst (λ (release : FoundValue). Contains release.hits found) of.2 from.2) in
    let hit = map_has (release_hit actives.library actives.today search name) (held_hits actives.library search name answer) found own in
    let kept = filter_has (is_found actives.library search name) answer hit.0 hit.1 in
    record { active = of.0; hit = hit.0; is_active = of.1; answers = kept.0; held = kept.1; shown = hit.2 }

held_gives : (search : SearchValue) (actives : Sited) (found : ReleaseHitValue) (is : IsHeldHit search actives found)
    → (own_of search actives is.active).is_whole ≡ true → Contains (hits_among search actives) found
held_gives search actives found is whole =
    let name = is.active.name in
    let answer = answer_of is.active.holdings (compared search) in
    let kept = filter_gives (is_found actives.library search name) answer is.hit is.answers is.held in
    let own = map_gives (release_hit actives.library actives.today search name) (held_hits actives.library search name answer) is.hit kept in
    let counted_is = subst (λ (hits : List ReleaseHitValue). Contains hits (release_hit actives.library actives.today search name is.hit))
    (sym (of_answer actives.library actives.today search name (shares_in search actives) is.active.holdings whole)) own in
    subst (λ (f : ReleaseHitValue). Contains (hits_among search actives) f) (sym is.shown)
    (flat_gives (λ (release : FoundValue). release.hits) (found_among search actives) (own_of search actives is.active)
    (release_hit actives.library actives.today search name is.hit)
    (map_gives (own_of search actives) actives.actives is.active is.is_active) counted_is)

pub hits_are : HitsAreHeld
hits_are search actives found = (held_from search actives found, held_gives search actives found)

-- ---- each release

named_partial : (release : FoundValue) → release.is_whole ≡ false → Contains (partial_name release) release.name
named_partial release is =
    subst (λ (b : Bool). Contains (if b then [] else release.name ∷ []) release.name) (sym is) (first_is release.name [])

pub each_is_looked_at : EachReleaseIsLookedAt
each_is_looked_at search actives active there =
    let shares = shares_in search actives in
    let own = own_of search actives active in
    let has = map_gives (own_of search actives) actives.actives active there in
    record {
      shares = each_has_share (row_counts actives.library search.query actives.actives);
      found = has;
      counted = λ hit looked. elim (hits_are_found shares actives.library actives.today search active.name active.holdings.rows hit looked) [
        | inl counted ↦ inl (flat_gives (λ (release : FoundValue). release.hits) (found_among search actives) own hit has counted)
        | inr skipped ↦ inr (skipped.0, flat_gives partial_name (found_among search actives) own active.name has (named_partial own skipped.1))
      ];
    }

-- ---- links

place_has : {X : Type 0} → (xs : List X) (place : ℕ) (x : X) → slice_get xs place ≡ Some x → Contains xs x
place_has {X} xs place x at =
    subst (λ (y : X). Contains xs y) (get_or_from_slice_get xs place x x at) (Contains-get_or xs place x (slice_get_within xs place x at))

link_from : (search : SearchValue) (actives : Sited) (url : List ℕ) (hits : List ReleaseHitValue) (best : Option (List ℕ))
    → ((found : ReleaseHitValue) → Contains hits found → Contains (hits_among search actives) found) → best ≡ Some url → IsBestLink hits best
    → (found : ReleaseHitValue) × IsHeldHit search actives found × (url ≡ link_text found)
link_from search actives url hits None within at is = absurd (cc)
link_from search actives url hits (Some text) within at is =
    let same : text ≡ url = cc in
    (is.1, held_from search actives is.1 (within is.1 (place_has hits is.0 is.1 is.2.at)), sym same ∙ is.3)

pub links_are : LinksAreHeld
links_are search actives url (inl at) =
    let hits = hits_among search actives in
    link_from search actives url hits (best_link hits) (λ found has. has) at (best_is hits)
links_are search actives url (inr at) =
    let hits = hits_among search actives in
    link_from search actives url (filter is_open hits) (best_link (filter is_open hits)) (λ found has. (filter_has is_open hits found has).0) at (best_is (filter is_open hits))
