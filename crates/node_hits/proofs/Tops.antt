-- The hits of the highest ranks, made hit by hit, are the first ones in the order of ranks.
use Rattle.std.proofs.Common.{◌≡◌, ◌<◌, ◌≤◌, ◌-◌, ◌+◌, ◌*◌, ◌⊎◌, ℕ, zero, suc, List, [], ◌∷◌, ◌++◌, Bool, true, false}
use Rattle.std.proofs.Common.{refl, sym, ap, ◌∙◌, subst, inl, inr, arith, drop, get_or, length, take, append_assoc}
use Rattle.std.specs.Prelude.{◌==◌, ◌&&◌, ◌↔◌, fold, if◌then◌else◌, insert, nat_le, nat_lt, reverse}
use Rattle.std.specs.List.{AllWithin}
use Rattle.std.specs.List.Sorted.{IsPartitionPoint, IsPartitionedBy}
use Rattle.std.proofs.Math.Seq.{take-append_seam}
use Rattle.std.proofs.lemmas.List.{append-nil, length-take, reverse-append, take-append-drop}
use Rattle.std.proofs.lemmas.List.Sorted.{IsNonDecreasingBy-insert, IsNonDecreasingBy-take}
use Rattle.std.proofs.lemmas.List.Edits.{insert-append_right}
use Rattle.std.proofs.lemmas.List.Elements.{filter-append}
use Rattle.std.proofs.lemmas.Bool.{cases_lt, eqb-true, ne_eqb}
use Rattle.std.proofs.lemmas.Bool.Decides.{nat_tests}
use borrow.Author.Tests.{eq-eqb, lt-ltb}
use Rattle.feed_answer.specs.declared.grade.Grade.{Grade}
use Rattle.feed_answer.specs.declared.grade.Grade.TheVariants.{Inside, Overlap, Untested}
use Rattle.feed_answer.specs.declared.availability.Availability.{Availability}
use Rattle.feed_answer.specs.declared.availability.Availability.TheVariants.{Available, Partly, NotCompared, Embargoed}
use Rattle.feed_kbart.specs.RowValue.{RowValue}
use Rattle.node_hits.specs.Hits.{ReleaseHitValue, availability_rank, first_rank, grade_rank, place_rank, text_rank, rank_of}
use Rattle.node_hits.specs.Ranks.{IsBetter, IsPreferred, in_rank, below_rank, ranked, rank_limit}
use Rattle.node_hits.specs.Laws.{RanksInOrder}
use Rattle.node_hits.specs.Tallies.{first_within, shown_limit, text_size}
use Rattle.node_hits.specs.Tallying.{IsPlaceOf, IsRanked, skip_below, kept_above, with_top}

-- ---- ranks are small

availability_small : (availability : Availability) → availability_rank availability ≤ 3
availability_small Available = omega arith
availability_small Partly = omega arith
availability_small NotCompared = omega arith
availability_small Embargoed = omega arith

grade_small : (grade : Grade) → grade_rank grade ≤ 2
grade_small Inside = omega arith
grade_small Overlap = omega arith
grade_small Untested = omega arith

two_or_less : (a b : Bool) → (if a then (if b then 2 else 1) else 0) ≤ 2
two_or_less true true = omega arith
two_or_less true false = omega arith
two_or_less false b = omega arith

text_small : (row : RowValue) → text_rank row ≤ 2
text_small row = two_or_less _ _

pub place_small : (place : ℕ) → place_rank place ≤ 65535
place_small place = omega arith

one_or_less : (b : Bool) → first_rank b ≤ 1
one_or_less true = omega arith
one_or_less false = omega arith

pub rank_small : (found : ReleaseHitValue) → rank_of found < rank_limit
rank_small found =
    let zeroth = one_or_less found.is_first in
    let one = availability_small found.availability in
    let two = grade_small found.hit.grade in
    let three = text_small found.hit.row in
    let four = place_small found.place in
    omega (arith, zeroth, one, two, three, four)

-- ---- hits above and below a rank

abbrev AllAbove : ℕ → List ReleaseHitValue → Type 0
AllAbove rank [] = Unit {0}
AllAbove rank (found ∷ more) = (rank ≤ rank_of found) × AllAbove rank more

abbrev AllBelow : ℕ → List ReleaseHitValue → Type 0
AllBelow rank [] = Unit {0}
AllBelow rank (found ∷ more) = (rank_of found < rank) × AllBelow rank more

above_both : (rank : ℕ) (one other : List ReleaseHitValue) → AllAbove rank one → AllAbove rank other → AllAbove rank (one ++ other)
above_both rank [] other g h = h
above_both rank (found ∷ more) other g h = (g.0, above_both rank more other g.1 h)

below_both : (rank : ℕ) (one other : List ReleaseHitValue) → AllBelow rank one → AllBelow rank other → AllBelow rank (one ++ other)
below_both rank [] other g h = h
below_both rank (found ∷ more) other g h = (g.0, below_both rank more other g.1 h)

above_front : (rank n : ℕ) (hits : List ReleaseHitValue) → AllAbove rank hits → AllAbove rank (take n hits)
above_front rank zero hits h = tt
above_front rank (suc n) [] h = tt
above_front rank (suc n) (found ∷ more) h = (h.0, above_front rank n more h.1)

below_front : (rank n : ℕ) (hits : List ReleaseHitValue) → AllBelow rank hits → AllBelow rank (take n hits)
below_front rank zero hits h = tt
below_front rank (suc n) [] h = tt
below_front rank (suc n) (found ∷ more) h = (h.0, below_front rank n more h.1)

above_back : (rank : ℕ) (hits : List ReleaseHitValue) → AllAbove rank hits → AllAbove rank (reverse hits)
above_back rank [] h = tt
above_back rank (found ∷ more) h =
    subst (AllAbove rank) (sym (reverse-append (found ∷ []) more)) (above_both rank (reverse more) (found ∷ []) (above_back rank more h.1) (h.0, tt))

below_back : (rank : ℕ) (hits : List ReleaseHitValue) → AllBelow rank hits → AllBelow rank (reverse hits)
below_back rank [] h = tt
below_back rank (found ∷ more) h =
    subst (AllBelow rank) (sym (reverse-append (found ∷ []) more)) (below_both rank (reverse more) (found ∷ []) (below_back rank more h.1) (h.0, tt))

skipped : (rank : ℕ) (low rest : List ReleaseHitValue) → AllBelow rank low → skip_below rank (low ++ rest) ≡ skip_below rank rest
skipped rank [] rest h = refl
skipped rank (found ∷ more) rest h = rw (lt-ltb (rank_of found) rank h.0) (skipped rank more rest h.1)

not_skipped : (rank : ℕ) (high : List ReleaseHitValue) → AllAbove rank high → skip_below rank high ≡ high
not_skipped rank [] h = refl
not_skipped rank (found ∷ more) h = let test : nat_lt (rank_of found) rank ≡ false = (let le = h.0 in grind (arith, nat_tests)) in rw test refl

reverse_twice : (hits : List ReleaseHitValue) → reverse (reverse hits) ≡ hits
reverse_twice [] = refl
reverse_twice (found ∷ more) =
    ap reverse (reverse-append (found ∷ []) more) ∙ reverse-append (reverse more) (found ∷ []) ∙ ap (λ l. found ∷ l) (reverse_twice more)

-- the hits that do not rank below are kept
kept : (rank : ℕ) (high low : List ReleaseHitValue) → AllAbove rank high → AllBelow rank low → kept_above rank (high ++ low) ≡ high
kept rank high low g h =
    ap (λ l. reverse (skip_below rank l)) (reverse-append high low)
    ∙ ap reverse (skipped rank (reverse low) (reverse high) (below_back rank low h))
    ∙ ap reverse (not_skipped rank (reverse high) (above_back rank high g))
    ∙ reverse_twice high

-- ---- the place of a hit among ranked ones

above_first : (rank place : ℕ) (hits : List ReleaseHitValue) → AllWithin (λ f. rank ≤ rank_of f) hits 0 place → place ≤ length hits → AllAbove rank (take place hits)
above_first rank zero hits all le = tt
above_first rank (suc place) [] all le = absurd (omega (arith, le))
above_first rank (suc place) (found ∷ more) all le = (
  all 0 found (omega arith) (omega arith),
  above_first rank place more (λ k d low high. all (suc k) d (omega arith) (omega (arith, high))) (omega (arith, le)),
)

below_rest : (rank place : ℕ) (hits : List ReleaseHitValue) → AllWithin (λ f. rank_of f < rank) hits place (length hits) → AllBelow rank (drop place hits)
below_rest rank zero [] all = tt
below_rest rank (suc place) [] all = tt
below_rest rank zero (found ∷ more) all =
    (all 0 found (omega arith) (omega arith), below_rest rank zero more (λ k d low high. all (suc k) d (omega arith) (omega (arith, high))))
below_rest rank (suc place) (found ∷ more) all = below_rest rank place more (λ k d low high. all (suc k) d (omega (arith, low)) (omega (arith, high)))

pub place_is : (rank : ℕ) (hits : List ReleaseHitValue) (place : ℕ) → place ≤ length hits → IsPlaceOf rank hits place → place ≡ length (kept_above rank hits)
place_is rank hits place le split =
    let front = take place hits in
    let back = drop place hits in
    let size : length front ≡ place = omega (arith, length-take place hits, le) in
    sym (ap (λ l. length (kept_above rank l)) (sym (take-append-drop place hits))
    ∙ ap length (kept rank front back (above_first rank place hits split.0 le) (below_rest rank place hits split.1)) ∙ size)

pub is_partitioned : (rank : ℕ) (hits : List ReleaseHitValue) → IsRanked hits → IsPartitionedBy (λ f. nat_le rank (rank_of f)) hits
is_partitioned rank hits up i j d before within passes =
    let order = up i j d (omega (arith, before)) within in
    let first = rank_small (get_or hits i d) in
    let second = rank_small (get_or hits j d) in
    grind (arith, nat_tests, order, first, second, passes)

pub is_place : (rank : ℕ) (hits : List ReleaseHitValue) (place : ℕ)
    → IsPartitionPoint (λ f. nat_le rank (rank_of f) ≡ true) (λ f. nat_le rank (rank_of f) ≡ false) hits place → IsPlaceOf rank hits place
is_place rank hits place split = (
  (λ k d low high. (let test = split.0 k d low high in grind (arith, nat_tests, test))),
  (λ k d low high. (let test = split.1 k d low high in grind (arith, nat_tests, test))),
)

pub stays_ranked : (found : ReleaseHitValue) (hits : List ReleaseHitValue) (place : ℕ) → place ≤ length hits → IsPlaceOf (rank_of found) hits place → IsRanked hits
    → IsRanked (insert hits place found)
stays_ranked found hits place le split up =
    IsNonDecreasingBy-insert (λ f. rank_limit - rank_of f) hits place found up le
    (λ k d lt. (let above = split.0 k d (omega arith) lt in omega (arith, above)))
    (λ k d ge lt. (let below = split.1 k d ge lt in omega (arith, below)))

-- a list of the first ones
pub few_ranked : (n : ℕ) (hits : List ReleaseHitValue) → IsRanked hits → IsRanked (take n hits) × (length (take n hits) ≤ n)
few_ranked n hits up = (IsNonDecreasingBy-take (λ f. rank_limit - rank_of f) n hits up, (let size = length-take n hits in omega (arith, size)))

-- ---- one hit more in the order of ranks

in_rank_above : (rank n : ℕ) (hits : List ReleaseHitValue) → rank ≤ n → AllAbove rank (in_rank n hits)
in_rank_above rank n [] le = tt
in_rank_above rank n (found ∷ more) le = go (rank_of found == n) refl (in_rank_above rank n more le)
  where
    go : (b : Bool) → (rank_of found == n) ≡ b → AllAbove rank (in_rank n more) → AllAbove rank (if b then found ∷ in_rank n more else in_rank n more)
    go true test rest = (let same = eqb-true (rank_of found) n test in omega (arith, same, le), rest)
    go false test rest = rest

in_rank_below : (rank n : ℕ) (hits : List ReleaseHitValue) → n < rank → AllBelow rank (in_rank n hits)
in_rank_below rank n [] lt = tt
in_rank_below rank n (found ∷ more) lt = go (rank_of found == n) refl (in_rank_below rank n more lt)
  where
    go : (b : Bool) → (rank_of found == n) ≡ b → AllBelow rank (in_rank n more) → AllBelow rank (if b then found ∷ in_rank n more else in_rank n more)
    go true test rest = (let same = eqb-true (rank_of found) n test in omega (arith, same, lt), rest)
    go false test rest = rest

below_rank_below : (rank n : ℕ) (hits : List ReleaseHitValue) → n ≤ rank → AllBelow rank (below_rank n hits)
unfolding below_rank
below_rank_below rank zero hits le = tt
below_rank_below rank (suc n) hits le =
    below_both rank (in_rank n hits) (below_rank n hits) (in_rank_below rank n hits (omega arith)) (below_rank_below rank n hits (omega arith))

-- the hits of a rank with one more
with_same : (n : ℕ) (hits : List ReleaseHitValue) (found : ReleaseHitValue) → rank_of found ≡ n → in_rank n (hits ++ found ∷ []) ≡ in_rank n hits ++ found ∷ []
with_same n hits found same =
    filter-append (λ f. rank_of f == n) hits (found ∷ [])
    ∙ ap (λ b. in_rank n hits ++ (if b then found ∷ [] else [])) (eq-eqb (rank_of found) n same)

with_other : (n : ℕ) (hits : List ReleaseHitValue) (found : ReleaseHitValue) → (rank_of found ≡ n → ⊥) → in_rank n (hits ++ found ∷ []) ≡ in_rank n hits
with_other n hits found apart =
    filter-append (λ f. rank_of f == n) hits (found ∷ [])
    ∙ ap (λ b. in_rank n hits ++ (if b then found ∷ [] else [])) (ne_eqb (rank_of found) n apart)
    ∙ append-nil (in_rank n hits)

untouched : (n : ℕ) (hits : List ReleaseHitValue) (found : ReleaseHitValue) → n ≤ rank_of found → below_rank n (hits ++ found ∷ []) ≡ below_rank n hits
unfolding below_rank
untouched zero hits found le = refl
untouched (suc n) hits found le =
    ap (λ l. l ++ below_rank n (hits ++ found ∷ [])) (with_other n hits found (λ e. omega (arith, e, le)))
    ∙ ap (λ l. in_rank n hits ++ l) (untouched n hits found (omega arith))

-- where the hit is in the order
record Split (n : ℕ) (hits : List ReleaseHitValue) (found : ReleaseHitValue) : Type 0 where
  high : List ReleaseHitValue
  low : List ReleaseHitValue
  before : below_rank n hits ≡ high ++ low
  after : below_rank n (hits ++ found ∷ []) ≡ high ++ found ∷ low
  above : AllAbove (rank_of found) high
  below : AllBelow (rank_of found) low

split : (n : ℕ) (hits : List ReleaseHitValue) (found : ReleaseHitValue) → rank_of found < n → Split n hits found
unfolding below_rank
split zero hits found lt = absurd (omega (arith, lt))
split (suc n) hits found lt = elim (cases_lt (rank_of found) n) [
  | inl lower ↦
      let rest = split n hits found lower in
      record {
        high = in_rank n hits ++ rest.high;
        low = rest.low;
        before = ap (λ l. in_rank n hits ++ l) rest.before ∙ sym (append_assoc (in_rank n hits) rest.high rest.low);
        after = ap (λ l. l ++ below_rank n (hits ++ found ∷ [])) (with_other n hits found (λ e. omega (arith, e, lower)))
            ∙ ap (λ l. in_rank n hits ++ l) rest.after ∙ sym (append_assoc (in_rank n hits) rest.high (found ∷ rest.low));
        above = above_both (rank_of found) (in_rank n hits) rest.high (in_rank_above (rank_of found) n hits (omega arith)) rest.above;
        below = rest.below;
      }
  | inr not_lower ↦
      let same : rank_of found ≡ n = omega arith in
      record {
        high = in_rank n hits;
        low = below_rank n hits;
        before = refl;
        after = ap (λ l. l ++ below_rank n (hits ++ found ∷ [])) (with_same n hits found same)
            ∙ ap (λ l. (in_rank n hits ++ found ∷ []) ++ l) (untouched n hits found (omega arith))
            ∙ append_assoc (in_rank n hits) (found ∷ []) (below_rank n hits);
        above = in_rank_above (rank_of found) n hits (omega arith);
        below = below_rank_below (rank_of found) n hits (omega arith);
      }
]

-- ---- of the order only the first places matter

take_both : (n : ℕ) (high low : List ReleaseHitValue) → take n (high ++ low) ≡ take n high ++ take (n - length high) low
take_both zero high low = let none : 0 - length high ≡ 0 = omega arith in ap (λ k. take k low) (sym none)
take_both (suc n) [] low = let all : suc n - 0 ≡ suc n = omega arith in ap (λ k. take k low) (sym all)
take_both (suc n) (found ∷ more) low =
    let fewer : n - length more ≡ suc n - suc (length more) = omega arith in
    ap (λ l. found ∷ l) (take_both n more low) ∙ ap (λ k. found ∷ (take n more ++ take k low)) fewer

take_twice : (k n : ℕ) (hits : List ReleaseHitValue) → k ≤ n → take k (take n hits) ≡ take k hits
take_twice zero n hits le = refl
take_twice (suc k) zero hits le = absurd (omega (arith, le))
take_twice (suc k) (suc n) [] le = refl
take_twice (suc k) (suc n) (found ∷ more) le = ap (λ l. found ∷ l) (take_twice k n more (omega arith))

placed : (n : ℕ) (high low : List ReleaseHitValue) (found : ReleaseHitValue)
    → take n (take n high ++ found ∷ take (n - length high) low) ≡ take n (high ++ found ∷ low)
placed zero high low found = refl
placed (suc n) [] low found =
    ap (λ l. found ∷ l) (take_twice n (suc n - 0) low (omega arith))
placed (suc n) (first ∷ more) low found =
    let fewer : suc n - suc (length more) ≡ n - length more = omega arith in
    ap (λ k. first ∷ take n (take n more ++ found ∷ take k low)) fewer ∙ ap (λ l. first ∷ l) (placed n more low found)

inserted : (high low : List ReleaseHitValue) (found : ReleaseHitValue) → insert (high ++ low) (length high) found ≡ high ++ found ∷ low
inserted high low found =
    let none : length high - length high ≡ 0 = omega arith in
    insert-append_right high low (length high) (length high) found refl (omega arith) ∙ ap (λ k. high ++ insert low k found) none

-- a hit that ranks below all of a full list is not among the first ones
pub full : (hits : List ReleaseHitValue) (found : ReleaseHitValue) (place : ℕ) → place ≤ length hits → length hits ≤ shown_limit → shown_limit ≤ place
    → hits ≡ take shown_limit (insert hits place found)
full hits found place le most all =
    let same : place ≡ length hits = omega (arith, le, most, all) in
    let size : shown_limit ≡ length hits = omega (arith, le, most, all) in
    sym (ap (λ n. take n (insert hits place found)) size ∙ ap (λ p. take (length hits) (insert hits p found)) same
    ∙ ap (λ l. take (length hits) (insert l (length hits) found)) (sym (append-nil hits)) ∙ ap (take (length hits)) (inserted hits [] found)
    ∙ take-append_seam hits (found ∷ []))

-- a hit that is placed among the first ones
with_more : (high low : List ReleaseHitValue) (found : ReleaseHitValue) → AllAbove (rank_of found) high → AllBelow (rank_of found) low
    → with_top (take shown_limit (high ++ low)) found ≡ take shown_limit (high ++ found ∷ low)
with_more high low found g h =
    let front = take shown_limit high in
    let back = take (shown_limit - length high) low in
    ap (λ l. with_top l found) (take_both shown_limit high low)
    ∙ ap (λ (l : List ReleaseHitValue). take shown_limit (insert (front ++ back) (length l) found))
    (kept (rank_of found) front back (above_front (rank_of found) shown_limit high g) (below_front (rank_of found) (shown_limit - length high) low h))
    ∙ ap (take shown_limit) (inserted front back found)
    ∙ placed shown_limit high low found

-- ---- all hits

step : (hits : List ReleaseHitValue) (found : ReleaseHitValue) → with_top (take shown_limit (ranked hits)) found ≡ take shown_limit (ranked (hits ++ found ∷ []))
step hits found =
    let where_it_is = split rank_limit hits found (rank_small found) in
    ap (λ l. with_top (take shown_limit l) found) where_it_is.before
    ∙ with_more where_it_is.high where_it_is.low found where_it_is.above where_it_is.below
    ∙ ap (take shown_limit) (sym where_it_is.after)

steps : (hits more : List ReleaseHitValue) → fold with_top (take shown_limit (ranked hits)) more ≡ take shown_limit (ranked (hits ++ more))
steps hits [] = ap (λ l. take shown_limit (ranked l)) (sym (append-nil hits))
steps hits (found ∷ more) =
    ap (λ l. fold with_top l more) (step hits found) ∙ steps (hits ++ found ∷ []) more
    ∙ ap (λ l. take shown_limit (ranked l)) (append_assoc hits (found ∷ []) more)

none_ranked : (n : ℕ) → below_rank n [] ≡ []
unfolding below_rank
none_ranked zero = refl
none_ranked (suc n) = none_ranked n

pub top_is : (hits : List ReleaseHitValue) → fold with_top [] hits ≡ take shown_limit (ranked hits)
top_is hits =
    let none : [] ≡ take shown_limit (ranked []) = ap (take shown_limit) (sym (none_ranked rank_limit)) in
    ap (λ l. fold with_top l hits) none ∙ steps [] hits

-- the limits look only at the first places
pub within_first : (places bytes : ℕ) (hits : List ReleaseHitValue) → first_within places bytes (take places hits) ≡ first_within places bytes hits
within_first zero bytes [] = refl
within_first zero bytes (found ∷ more) = refl
within_first (suc places) bytes [] = refl
within_first (suc places) bytes (found ∷ more) =
    go (nat_lt 0 (suc places) && nat_lt 0 (bytes - text_size found)) (within_first places (bytes - text_size found) more)
  where
    go : (b : Bool) → first_within places (bytes - text_size found) (take places more) ≡ first_within places (bytes - text_size found) more
        → (if b then found ∷ first_within (suc places - 1) (bytes - text_size found) (take places more) else [])
        ≡ (if b then found ∷ first_within (suc places - 1) (bytes - text_size found) more else [])
    go false rest = refl
    go true rest =
        let fewer : suc places - 1 ≡ places = omega arith in
        ap (λ l. found ∷ l)
        (ap (λ n. first_within n (bytes - text_size found) (take places more)) fewer
        ∙ rest
        ∙ ap (λ n. first_within n (bytes - text_size found) more) (sym fewer))

pub within_front : (places bytes : ℕ) (hits : List ReleaseHitValue) → take (length (first_within places bytes hits)) hits ≡ first_within places bytes hits
within_front places bytes [] = refl
within_front places bytes (found ∷ more) =
    go (nat_lt 0 places && nat_lt 0 (bytes - text_size found)) (within_front (places - 1) (bytes - text_size found) more)
  where
    go : (b : Bool) → take (length (first_within (places - 1) (bytes - text_size found) more)) more ≡ first_within (places - 1) (bytes - text_size found) more
        → take (length (if b then found ∷ first_within (places - 1) (bytes - text_size found) more else [])) (found ∷ more)
        ≡ (if b then found ∷ first_within (places - 1) (bytes - text_size found) more else [])
    go true rest = ap (λ l. found ∷ l) rest
    go false rest = refl

-- ---- the order of ranks is that of availability, grade and text

order : (a b c d e f : ℕ) → b ≤ 2 → c ≤ 2 → e ≤ 2 → f ≤ 2
    → (9 * d + 3 * e + f < 9 * a + 3 * b + c) ↔ ((d < a) ⊎ ((d ≡ a) × (e < b)) ⊎ ((d ≡ a) × (e ≡ b) × (f < c)))
order a b c d e f p q r s = (forth, back)
  where
    forth : 9 * d + 3 * e + f < 9 * a + 3 * b + c → (d < a) ⊎ ((d ≡ a) × (e < b)) ⊎ ((d ≡ a) × (e ≡ b) × (f < c))
    forth lt = elim (cases_lt d a) [
      | inl less ↦ inl less
      | inr ge ↦ elim (cases_lt e b) [
        | inl less ↦ inr (inl (omega (arith, p, q, r, s, lt, ge, less), less))
        | inr also ↦ inr (inr (omega (arith, p, q, r, s, lt, ge, also), omega (arith, p, q, r, s, lt, ge, also), omega (arith, p, q, r, s, lt, ge, also)))
      ]
    ]

    back : (d < a) ⊎ ((d ≡ a) × (e < b)) ⊎ ((d ≡ a) × (e ≡ b) × (f < c)) → 9 * d + 3 * e + f < 9 * a + 3 * b + c
    back (inl less) = omega (arith, p, q, r, s, less)
    back (inr (inl (same, less))) = omega (arith, p, q, r, s, same, less)
    back (inr (inr (same, also, less))) = omega (arith, p, q, r, s, same, also, less)

-- equal sums have equal parts
same_parts : (a b c d e f : ℕ) → b ≤ 2 → c ≤ 2 → e ≤ 2 → f ≤ 2 → 9 * d + 3 * e + f ≡ 9 * a + 3 * b + c → (d ≡ a) × (e ≡ b) × (f ≡ c)
same_parts a b c d e f p q r s same =
    (omega (arith, p, q, r, s, same), omega (arith, p, q, r, s, same), omega (arith, p, q, r, s, same))

-- a place decides if the rest is the same
order_of_places : (m n i j : ℕ) → i ≤ 65535 → j ≤ 65535 → (65536 * n + j < 65536 * m + i) ↔ ((n < m) ⊎ ((n ≡ m) × (j < i)))
order_of_places m n i j p q = (forth, back)
  where
    forth : 65536 * n + j < 65536 * m + i → (n < m) ⊎ ((n ≡ m) × (j < i))
    forth lt = elim (cases_lt n m) [
      | inl less ↦ inl less
      | inr ge ↦ inr (omega (arith, p, q, lt, ge), omega (arith, p, q, lt, ge))
    ]

    back : (n < m) ⊎ ((n ≡ m) × (j < i)) → 65536 * n + j < 65536 * m + i
    back (inl less) = omega (arith, p, q, less)
    back (inr (same, less)) = omega (arith, p, q, same, less)

whole_order : (a b c d e f i j : ℕ) → b ≤ 2 → c ≤ 2 → e ≤ 2 → f ≤ 2 → i ≤ 65535 → j ≤ 65535
    → (65536 * (9 * d + 3 * e + f) + j < 65536 * (9 * a + 3 * b + c) + i)
    ↔ ((d < a) ⊎ ((d ≡ a) × (e < b)) ⊎ ((d ≡ a) × (e ≡ b) × (f < c)) ⊎ ((d ≡ a) × (e ≡ b) × (f ≡ c) × (j < i)))
whole_order a b c d e f i j p q r s t u = (forth, back)
  where
    places : (65536 * (9 * d + 3 * e + f) + j < 65536 * (9 * a + 3 * b + c) + i)
        ↔ ((9 * d + 3 * e + f < 9 * a + 3 * b + c) ⊎ ((9 * d + 3 * e + f ≡ 9 * a + 3 * b + c) × (j < i)))
    places = order_of_places (9 * a + 3 * b + c) (9 * d + 3 * e + f) i j t u

    parts : (9 * d + 3 * e + f < 9 * a + 3 * b + c) ↔ ((d < a) ⊎ ((d ≡ a) × (e < b)) ⊎ ((d ≡ a) × (e ≡ b) × (f < c)))
    parts = order a b c d e f p q r s

    better_parts : (d < a) ⊎ ((d ≡ a) × (e < b)) ⊎ ((d ≡ a) × (e ≡ b) × (f < c))
        → (d < a) ⊎ ((d ≡ a) × (e < b)) ⊎ ((d ≡ a) × (e ≡ b) × (f < c)) ⊎ ((d ≡ a) × (e ≡ b) × (f ≡ c) × (j < i))
    better_parts (inl less) = inl less
    better_parts (inr (inl less)) = inr (inl less)
    better_parts (inr (inr less)) = inr (inr (inl less))

    split_sum : (9 * d + 3 * e + f < 9 * a + 3 * b + c) ⊎ ((9 * d + 3 * e + f ≡ 9 * a + 3 * b + c) × (j < i))
        → (d < a) ⊎ ((d ≡ a) × (e < b)) ⊎ ((d ≡ a) × (e ≡ b) × (f < c)) ⊎ ((d ≡ a) × (e ≡ b) × (f ≡ c) × (j < i))
    split_sum (inl less) = better_parts (parts.0 less)
    split_sum (inr (same, less)) =
        let equal = same_parts a b c d e f p q r s same in
        inr (inr (inr (equal.0, equal.1, equal.2, less)))

    forth : 65536 * (9 * d + 3 * e + f) + j < 65536 * (9 * a + 3 * b + c) + i
        → (d < a) ⊎ ((d ≡ a) × (e < b)) ⊎ ((d ≡ a) × (e ≡ b) × (f < c)) ⊎ ((d ≡ a) × (e ≡ b) × (f ≡ c) × (j < i))
    forth lt = split_sum (places.0 lt)

    back : (d < a) ⊎ ((d ≡ a) × (e < b)) ⊎ ((d ≡ a) × (e ≡ b) × (f < c)) ⊎ ((d ≡ a) × (e ≡ b) × (f ≡ c) × (j < i))
        → 65536 * (9 * d + 3 * e + f) + j < 65536 * (9 * a + 3 * b + c) + i
    back (inl less) = places.1 (inl (parts.1 (inl less)))
    back (inr (inl less)) = places.1 (inl (parts.1 (inr (inl less))))
    back (inr (inr (inl less))) = places.1 (inl (parts.1 (inr (inr less))))
    back (inr (inr (inr (x, y, z, less)))) = places.1 (inr (omega (arith, x, y, z), less))

-- what comes first decides before all else
first_order : (h g m n i j : ℕ) → m ≤ 35 → n ≤ 35 → i ≤ 65535 → j ≤ 65535
    → (65536 * (36 * g + n) + j < 65536 * (36 * h + m) + i) ↔ ((g < h) ⊎ ((g ≡ h) × (65536 * n + j < 65536 * m + i)))
first_order h g m n i j p q r s = (forth, back)
  where
    forth : 65536 * (36 * g + n) + j < 65536 * (36 * h + m) + i → (g < h) ⊎ ((g ≡ h) × (65536 * n + j < 65536 * m + i))
    forth lt = elim (cases_lt g h) [
      | inl less ↦ inl less
      | inr ge ↦ inr (omega (arith, p, q, r, s, lt, ge), omega (arith, p, q, r, s, lt, ge))
    ]

    back : (g < h) ⊎ ((g ≡ h) × (65536 * n + j < 65536 * m + i)) → 65536 * (36 * g + n) + j < 65536 * (36 * h + m) + i
    back (inl less) = omega (arith, p, q, r, s, less)
    back (inr (same, less)) = omega (arith, same, less)

pub quality_small : (found : ReleaseHitValue) → 9 * availability_rank found.availability + 3 * grade_rank found.hit.grade + text_rank found.hit.row ≤ 35
quality_small found =
    let one = availability_small found.availability in
    let two = grade_small found.hit.grade in
    let three = text_small found.hit.row in
    omega (arith, one, two, three)

better_order : (one other : ReleaseHitValue)
    → (65536 * (9 * availability_rank other.availability + 3 * grade_rank other.hit.grade + text_rank other.hit.row) + place_rank other.place
    < 65536 * (9 * availability_rank one.availability + 3 * grade_rank one.hit.grade + text_rank one.hit.row) + place_rank one.place) ↔ IsBetter one other
better_order one other =
    whole_order (availability_rank one.availability) (grade_rank one.hit.grade) (text_rank one.hit.row)
    (availability_rank other.availability) (grade_rank other.hit.grade) (text_rank other.hit.row)
    (place_rank one.place) (place_rank other.place)
    (grade_small one.hit.grade) (text_small one.hit.row) (grade_small other.hit.grade) (text_small other.hit.row)
    (place_small one.place) (place_small other.place)

pub preferred : RanksInOrder
preferred one other = (forth, back)
  where
    whole : (rank_of other < rank_of one) ↔ ((first_rank other.is_first < first_rank one.is_first) ⊎ ((first_rank other.is_first ≡ first_rank one.is_first)
        × (65536 * (9 * availability_rank other.availability + 3 * grade_rank other.hit.grade + text_rank other.hit.row) + place_rank other.place
        < 65536 * (9 * availability_rank one.availability + 3 * grade_rank one.hit.grade + text_rank one.hit.row) + place_rank one.place)))
    whole = first_order (first_rank one.is_first) (first_rank other.is_first) _ _ (place_rank one.place) (place_rank other.place)
        (quality_small one) (quality_small other) (place_small one.place) (place_small other.place)

    forth : rank_of other < rank_of one → IsPreferred one other
    forth lt = elim (whole.0 lt) [ inl less ↦ inl less | inr rest ↦ inr (rest.0, (better_order one other).0 rest.1) ]

    back : IsPreferred one other → rank_of other < rank_of one
    back (inl less) = whole.1 (inl less)
    back (inr rest) = whole.1 (inr (rest.0, (better_order one other).1 rest.1))
