-- The hits at the places of the rows that have a query's identifiers.
use Rattle.std.proofs.Common.{◌≡◌, ◌<◌, ◌≤◌, ◌+◌, ◌⊎◌, inl, inr, ℕ, zero, suc, Bool, true, false, ◌||◌, eqb, List, [], ◌∷◌, length, drop}
use Rattle.std.proofs.Common.{get_or, Option, Some, None, option_map, if◌then◌else◌, refl, sym, ap, subst, arith}
use Rattle.std.specs.Option.{option_and_then}
use Rattle.std.specs.List.{All, AllPairs, Contains, cons_option, enumerate_from, filter_map, flat_map, list_any, slice_get}
use Rattle.std.specs.List.Sorted.{IsStrictlyIncreasing}
use Rattle.std.proofs.lemmas.Bool.Decides.{nat_tests}
use Rattle.std.proofs.lemmas.List.{drop_all, drop_more}
use Rattle.std.proofs.lemmas.List.Elements.{All-contains, Contains-append_left, Contains-append_right}
use Rattle.std.proofs.lemmas.List.Kept.{AllPairs-from_increasing}
use Rattle.std.proofs.lemmas.Option.{slice_get-get_or}
use Rattle.feed_identifiers.specs.Identifier.{identifier_eq}
use Rattle.feed_identifiers.specs.declared.identifier.Identifier.{Identifier}
use Rattle.feed_kbart.specs.Places.{has_identifier, is_same_identifier, place_by, places_by, places_having}
use Rattle.feed_kbart.specs.HoldingsValue.{HoldingsValue}
use Rattle.feed_kbart.specs.RowValue.{RowValue}
use Rattle.feed_answer.specs.Answers.{answer_of, hit_by}
use Rattle.feed_answer.specs.Grades.{has_named}
use Rattle.feed_answer.specs.HitValue.{HitValue}
use Rattle.feed_answer.specs.Places.{hit_at, places_among}
use Rattle.feed_answer.specs.QueryValue.{QueryValue, asked, is_named}
use Rattle.feed_answer.specs.declared.grade.Grade.{Grade}

-- what is in a list of one more
contains_first : {X : Type 0} (x : X) (xs : List X) → Contains (x ∷ xs) x
contains_first x xs = (0, omega arith, refl)

contains_later : {X : Type 0} (y : X) (xs : List X) (x : X) → Contains xs x → Contains (y ∷ xs) x
contains_later y xs x has = (suc has.0, omega (arith, has.1), has.2)

contains_cases : {X : Type 0} (y : X) (xs : List X) (x : X) → Contains (y ∷ xs) x → (y ≡ x) ⊎ Contains xs x
contains_cases y xs x (zero, within, here) = inl here
contains_cases y xs x (suc k, within, here) = inr (k, omega arith, here)

contains_none : {X : Type 0} (x : X) → ¬ (Contains [] x)
contains_none x has = omega (arith, has.1)

-- what is in one of some lists
contains_flat : {X Y : Type 0} (f : X → List Y) (xs : List X) (x : X) (y : Y) → Contains xs x → Contains (f x) y → Contains (flat_map f xs) y
contains_flat f [] x y has inner = absurd (contains_none x has)
contains_flat f (z ∷ xs) x y has inner = elim (contains_cases z xs x has) [
  | inl same ↦ Contains-append_left (f z) (flat_map f xs) y (subst (λ w. Contains (f w) y) (sym same) inner)
  | inr later ↦ Contains-append_right (f z) (flat_map f xs) y (contains_flat f xs x y later inner)
]

-- an identifier that is asked for is the same as one of those
or_cases : (a b : Bool) → (a || b) ≡ true → (a ≡ true) ⊎ (b ≡ true)
or_cases true b e = inl refl
or_cases false b e = inr e

abbrev IsOne : List Identifier → Option Identifier → Type 0
IsOne some own = (one : Identifier) × (is_same_identifier one own ≡ true) × Contains some one

one_is : (own : Identifier) (some : List Identifier) → list_any (λ one. identifier_eq one own) some ≡ true → IsOne some (Some own)
one_is own [] e = absurd (cc)
one_is own (one ∷ others) e = elim (or_cases (identifier_eq one own) (list_any (λ one. identifier_eq one own) others) e) [
  | inl same ↦ (one, same, contains_first one others)
  | inr later ↦ let it = one_is own others later in (it.0, it.1, contains_later one others it.0 it.2)
]

named_is : (query : QueryValue) (own : Option Identifier) → is_named query own ≡ true → IsOne (asked query) own
named_is query None e = absurd (cc)
named_is query (Some own) e = one_is own (asked query) e

or_true : (a : Bool) → (a || true) ≡ true
or_true true = refl
or_true false = refl

contains_next : {X : Type 0} (first : Option X) (xs : List X) (x : X) → Contains xs x → Contains (cons_option first xs) x
contains_next None xs x has = has
contains_next (Some first) xs x has = contains_later first xs x has

-- a row that passes has its place among those that do
places_have : (test : RowValue → Bool) (base : ℕ) (rows : List RowValue) (i place : ℕ) (d : RowValue) → i < length rows → place ≡ base + i
    → test (get_or rows i d) ≡ true → Contains (filter_map (place_by test) (enumerate_from base rows)) place
places_have test base [] i place d within at passes = absurd (omega arith)
places_have test base (row ∷ rows) zero place d within at passes =
    let same : place ≡ base = omega arith in
    rw (same, passes) (contains_first base (filter_map (place_by test) (enumerate_from (base + 1) rows)))
places_have test base (row ∷ rows) (suc i) place d within at passes =
    contains_next (place_by test (base, row)) (filter_map (place_by test) (enumerate_from (base + 1) rows)) place
    (places_have test (base + 1) rows i place d (omega arith) (omega arith) passes)

-- a row that matches has an identifier that is asked for
is_asked : (b : Bool) (grade : Option Grade) (f : Grade → HitValue) (hit : HitValue) → option_map f (if b then grade else None) ≡ Some hit → b ≡ true
is_asked true grade f hit e = refl
is_asked false grade f hit e = absurd (cc)

named_has : (query : QueryValue) (row : RowValue) → has_named query row ≡ true
    → (one : Identifier) × (has_identifier one row ≡ true) × Contains (asked query) one
named_has query row e = elim (or_cases (is_named query row.identifiers.print) (is_named query row.identifiers.online) e) [
  | inl first ↦ let it = named_is query row.identifiers.print first in (it.0, rw it.1 refl, it.2)
  | inr second ↦
      let it = named_is query row.identifiers.online second in
      (it.0, rw it.1 (or_true (is_same_identifier it.0 row.identifiers.print)), it.2)
]

-- so its place is among those of the query's identifiers
place_among : (query : QueryValue) (rows : List RowValue) (i : ℕ) (d : RowValue) → i < length rows
    → (hit_by query (get_or rows i d) ≡ None) ⊎ Contains (places_among query rows) i
unfolding places_by
place_among query rows i d within =
    elim (hit_by query (get_or rows i d)) as (λ h. hit_by query (get_or rows i d) ≡ h → (hit_by query (get_or rows i d) ≡ None) ⊎ Contains (places_among query rows) i) [
      | None ↦ λ e. inl e
      | Some hit ↦ λ e.
          let it = named_has query (get_or rows i d) (is_asked (has_named query (get_or rows i d)) _ _ hit e) in
          inr (contains_flat (λ one. places_having one rows) (asked query) it.0 i it.2 (places_have (has_identifier it.0) 0 rows i i d within (omega arith) it.1))
    ] refl

-- what h gives of the element at a place
abbrev at_place : {X Y : Type 0} → (X → Option Y) → List X → ℕ → Option Y
at_place h rows place = option_and_then h (slice_get rows place)

past : {X Y : Type 0} (h : X → Option Y) (rows : List X) (place : ℕ) → length rows ≤ place → at_place h rows place ≡ None
past h [] place over = refl
past h (row ∷ rows) zero over = absurd (omega arith)
past h (row ∷ rows) (suc place) over = past h rows place (omega arith)

all_past : {X Y : Type 0} (h : X → Option Y) (rows : List X) (places : List ℕ) → All (λ place. length rows ≤ place) places → filter_map (at_place h rows) places ≡ []
all_past h rows [] all = refl
all_past h rows (place ∷ places) all = rw (past h rows place (all 0 0 (omega arith))) (all_past h rows places (λ k d within. all (suc k) d (omega (arith, within))))

-- the places from b on ascend, and include each element at b or later for which h returns something
record Covers {X Y : Type 0} (h : X → Option Y) (rows : List X) (b : ℕ) (places : List ℕ) : Type 0 where
  ascending : AllPairs (λ x y. x < y) places
  from : All (λ place. b ≤ place) places
  has : (i : ℕ) (d : X) → b ≤ i → i < length rows → (h (get_or rows i d) ≡ None) ⊎ Contains places i

-- where b itself is not among the places
covers_none : {X Y : Type 0} (h : X → Option Y) (rows : List X) (b : ℕ) (places : List ℕ) → Covers h rows b places → All (λ place. b + 1 ≤ place) places → Covers h rows (b + 1) places
covers_none h rows b places covers later = record {
  ascending = covers.ascending;
  from = later;
  has = λ i d k g. covers.has i d (omega arith) g;
}

-- where b is the first of the places
covers_first : {X Y : Type 0} (h : X → Option Y) (rows : List X) (b place : ℕ) (places : List ℕ) → Covers h rows b (place ∷ places) → place ≡ b → Covers h rows (b + 1) places
covers_first h rows b place places covers first = record {
  ascending = λ i j d k g. covers.ascending (suc i) (suc j) d (omega (arith, k)) (omega (arith, g));
  from = λ k d g. (let more : place < get_or places k d = covers.ascending 0 (suc k) d (omega arith) (omega (arith, g)) in omega arith);
  has = λ i d k g. elim (covers.has i d (omega arith) g) [
    | inl none ↦ inl none
    | inr has ↦ elim (contains_cases place places i has) [ inl same ↦ absurd (omega arith) | inr later ↦ inr later ]
  ];
}

-- the element at b gives nothing, if all places are later
none_here : {X Y : Type 0} (h : X → Option Y) (rows : List X) (b : ℕ) (places : List ℕ) (d : X) → Covers h rows b places → b < length rows → All (λ place. b + 1 ≤ place) places
    → h (get_or rows b d) ≡ None
none_here h rows b places d covers within later = elim (covers.has b d (omega arith) within) [
  | inl none ↦ none
  | inr has ↦ let wrong : b + 1 ≤ b = All-contains (λ place. b + 1 ≤ place) places b later has in absurd (omega arith)
]

all_later : (b place : ℕ) (places : List ℕ) → AllPairs (λ x y. x < y) (place ∷ places) → b < place → All (λ x. b + 1 ≤ x) (place ∷ places)
all_later b place places pairs less zero d k = omega arith
all_later b place places pairs less (suc i) d k = let more : place < get_or places i d = pairs 0 (suc i) d (omega arith) k in omega arith

-- what h gives of the elements at the places is what it gives of all from b on
from_places : {X Y : Type 0} (h : X → Option Y) (rows : List X) (d : X) (left b : ℕ) (places : List ℕ) → left + b ≡ length rows → Covers h rows b places
    → filter_map (at_place h rows) places ≡ filter_map h (drop b rows)
from_places h rows d zero b places count covers =
    let over : length rows ≤ b = omega arith in
    rw (drop_all b rows over) (all_past h rows places (λ k e g. (let more : b ≤ get_or places k e = covers.from k e g in omega arith)))
from_places h rows d (suc left) b [] count covers =
    let within : b < length rows = omega arith in
    let none = none_here h rows b [] d covers within (λ k e g. absurd (omega (arith, g))) in
    rw (drop_more rows b d within, none) (from_places h rows d left (b + 1) [] (omega arith) (covers_none h rows b [] covers (λ k e g. absurd (omega (arith, g)))))
from_places h rows d (suc left) b (place ∷ places) count covers = elim (eqb place b) as (λ t. eqb place b ≡ t → filter_map (at_place h rows) (place ∷ places) ≡ filter_map h (drop b rows)) [
  | true ↦ λ e.
      let within : b < length rows = omega arith in
      let first : place ≡ b = grind (arith, nat_tests) in
      let here : slice_get rows place ≡ Some (get_or rows b d) = rw first (slice_get-get_or rows b d within) in
      rw (drop_more rows b d within, here) (ap (cons_option (h (get_or rows b d))) (from_places h rows d left (b + 1) places (omega arith) (covers_first h rows b place places covers first)))
  | false ↦ λ e.
      let within : b < length rows = omega arith in
      let low : b ≤ place = covers.from 0 0 (omega arith) in
      let less : b < place = grind (arith, nat_tests) in
      let later = all_later b place places covers.ascending less in
      rw (drop_more rows b d within, none_here h rows b (place ∷ places) d covers within later)
      (from_places h rows d left (b + 1) (place ∷ places) (omega arith) (covers_none h rows b (place ∷ places) covers later))
] refl

over_all : {X Y : Type 0} (h : X → Option Y) (rows : List X) (places : List ℕ) → IsStrictlyIncreasing places
    → ((i : ℕ) (d : X) → i < length rows → (h (get_or rows i d) ≡ None) ⊎ Contains places i)
    → filter_map (at_place h rows) places ≡ filter_map h rows
over_all h [] places ascending has = all_past h [] places (λ k d g. omega arith)
over_all h (row ∷ rows) places ascending has =
    from_places h (row ∷ rows) row (length (row ∷ rows)) 0 places (omega arith) (record {
      ascending = AllPairs-from_increasing places ascending;
      from = λ k d g. omega arith;
      has = λ i d k g. has i d g;
    })

-- the hits at ascending places that have those of the query's identifiers are the answer
pub answered_at : (query : QueryValue) (holdings : HoldingsValue) (places : List ℕ) → IsStrictlyIncreasing places
    → ((place : ℕ) → Contains (places_among query holdings.rows) place → Contains places place)
    → filter_map (hit_at query holdings.rows) places ≡ answer_of holdings query
unfolding answer_of
answered_at query holdings places ascending has =
    over_all (hit_by query) holdings.rows places ascending
    (λ i d within. elim (place_among query holdings.rows i d within) [ inl none ↦ inl none | inr among ↦ inr (has i among) ])

-- numbers that ascend, the first of them not below this one
abbrev Rises : ℕ → List ℕ → Type 0
Rises low [] = Unit {0}
Rises low (x ∷ xs) = (low ≤ x) × Rises (x + 1) xs

rises_from : (low lower : ℕ) (xs : List ℕ) → lower ≤ low → Rises low xs → Rises lower xs
rises_from low lower [] h up = tt
rises_from low lower (x ∷ xs) h up = (omega (arith, h, up.0), up.1)

places_rise : (test : RowValue → Bool) (base : ℕ) (rows : List RowValue) → Rises base (filter_map (place_by test) (enumerate_from base rows))
places_rise test base [] = tt
places_rise test base (row ∷ rows) = elim (test row) as (λ b. test row ≡ b → Rises base (filter_map (place_by test) (enumerate_from base (row ∷ rows)))) [
  | true ↦ λ e. rw e (omega arith, places_rise test (base + 1) rows)
  | false ↦ λ e. rw e (rises_from (base + 1) base _ (omega arith) (places_rise test (base + 1) rows))
] refl

increasing : (low : ℕ) (xs : List ℕ) → Rises low xs → IsStrictlyIncreasing xs
increasing low [] up k within = absurd (omega (arith, within))
increasing low (x ∷ []) up k within = absurd (omega (arith, within))
increasing low (x ∷ y ∷ xs) up zero within = omega (arith, up.1.0)
increasing low (x ∷ y ∷ xs) up (suc k) within =
    let next : suc k + 1 ≡ suc (k + 1) = omega arith in
    rw next (increasing (x + 1) (y ∷ xs) up.1 k (omega (arith, within)))

-- the places of the rows that pass a test ascend
pub places_ascend : (test : RowValue → Bool) (rows : List RowValue) → IsStrictlyIncreasing (places_by test rows)
unfolding places_by
places_ascend test rows = increasing 0 _ (places_rise test 0 rows)
