-- The places at which a search looks are those of the rows that have one of the query's identifiers.
use Rattle.std.proofs.Common.{◌≡◌, ◌+◌, ◌⊎◌, Some, None, inl, inr, ℕ, zero, suc, Bool, true, false, ◌||◌, List, [], ◌∷◌, refl, sym, subst, arith}
use Rattle.std.specs.Prelude.{◌↔◌, if◌then◌else◌}
use Rattle.std.specs.List.{Contains, cons_option, enumerate_from, filter_map, flat_map}
use Rattle.std.proofs.lemmas.List.Elements.{Contains-append_cases, Contains-append_left, Contains-append_right}
use Rattle.feed_identifiers.specs.declared.identifier.Identifier.{Identifier}
use Rattle.feed_kbart.specs.Places.{has_identifier, place_by, places_by, places_having}
use Rattle.feed_kbart.specs.RowValue.{RowValue}
use Rattle.feed_answer.specs.Grades.{has_named}
use Rattle.feed_answer.specs.Places.{places_among}
use Rattle.feed_answer.specs.QueryValue.{QueryValue, asked}
use Rattle.feed_answer.proofs.Places.{places_ascend}
use Rattle.node_hits.specs.Laws.{ArePlaces, LooksAreAtPlaces}
use Rattle.node_hits.specs.Looks.{asked_places}
use Rattle.node_hits.proofs.Merged.{alike, any_one, asked_any, either, none_placed}

-- ---- the elements of a list with one more

pub first_is : {X : Type 0} (x : X) (xs : List X) → Contains (x ∷ xs) x
first_is x xs = (0, omega arith, refl)

pub later_is : {X : Type 0} (y : X) (xs : List X) (x : X) → Contains xs x → Contains (y ∷ xs) x
later_is y xs x has = (suc has.0, omega (arith, has.1), has.2)

pub one_of : {X : Type 0} (y : X) (xs : List X) (x : X) → Contains (y ∷ xs) x → (y ≡ x) ⊎ Contains xs x
one_of y xs x (zero, within, here) = inl here
one_of y xs x (suc k, within, here) = inr (k, omega (arith, within), here)

pub none_in : {X : Type 0} (x : X) → Contains [] x → ⊥
none_in x has = omega (arith, has.1)

-- ---- the places of the rows that pass one of two tests

module _ (place : ℕ) where
  abbrev At : List ℕ → Type 0
  At places = Contains places place

  more_from : (one other : RowValue → Bool) (base : ℕ) (rows : List RowValue) → ((row : RowValue) → one row ≡ true → other row ≡ true)
      → At (filter_map (place_by one) (enumerate_from base rows)) → At (filter_map (place_by other) (enumerate_from base rows))
  more_from one other base [] passes has = has
  more_from one other base (row ∷ rows) passes has = go (one row) (other row) (passes row) (more_from one other (base + 1) rows passes) has
    where
      go : (p q : Bool) → (p ≡ true → q ≡ true)
          → (At (filter_map (place_by one) (enumerate_from (base + 1) rows)) → At (filter_map (place_by other) (enumerate_from (base + 1) rows)))
          → At (cons_option (if p then Some base else None) (filter_map (place_by one) (enumerate_from (base + 1) rows)))
          → At (cons_option (if q then Some base else None) (filter_map (place_by other) (enumerate_from (base + 1) rows)))
      go true true also rest has = elim (one_of base _ place has) [
        | inl same ↦ subst (Contains (base ∷ filter_map (place_by other) (enumerate_from (base + 1) rows))) same (first_is base _)
        | inr later ↦ later_is base _ place (rest later)
      ]
      go true false also rest has = absurd (let no = also refl in cc)
      go false true also rest has = later_is base _ place (rest has)
      go false false also rest has = rest has

  cases_from : (one other : RowValue → Bool) (base : ℕ) (rows : List RowValue) → At (filter_map (place_by (either one other)) (enumerate_from base rows))
      → At (filter_map (place_by one) (enumerate_from base rows)) ⊎ At (filter_map (place_by other) (enumerate_from base rows))
  cases_from one other base [] has = inl has
  cases_from one other base (row ∷ rows) has = go (one row) (other row) (cases_from one other (base + 1) rows) has
    where
      xs : List ℕ
      xs = filter_map (place_by one) (enumerate_from (base + 1) rows)

      ys : List ℕ
      ys = filter_map (place_by other) (enumerate_from (base + 1) rows)

      zs : List ℕ
      zs = filter_map (place_by (either one other)) (enumerate_from (base + 1) rows)

      both : (p q : Bool) → At xs ⊎ At ys → At (cons_option (if p then Some base else None) xs) ⊎ At (cons_option (if q then Some base else None) ys)
      both true q (inl rest) = inl (later_is base xs place rest)
      both false q (inl rest) = inl rest
      both p true (inr rest) = inr (later_is base ys place rest)
      both p false (inr rest) = inr rest

      go : (p q : Bool) → (At zs → At xs ⊎ At ys) → At (cons_option (if p || q then Some base else None) zs)
          → At (cons_option (if p then Some base else None) xs) ⊎ At (cons_option (if q then Some base else None) ys)
      go true q rest has = elim (one_of base zs place has) [
        | inl same ↦ inl (subst (Contains (base ∷ xs)) same (first_is base xs))
        | inr later ↦ both true q (rest later)
      ]
      go false true rest has = elim (one_of base zs place has) [
        | inl same ↦ inr (subst (Contains (base ∷ ys)) same (first_is base ys))
        | inr later ↦ both false true (rest later)
      ]
      go false false rest has = both false false (rest has)

  more_placed : (one other : RowValue → Bool) (rows : List RowValue) → ((row : RowValue) → one row ≡ true → other row ≡ true) → At (places_by one rows) → At (places_by other rows)
  unfolding places_by
  more_placed one other rows passes has = more_from one other 0 rows passes has

  placed_cases : (one other : RowValue → Bool) (rows : List RowValue) → At (places_by (either one other) rows) → At (places_by one rows) ⊎ At (places_by other rows)
  unfolding places_by
  placed_cases one other rows has = cases_from one other 0 rows has

  first_passes : (a b : Bool) → a ≡ true → (a || b) ≡ true
  first_passes true b e = refl
  first_passes false b e = absurd (cc)

  second_passes : (a b : Bool) → b ≡ true → (a || b) ≡ true
  second_passes true b e = refl
  second_passes false b e = e

  -- ---- the places of some identifiers

  module _ (rows : List RowValue) where
    abbrev of_each : List Identifier → List ℕ
    of_each identifiers = flat_map (λ one. places_having one rows) identifiers

    of_all : (identifiers : List Identifier) → At (places_by (any_one identifiers) rows) → At (of_each identifiers)
    of_all [] there = subst At (none_placed rows) there
    of_all (one ∷ others) there = elim (placed_cases (has_identifier one) (any_one others) rows there) [
      | inl first ↦ Contains-append_left (places_having one rows) (of_each others) place first
      | inr later ↦ Contains-append_right (places_having one rows) (of_each others) place (of_all others later)
    ]

    with_any : (identifiers : List Identifier) → At (of_each identifiers) → At (places_by (any_one identifiers) rows)
    with_any [] there = absurd (none_in place there)
    with_any (one ∷ others) there = elim (Contains-append_cases (places_having one rows) (of_each others) place there) [
      | inl first ↦ more_placed (has_identifier one) (any_one (one ∷ others)) rows (λ row. first_passes (has_identifier one row) (any_one others row)) first
      | inr later ↦ more_placed (any_one others) (any_one (one ∷ others)) rows (λ row. second_passes (has_identifier one row) (any_one others row)) (with_any others later)
    ]

  asked_same : (query : QueryValue) (rows : List RowValue) → At (asked_places query rows) ↔ At (places_among query rows)
  asked_same query rows =
      let same = alike (any_one (asked query)) (has_named query) rows (asked_any query) in
      (λ has. of_all rows (asked query) (subst At (sym same) has), λ has. subst At same (with_any rows (asked query) has))

are_places : (query : QueryValue) (rows : List RowValue) → ArePlaces query rows
are_places query rows = record { ascend = places_ascend (has_named query) rows; same = λ place. asked_same place query rows }

pub at_places : LooksAreAtPlaces
at_places query rows = are_places query rows
