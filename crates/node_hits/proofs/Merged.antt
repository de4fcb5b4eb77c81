-- The places of several identifiers, merged one after another, are those of the rows that have one of them.
use Rattle.std.proofs.Common.{◌≡◌, ◌<◌, ◌≤◌, ◌+◌, ◌-◌, ℕ, zero, suc, Bool, true, false, ◌||◌, List, [], ◌∷◌, ◌++◌, Option, Some, None, refl, sym, ap, ◌∙◌, append_assoc, arith, get_or, length, take}
use Rattle.std.specs.Prelude.{◌==◌, All, if◌then◌else◌, nat_lt, slice_get}
use Rattle.std.specs.List.{cons_option, enumerate_from, filter_map, list_any}
use Rattle.std.specs.Option.{option_map_or}
use Rattle.std.proofs.lemmas.List.{append-nil}
use Rattle.std.proofs.lemmas.List.Elements.{All-head, All-tail}
use Rattle.std.proofs.lemmas.List.Sums.{fold-append}
use Rattle.std.proofs.lemmas.Bool.{ne_eqb}
use Rattle.std.proofs.lemmas.Bool.Decides.{nat_tests}
use borrow.Author.Tests.{eq-eqb, lt-ltb}
use Rattle.feed_identifiers.specs.Identifier.{identifier_eq}
use Rattle.feed_identifiers.specs.declared.identifier.Identifier.{Identifier}
use Rattle.feed_kbart.specs.Places.{has_identifier, is_same_identifier, place_by, places_by, places_having}
use Rattle.feed_kbart.specs.RowValue.{RowValue}
use Rattle.feed_answer.specs.Grades.{has_named}
use Rattle.feed_answer.specs.QueryValue.{QueryValue, asked, is_named, sole}
use Rattle.feed_answer.proofs.Asked.{sole_is, taken_next}
use Rattle.node_hits.specs.Looks.{asked_places}
use Rattle.node_hits.specs.Merging.{merged, next_place, with_each}

-- the places from a base on
pub placed : (RowValue → Bool) → ℕ → List RowValue → List ℕ
placed test base rows = filter_map (place_by test) (enumerate_from base rows)

-- ---- which place is next

abbrev Above : ℕ → List ℕ → Type 0
Above x [] = Unit {0}
Above x (y ∷ ys) = x < y

placed_above : (test : RowValue → Bool) (x base : ℕ) (rows : List RowValue) → x < base → Above x (filter_map (place_by test) (enumerate_from base rows))
placed_above test x base [] lt = tt
placed_above test x base (row ∷ rows) lt = go (test row) (placed_above test x (base + 1) rows (omega (arith, lt)))
  where
    go : (b : Bool) → Above x (filter_map (place_by test) (enumerate_from (base + 1) rows))
        → Above x (cons_option (if b then Some base else None) (filter_map (place_by test) (enumerate_from (base + 1) rows)))
    go true rest = lt
    go false rest = rest

front_above : (x n : ℕ) (ys : List ℕ) → Above x ys → Above x (take n ys)
front_above x zero ys above = tt
front_above x (suc n) [] above = tt
front_above x (suc n) (y ∷ ys) above = above

first_next : (x : ℕ) (xs ys : List ℕ) → Above x ys → next_place (x ∷ xs) ys ≡ Some (x, xs, ys)
first_next x xs [] above = refl
first_next x xs (y ∷ ys) above = let test = lt-ltb x y above in rw test refl

second_next : (y : ℕ) (xs ys : List ℕ) → Above y xs → next_place xs (y ∷ ys) ≡ Some (y, xs, ys)
second_next y [] ys above = refl
second_next y (x ∷ xs) ys above =
    let test : nat_lt x y ≡ false = grind (arith, nat_tests, above) in
    let apart : (x == y) ≡ false = ne_eqb x y (λ e. omega (arith, e, above)) in
    rw (test, apart) refl

both_next : (x : ℕ) (xs ys : List ℕ) → next_place (x ∷ xs) (x ∷ ys) ≡ Some (x, xs, ys)
both_next x xs ys =
    let test : nat_lt x x ≡ false = grind (arith, nat_tests) in
    let same : (x == x) ≡ true = eq-eqb x x refl in
    rw (test, same) refl

-- ---- the first places of two tests

abbrev pub merged_by : ℕ → Option (ℕ × List ℕ × List ℕ) → List ℕ
merged_by n next = option_map_or (λ next. next.0 ∷ merged n next.1 next.2) next []

abbrev pub either : (RowValue → Bool) → (RowValue → Bool) → RowValue → Bool
either one other row = one row || other row

merged_is : (one other : RowValue → Bool) (n m base : ℕ) (rows : List RowValue) → n ≤ m
    → merged n (take m (filter_map (place_by one) (enumerate_from base rows))) (filter_map (place_by other) (enumerate_from base rows))
    ≡ take n (filter_map (place_by (either one other)) (enumerate_from base rows))
merged_is one other zero m base rows le = refl
merged_is one other (suc n) zero base rows le = absurd (omega (arith, le))
merged_is one other (suc n) (suc m) base [] le = refl
merged_is one other (suc n) (suc m) base (row ∷ rows) le =
    go (one row) (other row) (merged_is one other n m (base + 1) rows (omega (arith, le))) (merged_is one other n (suc m) (base + 1) rows (omega (arith, le)))
    (merged_is one other (suc n) (suc m) (base + 1) rows le)
    (front_above base m (filter_map (place_by one) (enumerate_from (base + 1) rows)) (placed_above one base (base + 1) rows (omega arith)))
    (front_above base (suc m) (filter_map (place_by one) (enumerate_from (base + 1) rows)) (placed_above one base (base + 1) rows (omega arith)))
    (placed_above other base (base + 1) rows (omega arith))
  where
    xs : List ℕ
    xs = filter_map (place_by one) (enumerate_from (base + 1) rows)

    ys : List ℕ
    ys = filter_map (place_by other) (enumerate_from (base + 1) rows)

    zs : List ℕ
    zs = filter_map (place_by (either one other)) (enumerate_from (base + 1) rows)

    go : (p q : Bool) → merged n (take m xs) ys ≡ take n zs → merged n (take (suc m) xs) ys ≡ take n zs → merged (suc n) (take (suc m) xs) ys ≡ take (suc n) zs
        → Above base (take m xs) → Above base (take (suc m) xs) → Above base ys
        → merged (suc n) (take (suc m) (cons_option (if p then Some base else None) xs)) (cons_option (if q then Some base else None) ys)
        ≡ take (suc n) (cons_option (if p || q then Some base else None) zs)
    go true true less same all near far other = ap (merged_by n) (both_next base (take m xs) ys) ∙ ap (λ l. base ∷ l) less
    go true false less same all near far other = ap (merged_by n) (first_next base (take m xs) ys other) ∙ ap (λ l. base ∷ l) less
    go false true less same all near far other = ap (merged_by n) (second_next base (take (suc m) xs) ys far) ∙ ap (λ l. base ∷ l) same
    go false false less same all near far other = all

-- ---- tests that agree

alike_from : (one other : RowValue → Bool) (base : ℕ) (rows : List RowValue) → ((row : RowValue) → one row ≡ other row)
    → filter_map (place_by one) (enumerate_from base rows) ≡ filter_map (place_by other) (enumerate_from base rows)
alike_from one other base [] same = refl
alike_from one other base (row ∷ rows) same =
    ap (λ b. cons_option (if b then Some base else None) (filter_map (place_by one) (enumerate_from (base + 1) rows))) (same row)
    ∙ ap (cons_option (if other row then Some base else None)) (alike_from one other (base + 1) rows same)

pub alike : (one other : RowValue → Bool) (rows : List RowValue) → ((row : RowValue) → one row ≡ other row) → places_by one rows ≡ places_by other rows
unfolding places_by
alike one other rows same = alike_from one other 0 rows same

none_from : (base : ℕ) (rows : List RowValue) → filter_map (place_by (λ row. false)) (enumerate_from base rows) ≡ []
none_from base [] = refl
none_from base (row ∷ rows) = none_from (base + 1) rows

abbrev nothing : List ℕ
nothing = []

none_of : (n : ℕ) → take n nothing ≡ []
none_of zero = refl
none_of (suc n) = refl

pub none_placed : (rows : List RowValue) → places_by (λ row. false) rows ≡ []
unfolding places_by
none_placed rows = none_from 0 rows

one_more : (one other : RowValue → Bool) (limit : ℕ) (rows : List RowValue)
    → merged limit (take limit (places_by one rows)) (places_by other rows) ≡ take limit (places_by (either one other) rows)
unfolding places_by
one_more one other limit rows = merged_is one other limit limit 0 rows (omega arith)

-- ---- all identifiers

or_false : (a : Bool) → (a || false) ≡ a
or_false true = refl
or_false false = refl

or_true : (a : Bool) → (a || true) ≡ true
or_true true = refl
or_true false = refl

or_joint : (a b c : Bool) → ((a || b) || c) ≡ (a || (b || c))
or_joint true b c = refl
or_joint false b c = refl

or_swap : (a b c d : Bool) → ((a || b) || (c || d)) ≡ ((a || c) || (b || d))
or_swap true b c d = refl
or_swap false true c d = sym (or_true c)
or_swap false false c d = refl

abbrev pub any_one : List Identifier → RowValue → Bool
any_one identifiers row = list_any (λ one. has_identifier one row) identifiers

each_are : (test : RowValue → Bool) (limit : ℕ) (rows : List RowValue) (identifiers : List Identifier)
    → with_each limit rows (take limit (places_by test rows)) identifiers ≡ take limit (places_by (either test (any_one identifiers)) rows)
each_are test limit rows [] = ap (take limit) (alike test (either test (any_one [])) rows (λ row. sym (or_false (test row))))
each_are test limit rows (one ∷ others) =
    ap (λ l. with_each limit rows l others) (one_more test (has_identifier one) limit rows)
    ∙ each_are (either test (has_identifier one)) limit rows others
    ∙ ap (take limit) (alike (either (either test (has_identifier one)) (any_one others)) (either test (any_one (one ∷ others))) rows
    (λ row. or_joint (test row) (has_identifier one row) (any_one others row)))

-- a row has one of the identifiers of a query, in print or online
abbrev among : List Identifier → Option Identifier → Bool
among identifiers None = false
among identifiers (Some own) = list_any (λ one. identifier_eq one own) identifiers

among_none : (own : Option Identifier) → among [] own ≡ false
among_none None = refl
among_none (Some own) = refl

among_next : (one : Identifier) (own : Option Identifier) (others : List Identifier) → (is_same_identifier one own || among others own) ≡ among (one ∷ others) own
among_next one None others = refl
among_next one (Some own) others = refl

any_among : (row : RowValue) (identifiers : List Identifier) → any_one identifiers row ≡ (among identifiers row.identifiers.print || among identifiers row.identifiers.online)
any_among row [] = sym (rw (among_none row.identifiers.print, among_none row.identifiers.online) refl)
any_among row (one ∷ others) =
    let print = row.identifiers.print in
    let online = row.identifiers.online in
    ap (λ b. (is_same_identifier one print || is_same_identifier one online) || b) (any_among row others)
    ∙ or_swap (is_same_identifier one print) (is_same_identifier one online) (among others print) (among others online)
    ∙ ap (λ b. b || (is_same_identifier one online || among others online)) (among_next one print others)
    ∙ ap (λ b. among (one ∷ others) print || b) (among_next one online others)

named_among : (query : QueryValue) (own : Option Identifier) → among (asked query) own ≡ is_named query own
named_among query None = refl
named_among query (Some own) = refl

pub asked_any : (query : QueryValue) (row : RowValue) → any_one (asked query) row ≡ has_named query row
asked_any query row =
    any_among row (asked query)
    ∙ ap (λ b. b || among (asked query) row.identifiers.online) (named_among query row.identifiers.print)
    ∙ ap (λ b. is_named query row.identifiers.print || b) (named_among query row.identifiers.online)

-- the first places of all
pub asked_are : (query : QueryValue) (limit : ℕ) (rows : List RowValue) → with_each limit rows [] (asked query) ≡ take limit (asked_places query rows)
asked_are query limit rows =
    let none : [] ≡ take limit (places_by (λ row. false) rows) = sym (ap (take limit) (none_placed rows) ∙ none_of limit) in
    ap (λ l. with_each limit rows l (asked query)) none
    ∙ each_are (λ row. false) limit rows (asked query)
    ∙ ap (take limit) (alike (any_one (asked query)) (has_named query) rows (asked_any query))

-- one identifier more, or none
module _ (limit : ℕ) (rows : List RowValue) (some : List Identifier) (i : ℕ) where
  pub each_next : (old new : List ℕ) → new ≡ with_each limit rows old (cons_option (slice_get some i) [])
      → old ≡ with_each limit rows [] (take i some) → new ≡ with_each limit rows [] (take (i + 1) some)
  each_next old new more was =
      more ∙ ap (λ l. with_each limit rows l (cons_option (slice_get some i) [])) was
      ∙ sym (ap (with_each limit rows []) (taken_next some i (slice_get some i) refl)
      ∙ fold-append (λ some one. merged limit some (places_having one rows)) [] (take i some) (cons_option (slice_get some i) []))

-- those of the only one
pub asked_alone : (query : QueryValue) (one : Identifier) (rows : List RowValue) → sole (asked query) ≡ Some one
    → places_having one rows ≡ asked_places query rows
asked_alone query one rows is =
    alike (has_identifier one) (has_named query) rows
    (λ row. sym (or_false (has_identifier one row)) ∙ ap (λ some. any_one some row) (sym (sole_is (asked query) one is)) ∙ asked_any query row)

-- ---- the loop of a merge

pub merge_more : (limit : ℕ) (places left right rest more whole : List ℕ) (place : ℕ) → length places < limit → next_place left right ≡ Some (place, rest, more)
    → places ++ merged (limit - length places) left right ≡ whole → (places ++ place ∷ []) ++ merged (limit - length (places ++ place ∷ [])) rest more ≡ whole
merge_more limit places left right rest more whole place below next is =
    let size : length (places ++ place ∷ []) ≡ suc (length places) = one_longer places place in
    let fewer : limit - length places ≡ suc (limit - length (places ++ place ∷ [])) = omega (arith, below, size) in
    append_assoc places (place ∷ []) (merged (limit - length (places ++ place ∷ [])) rest more)
    ∙ ap (λ o. places ++ merged_by (limit - length (places ++ place ∷ [])) o) (sym next)
    ∙ ap (λ n. places ++ merged n left right) (sym fewer) ∙ is
  where
    one_longer : (xs : List ℕ) (x : ℕ) → length (xs ++ x ∷ []) ≡ suc (length xs)
    one_longer [] x = refl
    one_longer (y ∷ xs) x = ap suc (one_longer xs x)

none_left : (n : ℕ) (left right : List ℕ) → next_place left right ≡ None → merged n left right ≡ []
none_left zero left right next = refl
none_left (suc n) left right next = ap (merged_by n) next

pub merge_done : (n : ℕ) (places left right whole : List ℕ) → next_place left right ≡ None → places ++ merged n left right ≡ whole → places ≡ whole
merge_done n places left right whole next is = sym (append-nil places) ∙ ap (λ l. places ++ l) (sym (none_left n left right next)) ∙ is

pub merge_full : (limit : ℕ) (places left right whole : List ℕ) → limit ≤ length places → places ++ merged (limit - length places) left right ≡ whole → places ≡ whole
merge_full limit places left right whole full is =
    let none : 0 ≡ limit - length places = omega (arith, full) in
    sym (append-nil places) ∙ ap (λ n. places ++ merged n left right) none ∙ is

-- a list alone
front_alone : (limit : ℕ) (places : List ℕ) → take limit places ≡ merged limit places []
front_alone zero places = refl
front_alone (suc n) [] = refl
front_alone (suc n) (place ∷ places) = ap (λ l. place ∷ l) (front_alone n places)

pub merge_none : (limit : ℕ) (places other : List ℕ) → length other ≡ 0 → take limit places ≡ merged limit places other
merge_none limit places [] none = front_alone limit places
merge_none limit places (place ∷ other) none = absurd (omega (arith, none))

-- a list whose first places are all before those of the other
before_first : (limit : ℕ) (places : List ℕ) (first : ℕ) (other : List ℕ) → limit ≤ length places → All (λ place. place < first) (take limit places)
    → take limit places ≡ merged limit places (first ∷ other)
before_first zero places first other long less = refl
before_first (suc n) [] first other long less = absurd (omega (arith, long))
before_first (suc n) (place ∷ places) first other long less =
    ap (λ l. place ∷ l) (before_first n places first other (omega (arith, long)) (All-tail (λ place. place < first) place (take n places) less))
    ∙ sym (ap (merged_by n) (first_next place places (first ∷ other) (All-head (λ place. place < first) place (take n places) less)))

pub merge_before : (limit : ℕ) (places other : List ℕ) → 0 < length other → limit ≤ length places → All (λ place. place < get_or other 0 0) (take limit places)
    → take limit places ≡ merged limit places other
merge_before limit places [] some long less = absurd (omega (arith, some))
merge_before limit places (first ∷ other) some long less = before_first limit places first other long less
