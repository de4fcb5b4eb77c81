-- Entries in the order of their keys have the places of each number in file order.
use Rattle.std.proofs.Common.{◌≡◌, ◌<◌, ◌≤◌, ◌+◌, ◌*◌, ◌-◌, ◌∙◌, ℕ, suc, true, false, eqb, ltb, if◌then◌else◌, List, [], ◌∷◌, ◌++◌}
use Rattle.std.proofs.Common.{map, length, get_or, refl, sym, ap, arith}
use Rattle.std.specs.List.{filter, sum_by}
use Rattle.std.specs.List.Sorted.{IsNonDecreasingBy}
use Rattle.std.proofs.lemmas.Bool.Decides.{nat_tests}
use Rattle.std.proofs.lemmas.List.Sums.{get_or-le-sum_by, sum_by-append, sum_by-cons}
use Rattle.feed_kbart.specs.Entries.{AreSorted, key_of}
use Rattle.feed_kbart.specs.Identifiers.{numbers}
use Rattle.feed_kbart.specs.Index.{each_once, entries_from, entries_of}
use Rattle.feed_kbart.specs.RowValue.{RowValue}
use Rattle.feed_kbart.specs.declared.entry.Entry.{Entry}

-- the places of the entries with a number
abbrev pub placed : ℕ → List Entry → List ℕ
placed n entries = map (λ e. e.place) (filter (λ e. eqb e.number n) entries)

abbrev pub numbered : ℕ → List ℕ → List Entry
numbered place numbers = map (λ number. record { number = number; place = place }) numbers

-- numbers that ascend, the first of them not below this one
abbrev Rises : ℕ → List ℕ → Type 0
Rises low [] = Unit {0}
Rises low (x ∷ xs) = (low ≤ x) × Rises x xs

-- how often a number is in a list
abbrev times : ℕ → List ℕ → ℕ
times v [] = 0
times v (x ∷ xs) = (if eqb x v then 1 else 0) + times v xs

itself : (n : ℕ) → eqb n n ≡ true
itself n = grind (arith, nat_tests)

above : (low v x : ℕ) → low ≤ x → v < low → eqb x v ≡ false
above low v x h g = grind (arith, nat_tests)

neither : (x y : ℕ) → (x < y → ⊥) → (y < x → ⊥) → x ≡ y
neither x y f g = elim (ltb x y) as (λ b. ltb x y ≡ b → x ≡ y) [
  | true ↦ λ e. absurd (f (grind (arith, nat_tests)))
  | false ↦ λ e. elim (ltb y x) as (λ b. ltb y x ≡ b → x ≡ y) [
    | true ↦ λ h. absurd (g (grind (arith, nat_tests)))
    | false ↦ λ h. grind (arith, nat_tests)
  ] refl
] refl

once : (x : ℕ) (xs : List ℕ) → 0 < times x (x ∷ xs)
once x xs = rw (itself x) (omega arith)

none_below : (low v : ℕ) (xs : List ℕ) → Rises low xs → v < low → times v xs ≡ 0
none_below low v [] up h = refl
none_below low v (x ∷ xs) up h =
    let others = none_below x v xs up.1 (omega (arith, up.0, h)) in
    rw (above low v x up.0 h) (omega (arith, others))

not_before : (x y : ℕ) (xs ys : List ℕ) → Rises y ys → ((v : ℕ) → times v (x ∷ xs) ≡ times v (y ∷ ys)) → x < y → ⊥
not_before x y xs ys up same h =
    let none = none_below y x (y ∷ ys) (omega arith, up) h in
    absurd (omega (arith, once x xs, same x, none))

others_same : (x : ℕ) (xs ys : List ℕ) → ((v : ℕ) → times v (x ∷ xs) ≡ times v (x ∷ ys)) → (v : ℕ) → times v xs ≡ times v ys
others_same x xs ys same v = omega (arith, same v)

-- two lists that ascend and have the same numbers are the same
same_rising : (low : ℕ) (xs ys : List ℕ) → Rises low xs → Rises low ys → ((v : ℕ) → times v xs ≡ times v ys) → xs ≡ ys
same_rising low [] [] p q same = refl
same_rising low [] (y ∷ ys) p q same = absurd (omega (arith, once y ys, same y))
same_rising low (x ∷ xs) [] p q same = absurd (omega (arith, once x xs, same x))
same_rising low (x ∷ xs) (y ∷ ys) p q same =
    let first : x ≡ y = neither x y (not_before x y xs ys q.1 same) (not_before y x ys xs p.1 (λ v. sym (same v))) in
    let alike = rw first at same in
    let up = rw first at p.1 in
    rw (first, same_rising y xs ys up q.1 (others_same y xs ys alike)) refl

-- how often a place is beside a number
abbrev hit : ℕ → ℕ → Entry → ℕ
hit n v e = if eqb e.number n then (if eqb e.place v then 1 else 0) else 0

times_placed : (n v : ℕ) (es : List Entry) → times v (placed n es) ≡ sum_by (hit n v) es
times_placed n v [] = refl
times_placed n v (e ∷ es) = elim (eqb e.number n) as (λ b. eqb e.number n ≡ b → times v (placed n (e ∷ es)) ≡ sum_by (hit n v) (e ∷ es)) [
  | true ↦ λ h. rw (sum_by-cons (hit n v) e es, h) (ap (λ k. (if eqb e.place v then 1 else 0) + k) (times_placed n v es))
  | false ↦ λ h. rw (sum_by-cons (hit n v) e es, h) (omega (arith, times_placed n v es))
] refl

-- entries whose keys ascend, the first of them not below this one
abbrev Ascends : ℕ → List Entry → Type 0
Ascends low [] = Unit {0}
Ascends low (e ∷ es) = (low ≤ key_of e) × Ascends (key_of e) es

ascends : (low : ℕ) (es : List Entry) → IsNonDecreasingBy key_of es → ((d : Entry) → 0 < length es → low ≤ key_of (get_or es 0 d)) → Ascends low es
ascends low [] up first = tt
ascends low (e ∷ es) up first = (
  first e (omega arith),
  ascends (key_of e) es (λ i j d h g. up (suc i) (suc j) d (omega (arith, h)) (omega (arith, g))) (λ d h. up 0 1 d (omega arith) (omega (arith, h))),
)

placed_rise : (n low k : ℕ) (es : List Entry) → Ascends k es → low ≤ k - n * 4294967296 → Rises low (placed n es)
placed_rise n low k [] up h = tt
placed_rise n low k (e ∷ es) up h = elim (eqb e.number n) as (λ b. eqb e.number n ≡ b → Rises low (placed n (e ∷ es))) [
  | true ↦ λ t.
      let same : e.number ≡ n = grind (arith, nat_tests) in
      rw t (omega (arith, same, up.0, h), placed_rise n e.place (key_of e) es up.1 (omega (arith, same)))
  | false ↦ λ t. rw t (placed_rise n low (key_of e) es up.1 (omega (arith, up.0, h)))
] refl

-- the entries of rows have the places of a number in file order
rise_from : (low lower : ℕ) (xs : List ℕ) → lower ≤ low → Rises low xs → Rises lower xs
rise_from low lower [] h up = tt
rise_from low lower (x ∷ xs) h up = (omega (arith, h, up.0), up.1)

numbered_rise : (n place : ℕ) (own : List ℕ) (more : List Entry) → Rises place (placed n more) → Rises place (placed n (numbered place own ++ more))
numbered_rise n place [] more up = up
numbered_rise n place (m ∷ own) more up = elim (eqb m n) as (λ b. eqb m n ≡ b → Rises place (placed n (numbered place (m ∷ own) ++ more))) [
  | true ↦ λ t. rw t (omega arith, numbered_rise n place own more up)
  | false ↦ λ t. rw t (numbered_rise n place own more up)
] refl

entries_rise : (n place : ℕ) (rows : List RowValue) → Rises place (placed n (entries_from place rows))
entries_rise n place [] = tt
entries_rise n place (row ∷ rows) =
    let own = numbers row.identifiers in
    numbered_rise n place (each_once own.0 own.1) (entries_from (place + 1) rows) (rise_from (place + 1) place _ (omega arith) (entries_rise n (place + 1) rows))

-- so do the same entries in the order of their keys
pub in_file_order : (n : ℕ) (rows : List RowValue) (sorted : List Entry) → ((weight : Entry → ℕ) → sum_by weight sorted ≡ sum_by weight (entries_from 0 rows))
    → AreSorted sorted → placed n sorted ≡ placed n (entries_from 0 rows)
in_file_order n rows sorted same up =
    let entries = entries_from 0 rows in
    same_rising 0 (placed n sorted) (placed n entries) (placed_rise n 0 0 sorted (ascends 0 sorted up (λ d h. omega arith)) (omega arith)) (entries_rise n 0 rows)
    (λ v. times_placed n v sorted ∙ same (hit n v) ∙ sym (times_placed n v entries))

-- a place has 32 bits, so the numbers ascend as the keys do
abbrev far : Entry → ℕ
far e = if ltb e.place 4294967296 then 0 else 1

near : (place : ℕ) → place < 4294967296 → ltb place 4294967296 ≡ true
near place h = grind (arith, nat_tests)

numbered_near : (place : ℕ) (own : List ℕ) → place < 4294967296 → sum_by far (numbered place own) ≡ 0
numbered_near place [] h = refl
numbered_near place (m ∷ own) h =
    let e : Entry = record { number = m; place = place } in
    sum_by-cons far e (numbered place own) ∙ rw (near place h) (omega (arith, numbered_near place own h))

entries_near : (place : ℕ) (rows : List RowValue) → place + length rows ≤ 4294967296 → sum_by far (entries_from place rows) ≡ 0
entries_near place [] h = refl
entries_near place (row ∷ rows) h =
    let own = numbers row.identifiers in
    omega (
      arith,
      sum_by-append far (entries_of place row.identifiers) (entries_from (place + 1) rows),
      numbered_near place (each_once own.0 own.1) (omega (arith, h)),
      entries_near (place + 1) rows (omega (arith, h)),
    )

not_far : (e : Entry) → far e ≤ 0 → e.place < 4294967296
not_far e h = elim (ltb e.place 4294967296) as (λ b. ltb e.place 4294967296 ≡ b → e.place < 4294967296) [
  | true ↦ λ t. grind (arith, nat_tests)
  | false ↦ λ t. absurd (omega (arith, rw t at h))
] refl

number_first : (m n p q : ℕ) → m * 4294967296 + p ≤ n * 4294967296 + q → q < 4294967296 → m ≤ n
number_first m n p q h g = omega (arith, h, g)

pub numbers_ascend : (rows : List RowValue) (sorted : List Entry) → length rows ≤ 4294967296
    → ((weight : Entry → ℕ) → sum_by weight sorted ≡ sum_by weight (entries_from 0 rows)) → AreSorted sorted → IsNonDecreasingBy (λ e. e.number) sorted
numbers_ascend rows sorted few same up i j d h g =
    let one = get_or sorted i d in
    let other = get_or sorted j d in
    number_first one.number other.number one.place other.place (up i j d h g)
    (not_far other (omega (arith, get_or-le-sum_by far sorted j d g, same far, entries_near 0 rows (omega (arith, few)))))
