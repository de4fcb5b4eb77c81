-- The fields of a record that is read in pieces.
use Rattle.std.proofs.Common.{◌≡◌, ◌<◌, ◌+◌, ◌-◌, ◌∙◌, ℕ, zero, suc, List, [], ◌∷◌, ◌++◌, length, take, map, get_or, Bool, true, false, refl, sym, ap, arith, append_assoc, inl, inr}
use Rattle.std.proofs.Common.{Option, Some, None}
use Rattle.std.specs.Prelude.{nat_lt}
use Rattle.std.specs.List.{onto_first, slice_split}
use Rattle.std.proofs.lemmas.Bool.{cases_Bool}
use Rattle.std.proofs.lemmas.Bool.Decides.{nat_tests}
use Rattle.std.proofs.lemmas.List.{append-nil}
use Rattle.std.proofs.lemmas.List.Splits.{length-slice_split}
use Rattle.csv.specs.Records.{field_at}
use Rattle.feed_kbart.specs.Columns.{cell}
use Rattle.feed_text.specs.Records.{is_tab, lines_of, records_in}
use Rattle.feed_kbart.specs.Joined.{from_place, joined, joined_first, joined_from, onto_field}

onto-first : (b : ℕ) (fields : List (List ℕ)) → onto_field [] (onto_first b fields) ≡ onto_first b fields
onto-first b [] = refl
onto-first b (field ∷ fields) = refl

first-onto : (b : ℕ) (field : List ℕ) (more : List (List ℕ)) → onto_first b (onto_field field more) ≡ onto_field (b ∷ field) more
first-onto b field [] = refl
first-onto b field (next ∷ more) = refl

first-joined : (b : ℕ) (fields more : List (List ℕ)) → 0 < length fields → onto_first b (joined fields more) ≡ joined (onto_first b fields) more
first-joined b [] more some = absurd (omega (arith, some))
first-joined b (field ∷ []) more some = first-onto b field more
first-joined b (field ∷ next ∷ fields) more some = refl

next-joined : (fields more : List (List ℕ)) → 0 < length fields → [] ∷ joined fields more ≡ joined ([] ∷ fields) more
next-joined [] more some = absurd (omega (arith, some))
next-joined (field ∷ fields) more some = refl

module _ (p : ℕ → Bool) where
  pub onto-nothing : (text : List ℕ) → onto_field [] (slice_split p text) ≡ slice_split p text
  onto-nothing [] = refl
  onto-nothing (b ∷ text) = elim (cases_Bool (p b)) [
    | inl y ↦ rw y refl
    | inr n ↦ rw n (onto-first b (slice_split p text))
  ]

  pub some_field : (text : List ℕ) → 0 < length (slice_split p text)
  some_field text = omega (arith, length-slice_split p text)

  -- the law: the fields of a line that is cut anywhere
  pub split-joined : (a b : List ℕ) → slice_split p (a ++ b) ≡ joined (slice_split p a) (slice_split p b)
  split-joined [] b = sym (onto-nothing b)
  split-joined (x ∷ a) b = elim (cases_Bool (p x)) [
    | inl y ↦ rw y (ap (λ (l : List (List ℕ)). [] ∷ l) (split-joined a b) ∙ next-joined (slice_split p a) (slice_split p b) (some_field a))
    | inr n ↦ rw n (ap (onto_first x) (split-joined a b) ∙ first-joined x (slice_split p a) (slice_split p b) (some_field a))
  ]

length-from : (field : List ℕ) (fields more : List (List ℕ)) → 0 < length more → length (joined_from field fields more) ≡ length fields + length more
length-from field [] [] some = absurd (omega (arith, some))
length-from field [] (next ∷ more) some = omega arith
length-from field (next ∷ fields) more some = omega (arith, length-from next fields more some)

pub length-joined : (fields more : List (List ℕ)) → 0 < length fields → 0 < length more → length (joined fields more) + 1 ≡ length fields + length more
length-joined [] more some others = absurd (omega (arith, some))
length-joined (field ∷ fields) more some others = omega (arith, length-from field fields more others)

from-last : (field : List ℕ) (ended : List (List ℕ)) (last next : List ℕ) (more : List (List ℕ))
    → joined_from field (ended ++ last ∷ []) (next ∷ more) ≡ (field ∷ ended) ++ (last ++ next) ∷ more
from-last field [] last next more = refl
from-last field (other ∷ ended) last next more = ap (λ (l : List (List ℕ)). field ∷ l) (from-last other ended last next more)

-- the last field continues
pub joined-last : (ended : List (List ℕ)) (last next : List ℕ) (more : List (List ℕ)) → joined (ended ++ last ∷ []) (next ∷ more) ≡ ended ++ (last ++ next) ∷ more
joined-last [] last next more = refl
joined-last (field ∷ ended) last next more = from-last field ended last next more

-- the first field of others, joined to some
pub joined-one : (fields ended : List (List ℕ)) (last : List ℕ) (piece : List (List ℕ)) → fields ≡ ended ++ last ∷ [] → 0 < length piece
    → joined fields (take 1 piece) ≡ ended ++ (last ++ cell (Some 0) piece) ∷ []
unfolding field_at
joined-one fields ended last [] are some = absurd (omega (arith, some))
joined-one fields ended last (field ∷ piece) are some = rw are (joined-last ended last field [])

-- more fields come behind those that were joined
more-from : (field : List ℕ) (fields more others : List (List ℕ)) → 0 < length more → joined_from field fields (more ++ others) ≡ joined_from field fields more ++ others
more-from field [] [] others some = absurd (omega (arith, some))
more-from field [] (next ∷ more) others some = refl
more-from field (next ∷ fields) more others some = ap (λ (l : List (List ℕ)). field ∷ l) (more-from next fields more others some)

pub joined-more : (fields more others : List (List ℕ)) → 0 < length fields → 0 < length more → joined fields (more ++ others) ≡ joined fields more ++ others
joined-more [] more others some next = absurd (omega (arith, some))
joined-more (field ∷ fields) more others some next = more-from field fields more others next

-- the first fields, and the next
pub fields-next : (place : ℕ) (fields : List (List ℕ)) → place < length fields → take (place + 1) fields ≡ take place fields ++ cell (Some place) fields ∷ []
unfolding field_at
fields-next place [] within = absurd (omega (arith, within))
fields-next zero (field ∷ fields) within = refl
fields-next (suc place) (field ∷ fields) within =
    let next : suc place + 1 ≡ suc (place + 1) = omega arith in
    rw next (ap (λ (l : List (List ℕ)). field ∷ l) (fields-next place fields (omega (arith, within))))

before : (n : ℕ) → from_place (suc n) (Some 0) ≡ None
before n =
    let is : nat_lt 0 (suc n) ≡ true = grind (arith, nat_tests) in
    rw is refl

from-start : (k : ℕ) → from_place 0 (Some k) ≡ Some k
from-start k =
    let is : nat_lt k 0 ≡ false = grind (arith, nat_tests) in
    let same : k - 0 ≡ k = omega arith in
    rw (is, same) refl

from-next : (n k : ℕ) → from_place (suc n) (Some (suc k)) ≡ from_place n (Some k)
from-next n k =
    let same : suc k - suc n ≡ k - n = omega arith in
    elim (cases_Bool (nat_lt k n)) [
      | inl y ↦
          let is : nat_lt (suc k) (suc n) ≡ true = grind (arith, nat_tests) in
          rw (is, y) refl
      | inr m ↦
          let is : nat_lt (suc k) (suc n) ≡ false = grind (arith, nat_tests) in
          rw (is, m, same) refl
    ]

cell-from : (k : ℕ) (field : List ℕ) (fields more : List (List ℕ))
    → cell (Some k) (joined_from field fields more) ≡ cell (Some k) (field ∷ fields) ++ cell (from_place (length fields) (Some k)) more
unfolding field_at
cell-from zero field [] [] = sym (append-nil field)
cell-from zero field [] (next ∷ more) = refl
cell-from (suc k) field [] [] = rw (from-start (suc k)) refl
cell-from (suc k) field [] (next ∷ more) = rw (from-start (suc k)) refl
cell-from zero field (next ∷ fields) more = rw (before (length fields)) (sym (append-nil field))
cell-from (suc k) field (next ∷ fields) more =
    cell-from k next fields more ∙ ap (λ column. cell (Some k) (next ∷ fields) ++ cell column more) (sym (from-next (length fields) k))

-- a column has what it has before the cut, and what it has after it
cell-joined : (column : Option ℕ) (place : ℕ) (fields more : List (List ℕ)) → place + 1 ≡ length fields
    → cell column (joined fields more) ≡ cell column fields ++ cell (from_place place column) more
cell-joined None place fields more is = refl
cell-joined (Some k) place [] more is = absurd (omega (arith, is))
cell-joined (Some k) place (field ∷ fields) more is =
    let same : place ≡ length fields = omega (arith, is) in
    rw same (cell-from k field fields more)

pub cell-grown : (column : Option ℕ) (place : ℕ) (fields more : List (List ℕ)) (old new : List ℕ) → place + 1 ≡ length fields → old ≡ cell column fields
    → new ≡ old ++ cell (from_place place column) more → new ≡ cell column (joined fields more)
cell-grown column place fields more old new is was grown = grown ∙ ap (λ bytes. bytes ++ cell (from_place place column) more) was ∙ sym (cell-joined column place fields more is)

-- a record without bytes has one field, which is empty, before it continues
pub joined-none : (fields : List (List ℕ)) → 0 < length fields → joined ([] ∷ []) fields ≡ fields
joined-none [] some = absurd (omega (arith, some))
joined-none (field ∷ fields) some = refl

cons-joined : (field : List ℕ) (fields more : List (List ℕ)) → 0 < length fields → joined_from field fields more ≡ field ∷ joined fields more
cons-joined field [] more some = absurd (omega (arith, some))
cons-joined field (next ∷ fields) more some = refl

some-from : (field : List ℕ) (fields more : List (List ℕ)) → 0 < length (joined_from field fields more)
some-from field [] [] = omega arith
some-from field [] (next ∷ more) = omega arith
some-from field (next ∷ fields) more = omega arith

onto-from : (field next : List ℕ) (fields more : List (List ℕ)) → joined_from (field ++ next) fields more ≡ onto_field field (joined_from next fields more)
onto-from field next [] [] = refl
onto-from field next [] (other ∷ more) = ap (λ (l : List ℕ). l ∷ more) (append_assoc field next other)
onto-from field next (other ∷ fields) more = refl

from-assoc : (field : List ℕ) (fields more others : List (List ℕ)) → 0 < length more
    → joined (joined_from field fields more) others ≡ joined_from field fields (joined more others)
from-assoc field [] [] others some = absurd (omega (arith, some))
from-assoc field [] (next ∷ more) others some = onto-from field next more others
from-assoc field (next ∷ fields) more others some =
    cons-joined field (joined_from next fields more) others (some-from next fields more) ∙ ap (λ (l : List (List ℕ)). field ∷ l) (from-assoc next fields more others some)

joined_assoc : (fields more others : List (List ℕ)) → 0 < length more → joined (joined fields more) others ≡ joined fields (joined more others)
joined_assoc [] more others some = refl
joined_assoc (field ∷ fields) more others some = from-assoc field fields more others some

-- the first of some records
pub first-twice : (begun fields : List (List ℕ)) (records : List (List (List ℕ))) → 0 < length fields
    → joined_first begun (joined_first fields records) ≡ joined_first (joined begun fields) records
first-twice begun fields [] some = refl
first-twice begun fields (next ∷ records) some = ap (λ (l : List (List ℕ)). l ∷ records) (sym (joined_assoc begun fields next some))

pub first-append : (begun : List (List ℕ)) (front back : List (List (List ℕ))) → 0 < length front → joined_first begun (front ++ back) ≡ joined_first begun front ++ back
first-append begun [] back some = absurd (omega (arith, some))
first-append begun (fields ∷ front) back some = refl

pub length-first : (begun : List (List ℕ)) (records : List (List (List ℕ))) → length (joined_first begun records) ≡ length records
length-first begun [] = refl
length-first begun (fields ∷ records) = refl

pub first-none : (text : List ℕ) → joined_first ([] ∷ []) (records_in text) ≡ records_in text
first-none text = go (lines_of text)
  where
    go : (lines : List (List ℕ)) → joined_first ([] ∷ []) (map (slice_split is_tab) lines) ≡ map (slice_split is_tab) lines
    go [] = refl
    go (line ∷ lines) = ap (λ (l : List (List ℕ)). l ∷ map (slice_split is_tab) lines) (onto-nothing is_tab line)

-- a record has a field
pub some_fields : (text : List ℕ) (fields : List (List ℕ)) (others : List (List (List ℕ))) → records_in text ≡ fields ∷ others → 0 < length fields
some_fields text fields others = go (lines_of text)
  where
    go : (lines : List (List ℕ)) → map (slice_split is_tab) lines ≡ fields ∷ others → 0 < length fields
    go [] are = absurd (omega (arith, ap length are))
    go (line ∷ lines) are = rw (ap (λ records. get_or records 0 []) are) at (some_field is_tab line)
