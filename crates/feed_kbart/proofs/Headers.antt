-- The labels among the fields of a header, field by field.
use Rattle.std.proofs.Common.{◌≡◌, ◌+◌, ℕ, suc, List, [], ◌∷◌, ◌++◌, length, Some, None, refl, sym, ap, arith, Bool, true, false, cond, ◌∙◌, Option, inl, inr, take, drop, fold, replicate, set}
use Rattle.std.specs.Prelude.{◌==◌, is_none, is_some, map, nat_lt, find, option_map}
use Rattle.std.specs.List.{count_by, position_from}
use Rattle.std.specs.Option.{option_or}
use Rattle.std.proofs.lemmas.Bool.{cases_Bool, eqb-true}
use Rattle.std.proofs.lemmas.Bool.Decides.{nat_tests}
use Rattle.std.proofs.lemmas.List.Sums.{sum_by-append, sum_by-cons}
use Rattle.feed_bytes.specs.Trim.{trimmed}
use Rattle.feed_kbart.specs.Columns.{column, is_twice}
use Rattle.feed_kbart.specs.HeaderLabels.{AreLabelsOf, found_of, with_field}
use Rattle.feed_kbart.specs.Labels.{is_label, label_count, slot, used_labels}
use Rattle.feed_kbart.specs.declared.header.Found.{Found}
use Rattle.feed_kbart.specs.declared.header.HeaderLabels.{HeaderLabels}
use Rattle.feed_kbart.specs.declared.label.Label.{Label}
use Rattle.feed_kbart.proofs.Labels.{empty-label}

position-append : (test : List ℕ → Bool) (i : ℕ) (fields : List (List ℕ)) (f : List ℕ)
    → position_from test i (fields ++ f ∷ []) ≡ option_or (position_from test i fields) (cond (test f) (Some (i + length fields)) None)
position-append test i [] f = let same : i + 0 ≡ i = omega arith in rw same refl
position-append test i (g ∷ fields) f = elim (cases_Bool (test g)) [
  | inl y ↦ rw y refl
  | inr n ↦ let same : i + suc (length fields) ≡ (i + 1) + length fields = omega arith in rw (n, same) (position-append test (i + 1) fields f)
]

column-append : (test : List ℕ → Bool) (fields : List (List ℕ)) (f : List ℕ)
    → position_from test 0 (fields ++ f ∷ []) ≡ option_or (position_from test 0 fields) (cond (test f) (Some (length fields)) None)
column-append test fields f = let same : 0 + length fields ≡ length fields = omega arith in rw same at (position-append test 0 fields f)

count-append : (test : List ℕ → Bool) (fields : List (List ℕ)) (f : List ℕ)
    → count_by test (fields ++ f ∷ []) ≡ count_by test fields + cond (test f) 1 0
count-append test fields f = omega (arith, sum_by-append (λ (x : List ℕ). cond (test x) 1 0) fields (f ∷ []))

count-cons : (test : List ℕ → Bool) (g : List ℕ) (fields : List (List ℕ)) → count_by test (g ∷ fields) ≡ cond (test g) 1 0 + count_by test fields
count-cons test g fields = sum_by-cons (λ (x : List ℕ). cond (test x) 1 0) g fields

positive : (n k : ℕ) → n ≡ k + 1 → nat_lt 0 n ≡ true
positive n k e = grind (arith, nat_tests)

once_more : (n m : ℕ) → m ≡ n + 1 → nat_lt 0 n ≡ nat_lt 1 m
once_more n m e = elim (cases_Bool (nat_lt 0 n)) [
  | inl y ↦ grind (arith, nat_tests)
  | inr k ↦ grind (arith, nat_tests)
]

-- a field passes exactly if there is a first one
some-counted : (test : List ℕ → Bool) (i : ℕ) (fields : List (List ℕ)) → is_some (position_from test i fields) ≡ nat_lt 0 (count_by test fields)
some-counted test i [] = refl
some-counted test i (g ∷ fields) = elim (cases_Bool (test g)) [
  | inl y ↦
      let more : count_by test (g ∷ fields) ≡ 1 + count_by test fields = count-cons test g fields ∙ ap (λ b. cond b 1 0 + count_by test fields) y in
      ap (λ b. is_some (cond b (Some i) (position_from test (i + 1) fields))) y
      ∙ sym (positive (count_by test (g ∷ fields)) (count_by test fields) (omega (arith, more)))
  | inr n ↦
      let more : count_by test (g ∷ fields) ≡ 0 + count_by test fields = count-cons test g fields ∙ ap (λ b. cond b 1 0 + count_by test fields) n in
      let same : count_by test (g ∷ fields) ≡ count_by test fields = omega (arith, more) in
      ap (λ b. is_some (cond b (Some i) (position_from test (i + 1) fields))) n ∙ some-counted test (i + 1) fields ∙ ap (nat_lt 0) (sym same)
]

next-twice : (test : List ℕ → Bool) (fields : List (List ℕ)) (f : List ℕ) → test f ≡ true
    → is_some (position_from test 0 fields) ≡ nat_lt 1 (count_by test (fields ++ f ∷ []))
next-twice test fields f is =
    let more : count_by test (fields ++ f ∷ []) ≡ count_by test fields + 1 = count-append test fields f ∙ ap (λ b. count_by test fields + cond b 1 0) is in
    some-counted test 0 fields ∙ once_more (count_by test fields) (count_by test (fields ++ f ∷ [])) more

same-twice : (test : List ℕ → Bool) (fields : List (List ℕ)) (f : List ℕ) → test f ≡ false → count_by test (fields ++ f ∷ []) ≡ count_by test fields
same-twice test fields f is =
    let more : count_by test (fields ++ f ∷ []) ≡ count_by test fields + 0 = count-append test fields f ∙ ap (λ b. count_by test fields + cond b 1 0) is in
    omega (arith, more)

or_none : (o : Option ℕ) → option_or o None ≡ o
or_none None = refl
or_none (Some x) = refl

-- one more field
found-more : (header : List (List ℕ)) (field : List ℕ) (l : Label) → with_field (length header) field (found_of header l) ≡ found_of (header ++ field ∷ []) l
found-more header field l = elim (cases_Bool (is_label l field)) [
  | inl y ↦
      let place : column l (header ++ field ∷ []) ≡ option_or (column l header) (Some (length header)) =
      column-append (is_label l) header field ∙ ap (λ b. option_or (column l header) (cond b (Some (length header)) None)) y in
      rw (y, place, ← next-twice (is_label l) header field y) refl
  | inr n ↦
      let place : column l (header ++ field ∷ []) ≡ column l header =
      column-append (is_label l) header field ∙ ap (λ b. option_or (column l header) (cond b (Some (length header)) None)) n ∙ or_none (column l header) in
      rw (n, place, same-twice (is_label l) header field n) refl
]

all-more : (header : List (List ℕ)) (field : List ℕ) (ls : List Label)
    → map (with_field (length header) field) (map (found_of header) ls) ≡ map (found_of (header ++ field ∷ [])) ls
all-more header field [] = refl
all-more header field (l ∷ ls) =
    ap (λ (x : Found). x ∷ map (with_field (length header) field) (map (found_of header) ls)) (found-more header field l)
    ∙ ap (λ (xs : List Found). found_of (header ++ field ∷ []) l ∷ xs) (all-more header field ls)

pub labels-more : (header : List (List ℕ)) (field : List ℕ) (place count : ℕ) (was now : HeaderLabels) → length header ≡ place → count ≡ label_count
    → now.found ≡ map (with_field place field) (take count was.found) ++ drop count was.found → AreLabelsOf header was
    → AreLabelsOf (header ++ field ∷ []) now
labels-more header field place count was now here all is labels =
    let whole : now.found ≡ map (with_field (length header) field) (map (found_of header) used_labels) = rw (all, labels.found, ← here) at is in
    record { found = whole ∙ all-more header field used_labels }

-- a field with spaces alone is not a label
blank-label : (field : List ℕ) (l : Label) → trimmed field ≡ [] → is_label l field ≡ false
blank-label field l blank = rw blank (empty-label l)

all-blank : (header : List (List ℕ)) (field : List ℕ) (ls : List Label) → trimmed field ≡ []
    → map (with_field (length header) field) (map (found_of header) ls) ≡ map (found_of header) ls
all-blank header field [] blank = refl
all-blank header field (l ∷ ls) blank =
    let same : with_field (length header) field (found_of header l) ≡ found_of header l = rw (blank-label field l blank) refl in
    ap (λ (x : Found). x ∷ map (with_field (length header) field) (map (found_of header) ls)) same
    ∙ ap (λ (xs : List Found). found_of header l ∷ xs) (all-blank header field ls blank)

pub labels-blank : (header : List (List ℕ)) (field : List ℕ) (labels : HeaderLabels) → trimmed field ≡ [] → AreLabelsOf header labels
    → AreLabelsOf (header ++ field ∷ []) labels
labels-blank header field labels blank is =
    record { found = is.found ∙ sym (all-blank header field used_labels blank) ∙ all-more header field used_labels }

-- a text of no bytes
pub nil_of : (text : List ℕ) → (length text == 0) ≡ true → text ≡ []
nil_of [] e = refl
nil_of (b ∷ text) e = absurd (omega (arith, eqb-true (suc (length text)) 0 e))

-- the first label that no field is
pub missing-found : (header : List (List ℕ)) (ls : List Label)
    → option_map (λ (f : Found). f.label) (find (λ (f : Found). is_none f.first) (map (found_of header) ls)) ≡ find (λ l. is_none (column l header)) ls
missing-found header [] = refl
missing-found header (l ∷ ls) = elim (cases_Bool (is_none (column l header))) [
  | inl y ↦ rw y refl
  | inr n ↦ rw n (missing-found header ls)
]

-- the first label that two fields are
pub twice-found : (header : List (List ℕ)) (ls : List Label)
    → option_map (λ (f : Found). f.label) (find (λ (f : Found). f.is_twice) (map (found_of header) ls)) ≡ find (is_twice header) ls
twice-found header [] = refl
twice-found header (l ∷ ls) = elim (cases_Bool (is_twice header l)) [
  | inl y ↦ rw y refl
  | inr n ↦ rw n (twice-found header ls)
]

-- what was found of labels, each in the slot of its label
abbrev pub columns_found : List Found → List (Option ℕ)
columns_found found = fold (λ columns (f : Found). set columns (slot f.label) f.first) (replicate label_count None) found
