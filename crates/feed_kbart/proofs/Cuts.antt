-- A text that is cut before a line end: its records are those of both parts.
use Rattle.std.proofs.Common.{◌≡◌, ◌≤◌, ◌<◌, ◌+◌, ℕ, List, [], ◌∷◌, ◌++◌, length, Bool, true, false, refl, sym, ap, arith, inl, inr, ◌∙◌}
use Rattle.std.specs.Prelude.{◌==◌}
use Rattle.std.specs.List.{slice_split, onto_first, filter}
use Rattle.std.proofs.lemmas.Bool.{cases_Bool, eqb-true, true≢false}
use Rattle.std.proofs.lemmas.List.{length-drop, length-map, map-append}
use Rattle.std.proofs.lemmas.List.Elements.{filter-append}
use Rattle.std.proofs.lemmas.List.Splits.{length-slice_split}
use Rattle.feed_text.specs.Records.{drop_mark, ends_line, has_mark, is_nonempty, is_tab, lines_of, records_in, records_of}
use Rattle.feed_kbart.specs.Windows.{IsCut, begins_with_end}

pub length-drop_mark : (text : List ℕ) → length (drop_mark text) ≤ length text
length-drop_mark text = elim (cases_Bool (has_mark text)) [
  | inl e ↦ rw e (omega (arith, length-drop 3 text))
  | inr e ↦ rw e (omega arith)
]

onto_first-append : (x : ℕ) (ps qs : List (List ℕ)) → 0 < length ps → onto_first x (ps ++ qs) ≡ onto_first x ps ++ qs
onto_first-append x [] qs some = absurd (omega (arith, some))
onto_first-append x (p ∷ ps) qs some = refl

-- where an element passes, the parts are those before it and those after it
slice_split-append : (p : ℕ → Bool) (a : List ℕ) (e : ℕ) (b : List ℕ) → p e ≡ true → slice_split p (a ++ e ∷ b) ≡ slice_split p a ++ slice_split p b
slice_split-append p [] e b is = rw is refl
slice_split-append p (x ∷ a) e b is = elim (cases_Bool (p x)) [
  | inl y ↦ rw y (ap (λ l. [] ∷ l) (slice_split-append p a e b is))
  | inr n ↦ rw n (ap (onto_first x) (slice_split-append p a e b is) ∙ onto_first-append x (slice_split p a) (slice_split p b) (omega (arith, length-slice_split p a)))
]

-- the law: the records of a text that is cut before a line end are those of both parts
pub records_in-append : (a b : List ℕ) → begins_with_end b ≡ true → records_in (a ++ b) ≡ records_in a ++ records_in b
records_in-append a [] is = absurd (true≢false (sym is))
records_in-append a (e ∷ b) is =
    rw (slice_split-append ends_line a e b is, is, filter-append is_nonempty (slice_split ends_line a) (slice_split ends_line b))
    (map-append (slice_split is_tab) (lines_of a) (lines_of b))

-- no byte of the mark ends a line
not_mark : (e : ℕ) → ends_line e ≡ true → ((0xEF == e) ≡ false) × ((0xBB == e) ≡ false) × ((0xBF == e) ≡ false)
not_mark e is = elim (cases_Bool (e == 13)) [
  | inl cr ↦ rw (eqb-true e 13 cr) (refl, refl, refl)
  | inr not_cr ↦ let lf : (e == 10) ≡ true = rw not_cr at is in rw (eqb-true e 10 lf) (refl, refl, refl)
]

pub drop_mark-end : (b : List ℕ) → begins_with_end b ≡ true → drop_mark b ≡ b
drop_mark-end [] is = refl
drop_mark-end (e ∷ b) is = rw (not_mark e is).0 refl

drop_mark-append : (a b : List ℕ) → begins_with_end b ≡ true → drop_mark (a ++ b) ≡ drop_mark a ++ b
drop_mark-append a [] is = absurd (true≢false (sym is))
drop_mark-append [] (e ∷ b) is = drop_mark-end (e ∷ b) is
drop_mark-append (x ∷ []) (e ∷ b) is = elim (cases_Bool (0xEF == x)) [
  | inl y ↦ rw (y, (not_mark e is).1) refl
  | inr n ↦ rw n refl
]
drop_mark-append (x ∷ y ∷ []) (e ∷ b) is = elim (cases_Bool (0xEF == x)) [
  | inl f ↦ elim (cases_Bool (0xBB == y)) [ inl g ↦ rw (f, g, (not_mark e is).2) refl | inr g ↦ rw (f, g) refl ]
  | inr f ↦ rw f refl
]
drop_mark-append (x ∷ y ∷ z ∷ a) (e ∷ b) is = elim (cases_Bool (has_mark (x ∷ y ∷ z ∷ []))) [
  | inl f ↦ rw f refl
  | inr f ↦ rw f refl
]

-- the same, of a file: only its first part may begin with a mark
pub records_of-append : (a b : List ℕ) → IsCut a b → records_of (a ++ b) ≡ records_of a ++ records_of b
records_of-append a b cut = elim cut [
  | inl none ↦ rw none refl
  | inr end ↦ rw (drop_mark-append a b end, drop_mark-end b end) (records_in-append (drop_mark a) b end)
]

lines-first : (x : ℕ) (ps : List (List ℕ)) → length (filter is_nonempty (onto_first x ps)) ≤ length (filter is_nonempty ps) + 1
lines-first x [] = omega arith
lines-first x ([] ∷ ps) = omega arith
lines-first x ((b ∷ p) ∷ ps) = omega arith

length-lines_of : (text : List ℕ) → length (lines_of text) ≤ length text
length-lines_of [] = omega arith
length-lines_of (x ∷ text) = elim (cases_Bool (ends_line x)) [
  | inl y ↦ rw y (omega (arith, length-lines_of text))
  | inr n ↦ rw n (omega (arith, lines-first x (slice_split ends_line text), length-lines_of text))
]

-- a record has a byte at least
pub length-records_in : (text : List ℕ) → length (records_in text) ≤ length text
length-records_in text = rw (length-map (lines_of text) (slice_split is_tab)) (length-lines_of text)

pub length-records_of : (text : List ℕ) → length (records_of text) ≤ length text
length-records_of text = omega (arith, length-records_in (drop_mark text), length-drop_mark text)

pub begins-append : (a b : List ℕ) → begins_with_end a ≡ true → begins_with_end (a ++ b) ≡ true
begins-append [] b is = absurd (true≢false (sym is))
begins-append (e ∷ a) b is = is
