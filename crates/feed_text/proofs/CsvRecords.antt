-- `csv` reads exactly the records of a text.
use Rattle.std.proofs.Common.{◌≡◌, ◌≤◌, ◌<◌, ℕ, List, [], ◌∷◌, ◌++◌, length, Option, Some, None, true}
use Rattle.std.proofs.Common.{false, refl, sym, ap, arith, eq-eqb, inl, inr, ◌∙◌, append_assoc, Bool, ◌||◌}
use Rattle.std.specs.Prelude.{◌==◌, ◌&&◌, if◌then◌else◌, ◌⊎◌, option_map}
use Rattle.std.specs.List.{slice_split, onto_first, filter}
use Rattle.std.proofs.lemmas.Bool.{cases_Bool, eqb-true, true≢false}
use Rattle.std.proofs.lemmas.List.{append-nil}
use Rattle.csv.specs.Machine.{Read, next_record, step, in_field, after_end, ends_at_end}
use Rattle.csv.specs.Reading.{strip_bom, source_of, pending_of, NextIs, ReadRecord, ReadsNext}
use Rattle.csv.specs.declared.reader.Reader.{Reader}
use Rattle.csv.specs.declared.parser.State.{State}
use Rattle.csv.specs.declared.parser.State.TheVariants as st
use Rattle.csv.specs.declared.parser.Action.TheVariants as act
use Rattle.csv.specs.declared.parser.Terminator.TheVariants as term
use Rattle.feed_text.specs.Reader.{HasLeft, IsNextRecord, IsStart, tabs}
use Rattle.feed_text.specs.Records.{drop_mark, ends_line, is_tab, is_nonempty, lines_of, records_in}

-- a test of equality reads in both directions
eqb-comm : (a b : ℕ) → (a == b) ≡ (b == a)
eqb-comm a b = elim (cases_Bool (a == b)) [
  | inl e ↦ rw (eqb-true a b e) refl
  | inr n ↦ elim (cases_Bool (b == a)) [
    | inl e ↦ absurd (true≢false (sym (eq-eqb a b (sym (eqb-true b a e))) ∙ n))
    | inr m ↦ n ∙ sym m
  ]
]

choose-three : (p q r : Bool) (some other : List ℕ) → (if (p && q) && r then some else other) ≡ (if p && (q && (r && true)) then some else other)
choose-three true true true some other = refl
choose-three true true false some other = refl
choose-three true false r some other = refl
choose-three false q r some other = refl

drop_mark-strip : (text : List ℕ) → strip_bom text ≡ drop_mark text
unfolding strip_bom
drop_mark-strip [] = refl
drop_mark-strip (a ∷ []) = elim (cases_Bool (0xEF == a)) [ inl e ↦ rw e refl | inr e ↦ rw e refl ]
drop_mark-strip (a ∷ b ∷ []) = elim (cases_Bool (0xEF == a)) [
  | inl e ↦ elim (cases_Bool (0xBB == b)) [ inl f ↦ rw (e, f) refl | inr f ↦ rw (e, f) refl ]
  | inr e ↦ rw e refl
]
drop_mark-strip (a ∷ b ∷ c ∷ rest) =
    rw (eqb-comm a 0xEF, eqb-comm b 0xBB, eqb-comm c 0xBF) (choose-three (0xEF == a) (0xBB == b) (0xBF == c) rest (a ∷ b ∷ c ∷ rest))

pub drop_marks : (o : Option (List ℕ)) → option_map strip_bom o ≡ option_map drop_mark o
drop_marks None = refl
drop_marks (Some text) = ap Some (drop_mark-strip text)

-- inside a record
abbrev pub IsWithin : State → Type 0
IsWithin s = (s ≡ st.StartField) ⊎ (s ≡ st.InField)

within-step : (s : State) (c : ℕ) → IsWithin s → step tabs s c ≡ in_field tabs c
within-step s c w = elim w [ inl e ↦ rw e refl | inr e ↦ rw e refl ]

within-end : (s : State) → IsWithin s → ends_at_end s ≡ true
within-end s w = elim w [ inl e ↦ rw e refl | inr e ↦ rw e refl ]

-- one step of reading a record, by its action
next-copy : (s s2 : State) (fields : List (List ℕ)) (field : List ℕ) (c : ℕ) (rest : List ℕ) → step tabs s c ≡ (s2, act.Copy)
    → next_record tabs s fields field (c ∷ rest) ≡ next_record tabs s2 fields (field ++ (c ∷ [])) rest
unfolding next_record
next-copy s s2 fields field c rest e = rw e refl

next-field : (s s2 : State) (fields : List (List ℕ)) (field : List ℕ) (c : ℕ) (rest : List ℕ) → step tabs s c ≡ (s2, act.EndField)
    → next_record tabs s fields field (c ∷ rest) ≡ next_record tabs s2 (fields ++ (field ∷ [])) [] rest
unfolding next_record
next-field s s2 fields field c rest e = rw e refl

next-skip : (s s2 : State) (fields : List (List ℕ)) (field : List ℕ) (c : ℕ) (rest : List ℕ) → step tabs s c ≡ (s2, act.Skip)
    → next_record tabs s fields field (c ∷ rest) ≡ next_record tabs s2 fields field rest
unfolding next_record
next-skip s s2 fields field c rest e = rw e refl

next-end : (s s2 : State) (fields : List (List ℕ)) (field : List ℕ) (c : ℕ) (rest : List ℕ) → step tabs s c ≡ (s2, act.EndRecord)
    → next_record tabs s fields field (c ∷ rest) ≡ Some (fields ++ (field ∷ []), s2, rest)
unfolding next_record
next-end s s2 fields field c rest e = rw e refl

next-nil : (s : State) (fields : List (List ℕ)) (field : List ℕ) → ends_at_end s ≡ true
    → next_record tabs s fields field [] ≡ Some (fields ++ (field ∷ []), st.StartRecord, [])
unfolding next_record
next-nil s fields field e = rw e refl

-- the first piece, and those after it
abbrev pub head_piece : List (List ℕ) → List ℕ
head_piece [] = []
head_piece (piece ∷ pieces) = piece

abbrev pub tail_pieces : List (List ℕ) → List (List ℕ)
tail_pieces [] = []
tail_pieces (piece ∷ pieces) = pieces

-- prepends bytes to the first piece
abbrev pub onto_all : List ℕ → List (List ℕ) → List (List ℕ)
onto_all front [] = front ∷ []
onto_all front (piece ∷ pieces) = (front ++ piece) ∷ pieces

onto_all-first : (front : List ℕ) (c : ℕ) (pieces : List (List ℕ)) → onto_all (front ++ (c ∷ [])) pieces ≡ onto_all front (onto_first c pieces)
onto_all-first front c [] = refl
onto_all-first front c (piece ∷ pieces) = simp append_assoc

onto_all-onto_first : (c : ℕ) (pieces : List (List ℕ)) → onto_all [] (onto_first c pieces) ≡ onto_first c pieces
onto_all-onto_first c [] = refl
onto_all-onto_first c (piece ∷ pieces) = refl

onto_all-nil : (c : ℕ → Bool) (xs : List ℕ) → onto_all [] (slice_split c xs) ≡ slice_split c xs
onto_all-nil c [] = refl
onto_all-nil c (x ∷ xs) = elim (cases_Bool (c x)) [
  | inl e ↦ rw e refl
  | inr e ↦ rw e (onto_all-onto_first x (slice_split c xs))
]

head-first : (c : ℕ) (pieces : List (List ℕ)) → head_piece (onto_first c pieces) ≡ c ∷ head_piece pieces
head-first c [] = refl
head-first c (piece ∷ pieces) = refl

tail-first : (c : ℕ) (pieces : List (List ℕ)) → tail_pieces (onto_first c pieces) ≡ tail_pieces pieces
tail-first c [] = refl
tail-first c (piece ∷ pieces) = refl

-- a tab ends no line
tab-no_end : (c : ℕ) → (c == 9) ≡ true → ends_line c ≡ false
tab-no_end c e = rw (eqb-true c 9 e) refl

in-tab : (c : ℕ) → (c == 9) ≡ true → in_field tabs c ≡ (st.StartField, act.EndField)
in-tab c e = rw e refl

in-end : (c : ℕ) → (c == 9) ≡ false → ends_line c ≡ true → in_field tabs c ≡ (after_end term.CRLF c, act.EndRecord)
in-end c n e = rw (n, e) refl

in-copy : (c : ℕ) → (c == 9) ≡ false → ends_line c ≡ false → in_field tabs c ≡ (st.InField, act.Copy)
in-copy c n e = rw (n, e) refl

after_end-start : (c : ℕ) → IsStart (after_end term.CRLF c)
after_end-start c = elim (cases_Bool (c == 13)) [ inl e ↦ rw e (inr refl) | inr e ↦ rw e (inl refl) ]

-- inside a line a record is read that has the line's other fields, and the lines after it are left
abbrev pub Finishes : State → List (List ℕ) → List ℕ → List ℕ → Type 0
Finishes s fields field xs = (p : Read) × (next_record tabs s fields field xs ≡ Some p) × IsStart p.1
    × (p.0 ≡ fields ++ onto_all field (slice_split is_tab (head_piece (slice_split ends_line xs))))
    × (lines_of p.2 ≡ filter is_nonempty (tail_pieces (slice_split ends_line xs)))
    × (length p.2 ≤ length xs)

pub finishes : (s : State) (fields : List (List ℕ)) (field xs : List ℕ) → IsWithin s → Finishes s fields field xs
finishes s fields field [] w =
    ((fields ++ (field ∷ []), st.StartRecord, []), next-nil s fields field (within-end s w), inl refl, rw (append-nil field) refl, refl, omega arith)
finishes s fields field (c ∷ rest) w = elim (cases_Bool (c == 9)) [
  | inl tab ↦
      let no_end = tab-no_end c tab in
      let (p, is, start, cells, lines, shorter) = finishes st.StartField (fields ++ (field ∷ [])) [] rest (inl refl) in (
        p,
        next-field s st.StartField fields field c rest (within-step s c w ∙ in-tab c tab) ∙ is,
        start,
        rw (no_end, head-first c (slice_split ends_line rest), tab, append-nil field)
            (cells ∙ rw (onto_all-nil is_tab (head_piece (slice_split ends_line rest))) (append_assoc fields (field ∷ []) (slice_split is_tab (head_piece (slice_split ends_line rest))))),
        rw (no_end, tail-first c (slice_split ends_line rest)) lines,
        omega arith,
      )
  | inr no_tab ↦ elim (cases_Bool (ends_line c)) [
    | inl end ↦ (
      (fields ++ (field ∷ []), after_end term.CRLF c, rest),
      next-end s (after_end term.CRLF c) fields field c rest (within-step s c w ∙ in-end c no_tab end),
      after_end-start c,
      rw (end, append-nil field) refl,
      rw end refl,
      omega arith,
    )
    | inr no_end ↦
        let (p, is, start, cells, lines, shorter) = finishes st.InField fields (field ++ (c ∷ [])) rest (inr refl) in (
          p,
          next-copy s st.InField fields field c rest (within-step s c w ∙ in-copy c no_tab no_end) ∙ is,
          start,
          rw (no_end, head-first c (slice_split ends_line rest), no_tab)
              (cells ∙ ap (λ x. fields ++ x) (onto_all-first field c (slice_split is_tab (head_piece (slice_split ends_line rest))))),
          rw (no_end, tail-first c (slice_split ends_line rest)) lines,
          omega arith,
        )
  ]
]

or_no : (a b : Bool) → (a || b) ≡ false → (a ≡ false) × (b ≡ false)
or_no false false e = (refl, refl)
or_no false true e = absurd (true≢false e)
or_no true b e = absurd (true≢false e)

or_second : (a b : Bool) → (a || b) ≡ true → b ≡ false → a ≡ true
or_second true b e n = refl
or_second false b e n = absurd (true≢false (sym e ∙ n))

start-skip : (s : State) (c : ℕ) → IsStart s → ends_line c ≡ true → (s2 : State) × (step tabs s c ≡ (s2, act.Skip)) × IsStart s2
start-skip s c w e = elim w [
  | inl a ↦ (st.StartRecord, rw (a, e) refl, inl refl)
  | inr a ↦ elim (cases_Bool (c == 10)) [
    | inl lf ↦ (st.StartRecord, rw (a, lf) refl, inl refl)
    | inr not_lf ↦ let cr = or_second (c == 13) (c == 10) e not_lf in (st.StartRecord, rw (a, not_lf, cr) refl, inl refl)
  ]
]

start-step : (s : State) (c : ℕ) → IsStart s → ends_line c ≡ false → step tabs s c ≡ in_field tabs c
start-step s c w e =
    let (cr, lf) = or_no (c == 13) (c == 10) e in
    elim w [ inl a ↦ rw (a, cr, lf) refl | inr a ↦ rw (a, cr, lf) refl ]

-- what is left of the records after a read
abbrev pub Leaves : Option Read → List (List (List ℕ)) → ℕ → Type 0
Leaves None records size = records ≡ []
Leaves (Some p) records size = (records ≡ p.0 ∷ records_in p.2) × IsStart p.1 × (length p.2 < size)

nonempty-first : (c : ℕ) (pieces : List (List ℕ)) → filter is_nonempty (onto_first c pieces) ≡ (c ∷ head_piece pieces) ∷ filter is_nonempty (tail_pieces pieces)
nonempty-first c [] = refl
nonempty-first c (piece ∷ pieces) = refl

nil-end : (s : State) → IsStart s → ends_at_end s ≡ false
nil-end s w = elim w [ inl a ↦ rw a refl | inr a ↦ rw a refl ]

next-none : (s : State) → IsStart s → next_record tabs s [] [] [] ≡ None
unfolding next_record
next-none s w = rw (nil-end s w) refl

weaken-leaves : (o : Option Read) (records : List (List (List ℕ))) (n m : ℕ) → n ≤ m → Leaves o records n → Leaves o records m
weaken-leaves None records n m h l = l
weaken-leaves (Some p) records n m h l = (l.0, l.1, omega (arith, l.2))

-- the first record of a text between two records
onto_all-one : (c : ℕ) (pieces : List (List ℕ)) → onto_all (c ∷ []) pieces ≡ onto_first c pieces
onto_all-one c [] = refl
onto_all-one c (piece ∷ pieces) = refl

pub leaves : (s : State) (xs : List ℕ) → IsStart s → Leaves (next_record tabs s [] [] xs) (records_in xs) (length xs)
leaves s [] w = rw (next-none s w) refl
leaves s (c ∷ rest) w = elim (cases_Bool (ends_line c)) [
  | inl end ↦
      let (s2, skip, start) = start-skip s c w end in
      rw (next-skip s s2 [] [] c rest skip, end) (weaken-leaves (next_record tabs s2 [] [] rest) (records_in rest) (length rest) (length (c ∷ rest)) (omega arith) (leaves s2 rest start))
  | inr no_end ↦ elim (cases_Bool (c == 9)) [
    | inl tab ↦
        let (p, is, start, cells, lines, shorter) = finishes st.StartField ([] ∷ []) [] rest (inl refl) in
        rw (next-field s st.StartField [] [] c rest (start-step s c w no_end ∙ in-tab c tab) ∙ is, no_end, nonempty-first c (slice_split ends_line rest))
        (rw (tab, cells, lines, onto_all-nil is_tab (head_piece (slice_split ends_line rest))) refl, start, omega arith)
    | inr no_tab ↦
        let (p, is, start, cells, lines, shorter) = finishes st.InField [] (c ∷ []) rest (inr refl) in
        rw (next-copy s st.InField [] [] c rest (start-step s c w no_end ∙ in-copy c no_tab no_end) ∙ is, no_end, nonempty-first c (slice_split ends_line rest))
        (rw (no_tab, cells, lines, onto_all-one c (slice_split is_tab (head_piece (slice_split ends_line rest)))) refl, start, omega arith)
  ]
]

pending-source : {R : Type 0} (rem : R → Option (List ℕ)) (b : Reader R) → b.bom_checked ≡ true → source_of rem b ≡ pending_of (rem b.rdr) b
pending-source rem b e = rw e refl

read-some : {R : Type 0} (rem : R → Option (List ℕ)) (b : Reader R) (found : Bool) (fields : List (List ℕ)) (y z : List ℕ) (next : Option Read)
    → source_of rem b ≡ Some z → Leaves next (records_in y) (length y) → NextIs next found fields b.state z → IsNextRecord rem b found fields y
read-some rem b found fields y z None e l n = rw n l
read-some rem b found fields y z (Some p) e l n = rw n.0 (z, (rw n.2 l.1, e), rw n.3 l.2, rw (n.1, n.3) l.0)

read-known : {R : Type 0} (rem : R → Option (List ℕ)) (a b : Reader R) (found : Bool) (fields : List (List ℕ)) (y : List ℕ) (k : Option (List ℕ))
    → IsStart a.state → source_of rem b ≡ k → ReadsNext tabs a.state (Some y) k found fields b.state → IsNextRecord rem b found fields y
read-known rem a b found fields y None start e r = absurd r
read-known rem a b found fields y (Some z) start e r = read-some rem b found fields y z (next_record tabs a.state [] [] y) e (leaves a.state y start) r

-- a read of a record takes the first record of the text that was left
pub next_record_read : {R : Type 0} (rem : R → Option (List ℕ)) (a b : Reader R) (found : Bool) (fields : List (List ℕ)) (y : List ℕ)
    → a.config ≡ tabs → HasLeft rem a y → ReadRecord rem a b found fields → IsNextRecord rem b found fields y
next_record_read rem a b found fields y config left r =
    read-known rem a b found fields y (pending_of (rem b.rdr) b) left.0 (pending-source rem b r.1) (rw (config, left.1) at r.0)
