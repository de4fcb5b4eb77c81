-- A text that is read in parts: pieces of a long record, and all records up to a line end.
use Rattle.std.proofs.Common.{◌≡◌, ◌≤◌, ◌<◌, ◌+◌, ◌⊎◌, ◌∙◌, ℕ, zero, suc, List, [], ◌∷◌, ◌++◌, length, take, drop, map, true, false, refl, sym, ap, arith, inl, inr, append_assoc, take-append-drop}
use Rattle.std.specs.Prelude.{if◌then◌else◌}
use Rattle.std.specs.List.{filter, onto_first, slice_split}
use Rattle.std.proofs.lemmas.Bool.{cases_Bool}
use Rattle.std.proofs.lemmas.List.{append-nil, length-append, length-drop, length-take-le}
use Rattle.std.proofs.lemmas.List.Elements.{All-append, All-cons, All-drop, All-take}
use Rattle.feed_limits.specs.Limits.{file_limit}
use Rattle.feed_text.specs.Records.{drop_mark, ends_line, has_mark, is_nonempty, is_tab, records_in, records_of}
use Rattle.feed_kbart.specs.Joined.{joined, joined_first, onto_field}
use Rattle.feed_kbart.specs.ListRecords.{AreRecordsOf, AreRecordsWith}
use Rattle.feed_kbart.specs.ListTexts.{HasRecord, IsTextOf}
use Rattle.feed_kbart.specs.RowValue.{RowValue}
use Rattle.feed_kbart.specs.Windows.{HasNoEnd, begins_with_end}
use Rattle.feed_kbart.specs.declared.list_records.ListRecords.{ListRecords}
use Rattle.feed_kbart.specs.declared.list_text.ListText.{ListText}
use Rattle.feed_kbart.proofs.Cuts.{begins-append, drop_mark-end, length-records_of, records_of-append}
use Rattle.feed_kbart.proofs.Joined.{first-append, first-none, first-twice, length-first, some_field, split-joined}

-- the line after a line end, or the first line of a text
abbrev line_of : List ℕ → List ℕ
line_of bytes = if begins_with_end bytes then drop 1 bytes else drop_mark bytes

end-records : (e : ℕ) (line : List ℕ) → ends_line e ≡ true → records_in (e ∷ line) ≡ records_in line
end-records e line is = rw is refl

records-line : (bytes : List ℕ) → records_of bytes ≡ records_in (line_of bytes)
records-line [] = refl
records-line (b ∷ bytes) = elim (cases_Bool (ends_line b)) [
  | inl y ↦
      let line : line_of (b ∷ bytes) ≡ bytes = rw y refl in
      ap records_in (drop_mark-end (b ∷ bytes) y) ∙ end-records b bytes y ∙ ap records_in (sym line)
  | inr n ↦ rw n refl
]

line-none : (back : List ℕ) → HasNoEnd (drop 1 back) → HasNoEnd (line_of back)
line-none [] none = none
line-none (b ∷ back) none = elim (cases_Bool (ends_line b)) [
  | inl y ↦ rw y none
  | inr n ↦
      let all : HasNoEnd (b ∷ back) = All-cons (λ x. ends_line x ≡ false) b back n none in
      elim (cases_Bool (has_mark (b ∷ back))) [
        | inl f ↦ rw (n, f) (All-drop (λ x. ends_line x ≡ false) 3 (b ∷ back) all)
        | inr f ↦ rw (n, f) all
      ]
]

-- a line end and a mark have three bytes at most
length-line : (back : List ℕ) → length back ≤ length (line_of back) + 3
length-line [] = omega arith
length-line (b ∷ back) = elim (cases_Bool (ends_line b)) [
  | inl y ↦ rw y (omega arith)
  | inr n ↦ elim (cases_Bool (has_mark (b ∷ back))) [
    | inl f ↦ rw (n, f) (omega (arith, length-drop 3 (b ∷ back)))
    | inr f ↦ rw (n, f) (omega arith)
  ]
]

line-append : (back part : List ℕ) → 2 < length back → line_of (back ++ part) ≡ line_of back ++ part
line-append [] part many = absurd (omega (arith, many))
line-append (x ∷ []) part many = absurd (omega (arith, many))
line-append (x ∷ y ∷ []) part many = absurd (omega (arith, many))
line-append (x ∷ y ∷ z ∷ back) part many = elim (cases_Bool (ends_line x)) [
  | inl e ↦ rw e refl
  | inr n ↦ elim (cases_Bool (has_mark (x ∷ y ∷ z ∷ []))) [
    | inl f ↦ rw (n, f) refl
    | inr f ↦ rw (n, f) refl
  ]
]

split-none : (line : List ℕ) → HasNoEnd line → slice_split ends_line line ≡ line ∷ []
split-none [] none = refl
split-none (b ∷ line) none =
    let first : ends_line b ≡ false = none 0 b (omega arith) in
    let others : HasNoEnd line = λ k d h. none (suc k) d (omega (arith, h)) in
    rw first (ap (onto_first b) (split-none line others))

-- a line has one record
one-record : (line : List ℕ) → HasNoEnd line → 0 < length line → records_in line ≡ slice_split is_tab line ∷ []
one-record [] none some = absurd (omega (arith, some))
one-record (b ∷ line) none some = ap (λ (ls : List (List ℕ)). map (slice_split is_tab) (filter is_nonempty ls)) (split-none (b ∷ line) none)

some_bytes : (line : List ℕ) (b : ℕ) (more : List ℕ) → is_nonempty (line ++ b ∷ more) ≡ true
some_bytes [] b more = refl
some_bytes (x ∷ line) b more = refl

split-first : (b : ℕ) (more : List ℕ) → ends_line b ≡ false → slice_split ends_line (b ∷ more) ≡ onto_first b (slice_split ends_line more)
split-first b more inside = rw inside refl

some_record : (b : ℕ) (more : List ℕ) → ends_line b ≡ false → 0 < length (records_in (b ∷ more))
some_record b more inside = rw inside (go (slice_split ends_line more))
  where
    go : (lines : List (List ℕ)) → 0 < length (map (slice_split is_tab) (filter is_nonempty (onto_first b lines)))
    go [] = omega arith
    go (line ∷ lines) = omega arith

-- a line that is cut: the fields before the cut continue in the first record after it
cut-line : (line : List ℕ) (b : ℕ) (more : List ℕ) → HasNoEnd line → ends_line b ≡ false
    → records_in (line ++ b ∷ more) ≡ joined_first (slice_split is_tab line) (records_in (b ∷ more))
cut-line line b more none inside =
    let parts : slice_split ends_line (line ++ b ∷ more) ≡ onto_field line (onto_first b (slice_split ends_line more)) =
    split-joined ends_line line (b ∷ more) ∙ ap (λ (ls : List (List ℕ)). joined ls (slice_split ends_line (b ∷ more))) (split-none line none)
    ∙ ap (onto_field line) (split-first b more inside) in
    ap (λ (ls : List (List ℕ)). map (slice_split is_tab) (filter is_nonempty ls)) parts ∙ go (slice_split ends_line more)
    ∙ ap (λ (ls : List (List ℕ)). joined_first (slice_split is_tab line) (map (slice_split is_tab) (filter is_nonempty ls))) (sym (split-first b more inside))
  where
    go : (lines : List (List ℕ)) → map (slice_split is_tab) (filter is_nonempty (onto_field line (onto_first b lines)))
        ≡ joined_first (slice_split is_tab line) (map (slice_split is_tab) (filter is_nonempty (onto_first b lines)))
    go [] = rw (some_bytes line b []) (ap (λ (f : List (List ℕ)). f ∷ []) (split-joined is_tab line (b ∷ [])))
    go (next ∷ lines) =
        rw (some_bytes line b next) (ap (λ (f : List (List ℕ)). f ∷ map (slice_split is_tab) (filter is_nonempty lines)) (split-joined is_tab line (b ∷ next)))

-- the bytes of a line before a place, and those from there on
front-none : (n : ℕ) (held : List ℕ) → HasNoEnd (drop 1 held) → HasNoEnd (drop 1 (take n held))
front-none zero held none = λ k d h. absurd (omega (arith, h))
front-none (suc n) [] none = none
front-none (suc n) (b ∷ held) none = All-take (λ x. ends_line x ≡ false) n held none

back-none : (n : ℕ) (held : List ℕ) → 0 < n → HasNoEnd (drop 1 held) → HasNoEnd (drop n held)
back-none zero held some none = absurd (omega (arith, some))
back-none (suc n) [] some none = none
back-none (suc n) (b ∷ held) some none = All-drop (λ x. ends_line x ≡ false) n held none

-- the records of a window are within the limit
window_few : (text window : List ℕ) (records : List (List (List ℕ))) (begun : List (List ℕ)) → length text ≤ file_limit
    → records_of text ≡ records ++ joined_first begun (records_of window) → length records + length (records_of window) ≤ file_limit
window_few text window records begun small all =
    omega (arith, small, length-records_of text, ap length all, length-append records (joined_first begun (records_of window)), length-first begun (records_of window))

has_record : (begun : List (List ℕ)) (held part : List ℕ) → (begun ≡ [] ∷ []) ⊎ HasRecord held → (begun ≡ [] ∷ []) ⊎ (0 < length (records_of (held ++ part)))
has_record begun held part some = elim some [ inl closed ↦ inl closed | inr has ↦ inr (has part) ]

first-cut : (begun : List (List ℕ)) (window back : List ℕ) → begins_with_end back ≡ true → (begun ≡ [] ∷ []) ⊎ (0 < length (records_of window))
    → joined_first begun (records_of (window ++ back)) ≡ joined_first begun (records_of window) ++ records_of back
first-cut begun window back end some = elim some [
  | inl closed ↦
      rw closed (first-none (drop_mark (window ++ back)) ∙ records_of-append window back (inr end) ∙ ap (λ r. r ++ records_of back) (sym (first-none (drop_mark window))))
  | inr has ↦ ap (joined_first begun) (records_of-append window back (inr end)) ∙ first-append begun (records_of window) (records_of back) has
]

module _ {K : Type 0} (keeps : List RowValue → K → Type 0) where
  -- what a window adds to the records
  abbrev pub IsMoved : List ℕ → ListRecords K → ListRecords K → Type 0
  IsMoved window before now =
      (records : List (List (List ℕ))) (begun : List (List ℕ)) → length records + length (records_of window) ≤ file_limit
      → (begun ≡ [] ∷ []) ⊎ (0 < length (records_of window)) → AreRecordsWith keeps records begun before → AreRecordsOf keeps (records ++ joined_first begun (records_of window)) now

  -- a text without bytes
  pub text_none : (list : ListText K) → list.held.items ≡ [] → AreRecordsOf keeps [] list.records → IsTextOf keeps [] list
  text_none list none are = record {
    records = [];
    begun = [] ∷ [];
    are = are;
    all = λ more. rw none (sym (first-none (drop_mark more)));
    some = inl refl;
    line = rw none (All-drop (λ b. ends_line b ≡ false) 1 [] (λ k d h. absurd (omega (arith, h))));
  }

  -- more bytes of a line are held
  pub text_held : (text bytes : List ℕ) (before now : ListText K) → now.held.items ≡ before.held.items ++ bytes → now.records ≡ before.records → HasNoEnd bytes
      → IsTextOf keeps text before → IsTextOf keeps (text ++ bytes) now
  text_held text bytes before now held same none is = record {
    records = is.records;
    begun = is.begun;
    are = rw same is.are;
    all = λ more. ap records_of (append_assoc text bytes more) ∙ is.all (bytes ++ more) ∙ ap (λ l. is.records ++ joined_first is.begun (records_of l)) (sym (more_held more));
    some = elim is.some [ inl closed ↦ inl closed | inr has ↦ inr (λ more. rw (more_held more) (has (bytes ++ more))) ];
    line = rw held (rest before.held.items is.line);
  }
    where
      more_held : (more : List ℕ) → now.held.items ++ more ≡ before.held.items ++ (bytes ++ more)
      more_held more = ap (λ l. l ++ more) held ∙ append_assoc before.held.items bytes more

      rest : (held : List ℕ) → HasNoEnd (drop 1 held) → HasNoEnd (drop 1 (held ++ bytes))
      rest [] first = All-drop (λ b. ends_line b ≡ false) 1 bytes none
      rest (b ∷ held) first = All-append (λ x. ends_line x ≡ false) held bytes first none

  -- all records up to a line end were added, and the bytes from there on are held
  pub text_read : (text bytes front back : List ℕ) (before now : ListText K) → front ++ back ≡ bytes → length text + length bytes ≤ file_limit → begins_with_end back ≡ true
      → HasNoEnd (drop 1 back) → now.held.items ≡ back → IsMoved (before.held.items ++ front) before.records now.records → IsTextOf keeps text before
      → IsTextOf keeps (text ++ bytes) now
  text_read text bytes front back before now both small end none held moves is = record {
    records = added;
    begun = [] ∷ [];
    are = moves is.records is.begun (window_few (text ++ front) window is.records is.begun fits (is.all front)) some is.are;
    all = λ more.
        ap records_of (ap (λ l. (text ++ l) ++ more) (sym both) ∙ append_assoc text (front ++ back) more ∙ ap (λ l. text ++ l) (append_assoc front back more))
        ∙ whole (back ++ more) (begins-append back more end) ∙ ap (λ r. added ++ r) (sym (rw held (first-none (drop_mark (back ++ more)))));
    some = inl refl;
    line = rw held none;
  }
    where
      window : List ℕ
      window = before.held.items ++ front

      added : List (List (List ℕ))
      added = is.records ++ joined_first is.begun (records_of window)

      some : (is.begun ≡ [] ∷ []) ⊎ (0 < length (records_of window))
      some = has_record is.begun before.held.items front is.some

      fits : length (text ++ front) ≤ file_limit
      fits = omega (arith, small, ap length (sym both), length-append front back, length-append text front)

      whole : (next : List ℕ) → begins_with_end next ≡ true → records_of (text ++ (front ++ next)) ≡ added ++ records_of next
      whole next ends =
          is.all (front ++ next) ∙ ap (λ l. is.records ++ joined_first is.begun (records_of l)) (sym (append_assoc before.held.items front next))
          ∙ ap (λ r. is.records ++ r) (first-cut is.begun window next ends some)
          ∙ sym (append_assoc is.records (joined_first is.begun (records_of window)) (records_of next))

  -- what a piece adds to the records
  abbrev pub IsPieced : List ℕ → ListRecords K → ListRecords K → Type 0
  IsPieced piece before now =
      (records : List (List (List ℕ))) (begun fields : List (List ℕ)) → records_of piece ≡ fields ∷ [] → AreRecordsWith keeps records begun before
      → AreRecordsWith keeps records (joined begun fields) now

  -- a piece of the held bytes was added, and the others are held behind a line end
  pub text_piece : (size : ℕ) (text held piece rest : List ℕ) (before now : ListText K) → 3 < size → size < length before.held.items → held ≡ before.held.items
      → piece ≡ take size held → rest ≡ drop size held → now.held.items ≡ 10 ∷ rest → IsPieced piece before.records now.records → IsTextOf keeps text before
      → IsTextOf keeps text now
  text_piece size text held piece rest before now large within same first others holds pieced is = go rest refl
    where
      both : before.held.items ≡ piece ++ rest
      both = sym same ∙ sym (take-append-drop size held) ∙ ap (λ l. l ++ drop size held) (sym first) ∙ ap (λ l. piece ++ l) (sym others)

      line : HasNoEnd (drop 1 held)
      line = rw same is.line

      none : HasNoEnd (drop 1 piece)
      none = rw first (front-none size held line)

      fields : List (List ℕ)
      fields = slice_split is_tab (line_of piece)

      many : length piece ≡ size
      many = ap length first ∙ length-take-le size held (omega (arith, within, ap length same))

      one : records_of piece ≡ fields ∷ []
      one = records-line piece ∙ one-record (line_of piece) (line-none piece none) (omega (arith, large, many, length-line piece))

      left : HasNoEnd rest
      left = rw others (back-none size held (omega (arith, large)) line)

      go : (l : List ℕ) → rest ≡ l → IsTextOf keeps text now
      go [] e = absurd (omega (arith, within, many, ap length both, length-append piece rest, ap length e))
      go (b ∷ next) e =
          let inside : ends_line b ≡ false = (rw e at left) 0 b (omega arith) in
          let again : (more : List ℕ) → records_of (now.held.items ++ more) ≡ records_in (b ∷ (next ++ more)) = λ more.
          ap (λ l. records_of (l ++ more)) (holds ∙ ap (λ l. 10 ∷ l) e) ∙ ap records_in (drop_mark-end (10 ∷ b ∷ (next ++ more)) refl) ∙ end-records 10 (b ∷ (next ++ more)) refl in
          let cut : (more : List ℕ) → records_of (before.held.items ++ more) ≡ joined_first fields (records_in (b ∷ (next ++ more))) = λ more.
          ap (λ l. records_of (l ++ more)) (both ∙ ap (λ l. piece ++ l) e) ∙ ap records_of (append_assoc piece (b ∷ next) more)
          ∙ records-line (piece ++ b ∷ (next ++ more)) ∙ ap records_in (line-append piece (b ∷ (next ++ more)) (omega (arith, large, many)))
          ∙ cut-line (line_of piece) b (next ++ more) (line-none piece none) inside in
          record {
            records = is.records;
            begun = joined is.begun fields;
            are = pieced is.records is.begun fields one is.are;
            all = λ more.
                is.all more ∙ ap (λ r. is.records ++ r) (ap (joined_first is.begun) (cut more)
                ∙ first-twice is.begun fields (records_in (b ∷ (next ++ more))) (some_field is_tab (line_of piece)) ∙ ap (joined_first (joined is.begun fields)) (sym (again more)));
            some = inr (λ more. rw (again more) (some_record b (next ++ more) inside));
            line = rw holds left;
          }

  -- the records of a whole text
  pub text_ended : (text : List ℕ) (list : ListText K) (now : ListRecords K) → length text ≤ file_limit → IsMoved list.held.items list.records now → IsTextOf keeps text list
      → AreRecordsOf keeps (records_of text) now
  text_ended text list now small moves is =
      let held : list.held.items ++ [] ≡ list.held.items = append-nil list.held.items in
      let all : records_of text ≡ is.records ++ joined_first is.begun (records_of list.held.items) = rw (append-nil text, held) at (is.all []) in
      rw (← all) at (moves is.records is.begun (window_few text list.held.items is.records is.begun small all) (rw held at (has_record is.begun list.held.items [] is.some)) is.are)

-- fewer bytes are held after a piece
pub piece_fewer : (size : ℕ) (held rest before now : List ℕ) → 3 < size → size < length before → held ≡ before → rest ≡ drop size held → now ≡ 10 ∷ rest
    → length now < length before
piece_fewer size held rest before now large within same others holds =
    omega (arith, large, within, ap length same, ap length others, ap length holds, length-drop size held)
