-- The rows that walks find, and those that they leave.
use Rattle.std.proofs.Common.{◌≡◌, ◌+◌, ◌-◌, ◌<◌, ◌≤◌, ◌||◌, ℕ, zero, suc, Bool, true, false, List, [], ◌∷◌, ◌++◌}
use Rattle.std.proofs.Common.{Option, Some, None, refl, sym, ap, ◌∙◌, arith, drop, length, length-append, append_assoc, append-nil, inl, inr, subst, le_refl}
use Rattle.std.specs.Prelude.{◌==◌, IfSome, filter, fold}
use Rattle.std.proofs.lemmas.Bool.{cases_Bool}
use Rattle.std.proofs.lemmas.List.{drop-drop, drop_all}
use Rattle.node_titles.specs.Laws.{FindsFirst, WalksFindAll, WalksFindFirst, found_by, left_at}
use Rattle.node_titles.specs.Titles.{EntryValue}
use Rattle.node_titles.specs.Walks.{WalkValue, bytes_after, found_limit, is_full, look_limit, text_limit, walk_at, walk_from, with_row}
use Rattle.node_titles.proofs.Steps.{ended_stays}

-- a walk that has not ended, and one that has
abbrev walking : ℕ → ℕ → ℕ → ℕ → List EntryValue → WalkValue
walking start looks room bytes found =
    record { start = start; looks = looks; room = room; bytes = bytes; found = found; next = None }

abbrev stopped : ℕ → ℕ → ℕ → ℕ → List EntryValue → WalkValue
stopped start looks room bytes found =
    record { start = start; looks = looks; room = room; bytes = bytes; found = found; next = Some (start + (look_limit - looks)) }

-- the rows behind one row more
behind_row : {A : Type 0} (rows : List A) (place : ℕ) (row : A) (more : List A) → row ∷ more ≡ drop place rows → more ≡ drop (place + 1) rows
behind_row rows place row more are = ap (drop 1) are ∙ drop-drop 1 place rows

weaker : (place : Option ℕ) (P Q : ℕ → Type 0) → ((n : ℕ) → P n → Q n) → IfSome place P → IfSome place Q
weaker None P Q from has = has
weaker (Some n) P Q from has = from n has

or_left : (a b : Bool) → (a || b) ≡ false → a ≡ false
or_left true b is = is
or_left false b is = refl

or_right : (a b : Bool) → (a || b) ≡ false → b ≡ false
or_right true b is = absurd (cc)
or_right false b is = is

some_left : (n : ℕ) → (n == 0) ≡ false → 0 < n
some_left zero is = absurd (cc)
some_left (suc n) is = omega arith

looks_left : (looks room bytes : ℕ) → is_full looks room bytes ≡ false → 0 < looks
looks_left looks room bytes free =
    some_left looks (or_left (looks == 0) (room == 0) (or_left ((looks == 0) || (room == 0)) (bytes == 0) free))

room_left : (looks room bytes : ℕ) → is_full looks room bytes ≡ false → 0 < room
room_left looks room bytes free =
    some_left room (or_right (looks == 0) (room == 0) (or_left ((looks == 0) || (room == 0)) (bytes == 0) free))

module _ (test : EntryValue → Bool) (start : ℕ) where
  abbrev after : WalkValue → List EntryValue → WalkValue
  after walk more = fold (with_row test) walk more

  -- a walk that ends before a row
  stops : (looks room bytes : ℕ) (found : List EntryValue) (row : EntryValue) (more : List EntryValue) → is_full looks room bytes ≡ true
      → after (walking start looks room bytes found) (row ∷ more) ≡ stopped start looks room bytes found
  stops looks room bytes found row more full =
      let ends : with_row test (walking start looks room bytes found) row ≡ stopped start looks room bytes found = rw full refl in
      ap (λ w. after w more) ends ∙ ended_stays test (stopped start looks room bytes found) more refl

  -- one that finds a row, and one that passes it
  finds : (looks room bytes : ℕ) (found : List EntryValue) (row : EntryValue) (more : List EntryValue) → is_full looks room bytes ≡ false
      → test row ≡ true
      → after (walking start looks room bytes found) (row ∷ more)
      ≡ after (walking start (looks - 1) (room - 1) (bytes_after bytes row.row) (found ++ row ∷ [])) more
  finds looks room bytes found row more free is =
      let one : with_row test (walking start looks room bytes found) row
      ≡ walking start (looks - 1) (room - 1) (bytes_after bytes row.row) (found ++ row ∷ []) = rw (free, is) refl in
      ap (λ w. after w more) one

  passes : (looks room bytes : ℕ) (found : List EntryValue) (row : EntryValue) (more : List EntryValue) → is_full looks room bytes ≡ false
      → test row ≡ false
      → after (walking start looks room bytes found) (row ∷ more) ≡ after (walking start (looks - 1) room (bytes_after bytes row.row) found) more
  passes looks room bytes found row more free is =
      let one : with_row test (walking start looks room bytes found) row ≡ walking start (looks - 1) room (bytes_after bytes row.row) found = rw (free, is) refl in
      ap (λ w. after w more) one

  -- ---- what is found, and what is left

  module _ (rows : List EntryValue) where
    abbrev total : WalkValue → List EntryValue
    total walk = walk.found ++ left_at test rows walk.next

    next_place : (looks room bytes : ℕ) (row : EntryValue) (more : List EntryValue) → is_full looks room bytes ≡ false → looks ≤ look_limit
        → row ∷ more ≡ drop (start + (look_limit - looks)) rows → more ≡ drop (start + (look_limit - (looks - 1))) rows
    next_place looks room bytes row more free low are =
        let some = looks_left looks room bytes free in
        let place : start + (look_limit - looks) + 1 ≡ start + (look_limit - (looks - 1)) = omega arith in
        behind_row rows (start + (look_limit - looks)) row more are ∙ ap (λ n. drop n rows) place

    all_from : (looks room bytes : ℕ) (found more : List EntryValue) → looks ≤ look_limit → more ≡ drop (start + (look_limit - looks)) rows
        → total (after (walking start looks room bytes found) more) ≡ found ++ filter test more
    all_from looks room bytes found [] low are = refl
    all_from looks room bytes found (row ∷ more) low are =
        let fewer : looks - 1 ≤ look_limit = omega arith in
        elim (cases_Bool (is_full looks room bytes)) [
          | inl full ↦ ap total (stops looks room bytes found row more full) ∙ ap (λ l. found ++ filter test l) (sym are)
          | inr free ↦
              let rest = next_place looks room bytes row more free low are in
              elim (cases_Bool (test row)) [
                | inl is ↦
                    let kept : filter test (row ∷ more) ≡ row ∷ filter test more = rw is refl in
                    ap total (finds looks room bytes found row more free is)
                    ∙ all_from (looks - 1) (room - 1) (bytes_after bytes row.row) (found ++ row ∷ []) more fewer rest
                    ∙ append_assoc found (row ∷ []) (filter test more) ∙ ap (λ l. found ++ l) (sym kept)
                | inr is ↦
                    let left : filter test (row ∷ more) ≡ filter test more = rw is refl in
                    ap total (passes looks room bytes found row more free is)
                    ∙ all_from (looks - 1) room (bytes_after bytes row.row) found more fewer rest ∙ ap (λ l. found ++ l) (sym left)
              ]
        ]

  -- ---- how many are found

  few_from : (looks room bytes : ℕ) (found more : List EntryValue)
      → length (after (walking start looks room bytes found) more).found ≤ length found + room
  few_from looks room bytes found [] = omega arith
  few_from looks room bytes found (row ∷ more) =
      elim (cases_Bool (is_full looks room bytes)) [
        | inl full ↦
            let same : length (after (walking start looks room bytes found) (row ∷ more)).found ≡ length found =
            ap (λ w. length w.found) (stops looks room bytes found row more full) in
            omega arith
        | inr free ↦
            elim (cases_Bool (test row)) [
              | inl is ↦
                  let some = room_left looks room bytes free in
                  let next = walking start (looks - 1) (room - 1) (bytes_after bytes row.row) (found ++ row ∷ []) in
                  let same : length (after (walking start looks room bytes found) (row ∷ more)).found ≡ length (after next more).found =
                  ap (λ w. length w.found) (finds looks room bytes found row more free is) in
                  let rest : length (after next more).found ≤ length (found ++ row ∷ []) + (room - 1) =
                  few_from (looks - 1) (room - 1) (bytes_after bytes row.row) (found ++ row ∷ []) more in
                  let long : length (found ++ row ∷ []) ≡ length found + 1 = length-append found (row ∷ []) in
                  omega arith
              | inr is ↦
                  let next = walking start (looks - 1) room (bytes_after bytes row.row) found in
                  let same : length (after (walking start looks room bytes found) (row ∷ more)).found ≡ length (after next more).found =
                  ap (λ w. length w.found) (passes looks room bytes found row more free is) in
                  let rest : length (after next more).found ≤ length found + room = few_from (looks - 1) room (bytes_after bytes row.row) found more in
                  omega arith
            ]
      ]

  -- ---- where the next walk begins

  abbrev GoesOnFrom : ℕ → WalkValue → Type 0
  GoesOnFrom place walk = IfSome walk.next (λ n. place ≤ n)

  later : (looks : ℕ) (walk : WalkValue) → GoesOnFrom (start + (look_limit - (looks - 1))) walk → GoesOnFrom (start + (look_limit - looks)) walk
  later looks walk on =
      weaker walk.next (λ n. start + (look_limit - (looks - 1)) ≤ n) (λ n. start + (look_limit - looks) ≤ n) (λ n le. omega arith) on

  onward_from : (looks room bytes : ℕ) (found more : List EntryValue)
      → GoesOnFrom (start + (look_limit - looks)) (after (walking start looks room bytes found) more)
  onward_from looks room bytes found [] = tt
  onward_from looks room bytes found (row ∷ more) =
      let place = start + (look_limit - looks) in
      elim (cases_Bool (is_full looks room bytes)) [
        | inl full ↦ subst (GoesOnFrom place) (sym (stops looks room bytes found row more full)) (le_refl place)
        | inr free ↦
            elim (cases_Bool (test row)) [
              | inl is ↦
                  let next = after (walking start (looks - 1) (room - 1) (bytes_after bytes row.row) (found ++ row ∷ [])) more in
                  subst (GoesOnFrom place) (sym (finds looks room bytes found row more free is))
                  (later looks next (onward_from (looks - 1) (room - 1) (bytes_after bytes row.row) (found ++ row ∷ []) more))
              | inr is ↦
                  let next = after (walking start (looks - 1) room (bytes_after bytes row.row) found) more in
                  subst (GoesOnFrom place) (sym (passes looks room bytes found row more free is))
                  (later looks next (onward_from (looks - 1) room (bytes_after bytes row.row) found more))
            ]
      ]

  abbrev GoesBehind : WalkValue → Type 0
  GoesBehind walk = IfSome walk.next (λ n. start < n)

  behind : (walk : WalkValue) → GoesOnFrom (start + (look_limit - (look_limit - 1))) walk → GoesBehind walk
  behind walk on = weaker walk.next (λ n. start + (look_limit - (look_limit - 1)) ≤ n) (λ n. start < n) (λ n le. omega arith) on

  -- the first row is always looked at
  onward : (more : List EntryValue) → GoesBehind (after (walk_at start) more)
  onward [] = tt
  onward (row ∷ more) =
      elim (cases_Bool (test row)) [
        | inl is ↦
            let next = after (walking start (look_limit - 1) (found_limit - 1) (bytes_after text_limit row.row) (row ∷ [])) more in
            subst GoesBehind (sym (finds look_limit found_limit text_limit [] row more refl is))
            (behind next (onward_from (look_limit - 1) (found_limit - 1) (bytes_after text_limit row.row) (row ∷ []) more))
        | inr is ↦
            let next = after (walking start (look_limit - 1) found_limit (bytes_after text_limit row.row) []) more in
            subst GoesBehind (sym (passes look_limit found_limit text_limit [] row more refl is))
            (behind next (onward_from (look_limit - 1) found_limit (bytes_after text_limit row.row) [] more))
      ]

  -- ---- how many rows a walk passes

  abbrev EndsNear : WalkValue → Type 0
  EndsNear walk = IfSome walk.next (λ n. n ≤ start + look_limit)

  near_from : (looks room bytes : ℕ) (found more : List EntryValue) → EndsNear (after (walking start looks room bytes found) more)
  near_from looks room bytes found [] = tt
  near_from looks room bytes found (row ∷ more) =
      elim (cases_Bool (is_full looks room bytes)) [
        | inl full ↦
            let near : start + (look_limit - looks) ≤ start + look_limit = omega arith in
            subst EndsNear (sym (stops looks room bytes found row more full)) near
        | inr free ↦
            elim (cases_Bool (test row)) [
              | inl is ↦
                  subst EndsNear (sym (finds looks room bytes found row more free is))
                  (near_from (looks - 1) (room - 1) (bytes_after bytes row.row) (found ++ row ∷ []) more)
              | inr is ↦
                  subst EndsNear (sym (passes looks room bytes found row more free is))
                  (near_from (looks - 1) room (bytes_after bytes row.row) found more)
            ]
      ]

pub finds_first : WalksFindFirst
finds_first test rows start =
    let low : look_limit ≤ look_limit = omega arith in
    let place : start ≡ start + (look_limit - look_limit) = omega arith in
    record {
      all = sym (all_from test start rows look_limit found_limit text_limit [] (drop start rows) low (ap (λ n. drop n rows) place));
      few = few_from test start look_limit found_limit text_limit [] (drop start rows);
      onward = onward test start (drop start rows);
      near = near_from test start look_limit found_limit text_limit [] (drop start rows);
    }

-- ---- all walks

module _ (test : EntryValue → Bool) (rows : List EntryValue) where
  none_by : (walks : ℕ) → found_by test rows walks None ≡ []
  none_by zero = refl
  none_by (suc walks) = refl

  more_by : (walks place : ℕ) (next : Option ℕ)
      → ((n : ℕ) → length rows < walks + n → found_by test rows walks (Some n) ≡ filter test (drop n rows))
      → length rows < suc walks + place → IfSome next (λ n. place < n) → found_by test rows walks next ≡ left_at test rows next
  more_by walks place None later short on = none_by walks
  more_by walks place (Some n) later short on = later n (omega arith)

  all_by : (walks place : ℕ) → length rows < walks + place → found_by test rows walks (Some place) ≡ filter test (drop place rows)
  all_by zero place short = ap (λ l. filter test l) (sym (drop_all place rows (omega arith)))
  all_by (suc walks) place short =
      let walk = walk_from test place rows in
      let first = finds_first test rows place in
      ap (λ l. walk.found ++ l) (more_by walks place walk.next (λ n. all_by walks n) short first.onward) ∙ sym first.all

pub finds_all : WalksFindAll
finds_all test rows walks short = all_by test rows walks 0 (omega arith)
