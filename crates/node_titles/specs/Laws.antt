-- The laws of a walk.
use Rattle.std.specs.Prelude.{◌≡◌, ◌+◌, ◌<◌, ◌≤◌, ℕ, zero, suc, Bool, List, [], ◌++◌, Option, Some, None, IfSome, drop, filter, length}
use Rattle.node_titles.specs.Titles.{EntryValue}
use Rattle.node_titles.specs.Walks.{found_limit, look_limit, walk_from}

-- the rows that pass a test from the place of `next` on
abbrev pub left_at : (EntryValue → Bool) → List EntryValue → Option ℕ → List EntryValue
left_at test rows None = []
left_at test rows (Some place) = filter test (drop place rows)

-- a walk finds the first of the rows that pass the test, at most 50, and the others are those from its `next` on. This
-- place is behind the start of the walk, by 20,000 rows at most
pub record FindsFirst (test : EntryValue → Bool) (rows : List EntryValue) (start : ℕ) : Type 0 where
  pub all : filter test (drop start rows) ≡ (walk_from test start rows).found ++ left_at test rows (walk_from test start rows).next
  pub few : length (walk_from test start rows).found ≤ found_limit
  pub onward : IfSome (walk_from test start rows).next (λ place. start < place)
  pub near : IfSome (walk_from test start rows).next (λ place. place ≤ start + look_limit)

abbrev pub WalksFindFirst : Type 0
WalksFindFirst = (test : EntryValue → Bool) (rows : List EntryValue) (start : ℕ) → FindsFirst test rows start

-- what so many walks find, each from the `next` of the one before it on
abbrev pub found_by : (EntryValue → Bool) → List EntryValue → ℕ → Option ℕ → List EntryValue
found_by test rows zero place = []
found_by test rows (suc walks) None = []
found_by test rows (suc walks) (Some place) =
    (walk_from test place rows).found ++ found_by test rows walks (walk_from test place rows).next

-- the walks from the first row on find each row that passes the test once, in order
abbrev pub WalksFindAll : Type 0
WalksFindAll = (test : EntryValue → Bool) (rows : List EntryValue) (walks : ℕ)
    → length rows < walks → found_by test rows walks (Some 0) ≡ filter test rows
