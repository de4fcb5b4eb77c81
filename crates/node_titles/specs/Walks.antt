-- A walk over rows, which looks at so many of them, and finds so many.
use Rattle.std.specs.Prelude.{ℕ, ◌+◌, ◌-◌, ◌==◌, ◌||◌, Bool, if◌then◌else◌, List, [], ◌∷◌, ◌++◌, Option, Some, None, is_some, drop, fold, length, map}
use Rattle.std.specs.List.{flat_map}
use Rattle.feed_kbart.specs.RowValue.{RowValue}
use Rattle.feed_releases.specs.Actives.{ActiveValue}
use Rattle.node_site.specs.Site as site_file
use Rattle.node_titles.specs.Titles.{EntryValue, entry_of, folded, is_found}

-- the most rows that a walk looks at, and the most that it finds
abbrev pub look_limit : ℕ
look_limit = 20000

abbrev pub found_limit : ℕ
found_limit = 50

-- it ends once the texts of the rows that it looked at have this many bytes, so that a turn of the node does bounded work
abbrev pub text_limit : ℕ
text_limit = 2097152

-- a walk: the place of its first row, how many more rows it looks at and finds, how many more bytes of texts it looks at,
-- what it found, and the place of the first row that it left
pub record WalkValue : Type 0 where
  pub start : ℕ
  pub looks : ℕ
  pub room : ℕ
  pub bytes : ℕ
  pub found : List EntryValue
  pub next : Option ℕ

-- before its first row
abbrev pub walk_at : ℕ → WalkValue
walk_at start =
    record { start = start; looks = look_limit; room = found_limit; bytes = text_limit; found = []; next = None }

-- the place of the next row
abbrev pub place_of : WalkValue → ℕ
place_of walk = walk.start + (look_limit - walk.looks)

-- the walk ends before one more row
abbrev pub is_full : ℕ → ℕ → ℕ → Bool
is_full looks room bytes = (looks == 0) || (room == 0) || (bytes == 0)

-- the bytes that are left after the texts of a row
abbrev pub bytes_after : ℕ → RowValue → ℕ
bytes_after bytes row = bytes - length row.title - length row.depth - length row.embargo

-- the walk ends before the next row
abbrev pub ended : WalkValue → WalkValue
ended walk = record {
  start = walk.start;
  looks = walk.looks;
  room = walk.room;
  bytes = walk.bytes;
  found = walk.found;
  next = Some (place_of walk);
}

-- the next row is found, or passed; its texts count in both cases
abbrev pub with_found : WalkValue → EntryValue → WalkValue
with_found walk entry = record {
  start = walk.start;
  looks = walk.looks - 1;
  room = walk.room - 1;
  bytes = bytes_after walk.bytes entry.row;
  found = walk.found ++ entry ∷ [];
  next = walk.next;
}

abbrev pub passed : WalkValue → EntryValue → WalkValue
passed walk entry = record {
  start = walk.start;
  looks = walk.looks - 1;
  room = walk.room;
  bytes = bytes_after walk.bytes entry.row;
  found = walk.found;
  next = walk.next;
}

-- one row more
abbrev pub with_row : (EntryValue → Bool) → WalkValue → EntryValue → WalkValue
with_row test walk entry =
    if is_some walk.next then walk
    else if is_full walk.looks walk.room walk.bytes then ended walk
    else if test entry then with_found walk entry
    else passed walk entry

-- the rows of a release, and those of all releases: by package, and in the order of each list
abbrev pub rows_in : ActiveValue → List EntryValue
rows_in active = map (entry_of active.name) active.holdings.rows

abbrev pub rows_among : List ActiveValue → List EntryValue
rows_among actives = flat_map rows_in actives

-- the walk from a place on
abbrev pub walk_from : (EntryValue → Bool) → ℕ → List EntryValue → WalkValue
walk_from test start rows = fold (with_row test) (walk_at start) (drop start rows)

-- the walk over the rows of releases that finds those whose titles contain a text
unfoldable pub titles_from : site_file.SiteValue → List ℕ → ℕ → List ActiveValue → WalkValue
titles_from site text start actives = walk_from (is_found site (folded text)) start (rows_among actives)
