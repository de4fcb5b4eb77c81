-- A holdings file: what a library has of packages and titles, a line for each.
use Rattle.std.specs.Prelude.{ℕ, ◌+◌, ◌-◌, ◌==◌, Bool, false, true, List, [], ◌∷◌, length, count_by, take, drop, map, filter, codes, slice_index}
use Rattle.std.specs.Prelude.{if◌then◌else◌, option_map, None}
use Rattle.std.specs.Str.{bytes_eq}
use Rattle.feed_dates.specs.DayRanges.{days_of}
use Rattle.node_site.specs.Site.{HoldingValue, TitleValue, first_day, last_day}
use Rattle.node_site.specs.Urls.{after_byte, before_byte}

-- the byte-order mark of UTF-8, which a spreadsheet may write
abbrev pub mark : List ℕ
mark = 0xEF ∷ 0xBB ∷ 0xBF ∷ []

abbrev pub without_mark : List ℕ → List ℕ
without_mark text = if bytes_eq (take 3 text) mark then drop 3 text else text

-- a line without the carriage return at its end
abbrev pub without_return : List ℕ → List ℕ
without_return line = if slice_index line (length line - 1) == 13 then take (length line - 1) line else line

-- the line that begins at a place
abbrev pub line_at : List ℕ → ℕ → List ℕ
line_at text place = without_return (before_byte 10 (drop place text))

-- the number of this line: 1 for the first
abbrev pub line_number : List ℕ → ℕ → ℕ
line_number text place = 1 + count_by (λ b. b == 10) (take place text)

-- the names of the columns, in the first line
abbrev pub header : List ℕ
header = codes "package\ttitle_id\tfirst\tlast\theld"

-- the first line is the header
abbrev pub has_header : List ℕ → Bool
has_header text = bytes_eq (without_mark (line_at text 0)) header

-- where all other lines begin: behind each line feed, counted from a place
abbrev pub starts_from : ℕ → List ℕ → List ℕ
starts_from place [] = []
starts_from place (b ∷ rest) = if b == 10 then (place + 1) ∷ starts_from (place + 1) rest else starts_from (place + 1) rest

abbrev pub has_bytes : List ℕ → Bool
has_bytes [] = false
has_bytes (b ∷ rest) = true

-- a line that is not empty begins at the place
abbrev pub begins_row : List ℕ → ℕ → Bool
begins_row text place = has_bytes (line_at text place)

-- where the rows begin
abbrev pub row_places : List ℕ → List ℕ
row_places text = filter (begins_row text) (starts_from 0 text)

-- the cells of a line, between its tabs
pub record LineValue : Type 0 where
  pub package_id : List ℕ
  pub id : List ℕ
  pub first : List ℕ
  pub last : List ℕ
  pub held : List ℕ

abbrev pub cells_of : List ℕ → LineValue
cells_of line =
    let behind_package = after_byte 9 line in
    let behind_id = after_byte 9 behind_package in
    let behind_first = after_byte 9 behind_id in record {
      package_id = before_byte 9 line;
      id = before_byte 9 behind_package;
      first = before_byte 9 behind_id;
      last = before_byte 9 behind_first;
      held = after_byte 9 behind_first;
    }

-- the package and the title that the line at a place is about
abbrev pub subject_at : List ℕ → ℕ → List ℕ × List ℕ
subject_at text place = ((cells_of (line_at text place)).package_id, (cells_of (line_at text place)).id)

-- what the cells say that the library has
abbrev pub holding_in : LineValue → HoldingValue
holding_in cells = record {
  is_held = bytes_eq cells.held (codes "yes");
  first = option_map first_day (days_of cells.first);
  last = option_map last_day (days_of cells.last);
}

-- the row of a line
abbrev pub row_of : List ℕ → TitleValue
row_of line = record { package_id = (cells_of line).package_id; id = (cells_of line).id; note = None; holding = holding_in (cells_of line) }

-- the rows of a file, in its order
unfoldable pub rows_of : List ℕ → List TitleValue
rows_of text = map (λ place. row_of (line_at text place)) (row_places text)
