-- Which bytes are a holdings file, and why others are not.
use Rattle.std.specs.Prelude.{◌≡◌, ◌≢◌, ◌⊎◌, ℕ, ◌≤◌, ◌<◌, ◌==◌, ◌&&◌, ◌||◌, Bool, not, List, [], ◌∷◌, length, Contains, count_by, codes, Option, Some, None, IsUtf8, if◌then◌else◌}
use Rattle.std.specs.Str.{bytes_eq}
use Rattle.feed_dates.specs.DayRanges.{days_of}
use Rattle.node_site.specs.declared.fault.ValueFault.{ValueFault}
use Rattle.node_site.specs.declared.fault.ValueFault.TheVariants as bad
use Rattle.node_site.specs.declared.cells.CellFlaw.{CellFlaw}
use Rattle.node_site.specs.declared.column.Column.{Column}
use Rattle.node_site.specs.declared.column.Column.TheVariants as column
use Rattle.node_site.specs.declared.holdings_fault.BadLine.{BadLine}
use Rattle.node_site.specs.declared.holdings_fault.HoldingsFault.{HoldingsFault}
use Rattle.node_site.specs.declared.holdings_fault.HoldingsFault.TheVariants.{TooLong, NotUtf8, Line, Memory}
use Rattle.node_site.specs.Limits.{holdings_limit}
use Rattle.node_site.specs.Faults.{is_backward}
use Rattle.node_site.specs.Kinds.{is_date, is_package, is_text}
use Rattle.node_site.specs.HoldingsFiles.{LineValue, cells_of, has_bytes, has_header, line_at, line_number, row_places, subject_at}

-- what is wrong with a line that begins at a place, as a whole or in a column
abbrev pub at_line : List ℕ → ℕ → ValueFault → BadLine
at_line text place reason = record { line = line_number text place; column = None; reason = reason }

abbrev pub at_column : List ℕ → ℕ → Column → ValueFault → BadLine
at_column text place column reason = record { line = line_number text place; column = Some column; reason = reason }

-- a cell is empty or passes a test
abbrev pub is_empty_or : (List ℕ → Bool) → List ℕ → Bool
is_empty_or test cell = not (has_bytes cell) || test cell

abbrev pub is_yes_or_no : List ℕ → Bool
is_yes_or_no cell = bytes_eq cell (codes "yes") || bytes_eq cell (codes "no")

-- a flaw of a cell
abbrev pub flaw_at : Column → ValueFault → Option CellFlaw
flaw_at column reason = Some (record { column = column; reason = reason })

-- the first cell that is not accepted, and the reason
abbrev pub cells_flaw : LineValue → Option CellFlaw
cells_flaw cells =
    if not (is_package cells.package_id) then flaw_at column.Package bad.Package
    else if not (is_empty_or is_text cells.id) then flaw_at column.TitleId bad.TextSize
    else if not (is_empty_or is_date cells.first) then flaw_at column.First bad.Date
    else if not (is_empty_or is_date cells.last) then flaw_at column.Last bad.Date
    else if is_backward (days_of cells.first) (days_of cells.last) then flaw_at column.Last bad.Order
    else if not (is_yes_or_no cells.held) then flaw_at column.Held bad.NotYesOrNo
    else None

-- a line has five cells: four tabs
abbrev pub has_five_cells : List ℕ → Bool
has_five_cells line = count_by (λ b. b == 9) line == 4

abbrev pub cell_fault : List ℕ → ℕ → Option CellFlaw → Option BadLine
cell_fault text place None = None
cell_fault text place (Some flaw) = Some (at_column text place flaw.column flaw.reason)

-- what is wrong with the line at a place
abbrev pub line_fault : List ℕ → ℕ → Option BadLine
line_fault text place =
    if has_five_cells (line_at text place) then cell_fault text place (cells_flaw (cells_of (line_at text place)))
    else Some (at_line text place bad.Columns)

abbrev pub or_fault : Option BadLine → Option BadLine → Option BadLine
or_fault (Some fault) other = Some fault
or_fault None other = other

-- the first fault of the lines at some places
abbrev pub first_fault : List ℕ → List ℕ → Option BadLine
first_fault text [] = None
first_fault text (place ∷ places) = or_fault (line_fault text place) (first_fault text places)

-- the first fault of a file: its header, or else its rows
unfoldable pub file_fault : List ℕ → Option BadLine
file_fault text = if has_header text then first_fault text (row_places text) else Some (at_line text 0 bad.Header)

-- rows about one title, or about one package, say the same
pub record IsConsistent (text : List ℕ) : Type 0 where
  pub alike : (one other : ℕ) → Contains (row_places text) one → Contains (row_places text) other → subject_at text one ≡ subject_at text other
      → line_at text one ≡ line_at text other

-- the fault of two rows that are about one title or package and differ
abbrev pub is_subject : List ℕ × List ℕ → List ℕ × List ℕ → Bool
is_subject one other = bytes_eq one.0 other.0 && bytes_eq one.1 other.1

abbrev pub contradicts : List ℕ → ℕ → ℕ → Bool
contradicts text one other = is_subject (subject_at text one) (subject_at text other) && not (bytes_eq (line_at text one) (line_at text other))

-- a row that says something else than one before it about the same title or package
pub record IsContradiction (text : List ℕ) (fault : BadLine) : Type 0 where
  pub earlier : ℕ
  pub later : ℕ
  pub before : earlier < later
  pub earlier_row : Contains (row_places text) earlier
  pub later_row : Contains (row_places text) later
  pub same : subject_at text earlier ≡ subject_at text later
  pub differs : line_at text earlier ≢ line_at text later
  pub is : fault ≡ at_line text later bad.Contradicts

-- the bytes are a holdings file
pub record IsHoldingsFile (bytes : List ℕ) : Type 0 where
  pub fits : length bytes ≤ holdings_limit
  pub utf8 : IsUtf8 bytes
  pub is_fine : file_fault bytes ≡ None
  pub consistent : IsConsistent bytes

-- why some bytes are not read as a holdings file: the length is checked first, then UTF-8, then each line, and then whether
-- they contradict each other; `Memory` is an allocation failure
abbrev pub IsHoldingsFault : List ℕ → HoldingsFault → Type 0
IsHoldingsFault bytes TooLong = holdings_limit < length bytes
IsHoldingsFault bytes NotUtf8 = (length bytes ≤ holdings_limit) × ¬ IsUtf8 bytes
IsHoldingsFault bytes (Line fault) =
    (length bytes ≤ holdings_limit) × IsUtf8 bytes × ((file_fault bytes ≡ Some fault) ⊎ ((file_fault bytes ≡ None) × IsContradiction bytes fault))
IsHoldingsFault bytes Memory = (length bytes ≤ holdings_limit) × IsUtf8 bytes
