-- The index of a holdings file: an entry for each row, in the order of their keys, and the faults of the file as they are found.
use Rattle.std.specs.Prelude.{◌≡◌, ℕ, ◌+◌, ◌<◌, ◌≤◌, ◌||◌, max, Bool, true, false, List, ◌∷◌, length, drop, filter, if◌then◌else◌}
use Rattle.std.specs.Prelude.{slice_index_or, Some, is_some, IsUtf8}
use Rattle.std.specs.List.{AllAdjacentBelow, find, list_any}
use Rattle.node_site.specs.declared.entry.Entry.{Entry}
use Rattle.node_site.specs.Limits.{holdings_limit}
use Rattle.node_site.specs.declared.fault.ValueFault.TheVariants as bad
use Rattle.node_site.specs.declared.holdings_fault.BadLine.{BadLine}
use Rattle.node_site.specs.declared.holdings_fault.HoldingsFault.{HoldingsFault}
use Rattle.node_site.specs.declared.holdings_fault.HoldingsFault.TheVariants.{TooLong, NotUtf8, Line, Memory}
use Rattle.node_site.specs.Held.{is_on_listed}
use Rattle.node_site.specs.HoldingsFiles.{begins_row, has_header, line_at, row_of, rows_of, starts_from}
use Rattle.node_site.specs.HoldingsFaults.{IsConsistent, at_line, contradicts, first_fault}
use Rattle.node_site.specs.HoldingsEntries.{AreEntries, IsInOrder}
use Rattle.node_site.specs.Indexes.{place_at}
use Rattle.node_site.specs.declared.places.Places.{Places}

-- the entries of all rows in order, and no two rows contradict each other
pub record IsIndexed (text : List ℕ) (entries : List Entry) : Type 0 where
  pub fits : length text ≤ holdings_limit
  pub consistent : IsConsistent text
  pub same : AreEntries text entries
  pub sorted : IsInOrder text entries

-- where the rows behind a place begin
abbrev pub places_behind : List ℕ → ℕ → List ℕ
places_behind text place = filter (begins_row text) (starts_from place (drop place text))

-- the same, with the row that may begin at the place
abbrev pub places_from : List ℕ → ℕ → List ℕ
places_from text place = if begins_row text place then place ∷ places_behind text place else places_behind text place

-- why one of the rows at some places is refused
abbrev pub IsFirstFault : List ℕ → List ℕ → HoldingsFault → Type 0
IsFirstFault text places (Line fault) = first_fault text places ≡ Some fault
IsFirstFault text places Memory = Unit {0}
IsFirstFault text places TooLong = ⊥
IsFirstFault text places NotUtf8 = ⊥

-- up to a number of entries, no row contradicts the one before it
abbrev pub IsPeacefulBelow : List ℕ → List Entry → ℕ → Type 0
IsPeacefulBelow text entries high = AllAdjacentBelow (λ one other. contradicts text one.start other.start ≡ false) entries high

abbrev pub IsPeaceful : List ℕ → List Entry → Type 0
IsPeaceful text entries = IsPeacefulBelow text entries (length entries)

-- an entry of an index that has one at the place
abbrev pub start_at : List Entry → ℕ → ℕ
start_at entries place = (slice_index_or entries place (record { hash = 0; start = 0 })).start

-- the entry is that of a row which says that the library has a title of this package
abbrev pub is_on_entry : List ℕ → List ℕ → Entry → Bool
is_on_entry text package_id entry = is_on_listed package_id (row_of (line_at text entry.start))

-- the packages with such a row: those that have a place, and those of the entries that are left
abbrev pub AreOnBelow : List ℕ → List Entry → ℕ → Places → Type 0
AreOnBelow text entries place on =
    (id : List ℕ) → (is_some (place_at id on) || list_any (is_on_entry text id) (drop place entries)) ≡ list_any (is_on_entry text id) entries

-- a package has a place exactly if it has such a row
abbrev pub AreOnListed : List ℕ → Places → Type 0
AreOnListed text on = (id : List ℕ) → is_some (place_at id on) ≡ is_some (find (is_on_listed id) (rows_of text))

-- a row contradicts the one before it
pub record IsClash (text : List ℕ) (entries : List Entry) (fault : BadLine) : Type 0 where
  pub place : ℕ
  pub within : place + 1 < length entries
  pub clash : contradicts text (start_at entries place) (start_at entries (place + 1)) ≡ true
  pub is : fault ≡ at_line text (max (start_at entries place) (start_at entries (place + 1))) bad.Contradicts

-- the text is short enough, is UTF-8 and begins with the header
pub record IsHeaded (text : List ℕ) : Type 0 where
  pub fits : length text ≤ holdings_limit
  pub utf8 : IsUtf8 text
  pub header : has_header text ≡ true

-- why it is not
abbrev pub IsHeadFault : List ℕ → HoldingsFault → Type 0
IsHeadFault text TooLong = holdings_limit < length text
IsHeadFault text NotUtf8 = (length text ≤ holdings_limit) × ¬ IsUtf8 text
IsHeadFault text (Line fault) =
    (length text ≤ holdings_limit) × IsUtf8 text × (has_header text ≡ false) × (fault ≡ at_line text 0 bad.Header)
IsHeadFault text Memory = ⊥
