-- The rows of a list whose bytes arrive from its front on, and how far a new list may shrink.
use Rattle.std.specs.Prelude.{◌≡◌, ◌-◌, ◌*◌, ◌++◌, ℕ, Bool, List, length, drop, nat_lt, Option, Some, None, IfSome}
use Rattle.feed_kbart.specs.Files.{bad_of, holdings_of}
use Rattle.feed_kbart.specs.HoldingsValue.{HoldingsValue}
use Rattle.feed_kbart.specs.declared.fault.BadFile.{BadFile}
use Rattle.feed_kbart.specs.ListChecks.{IsCheckOfList}
use Rattle.feed_names.specs.ReleaseName.{Name}
use Rattle.feed_model.specs.History.{History, IsFile, Reports}
use Rattle.node_file_checks.specs.declared.list_counts.ListCounts.{ListCounts}
use Rattle.node_file_checks.specs.declared.row_count.RowCount.{RowCount}

-- a list with this many rows is held in place of one with `before`, if at most this percent of the rows may go
abbrev pub is_held : ℕ → ℕ → ℕ → Bool
is_held percent before rows = nat_lt (rows * 100) (before * (100 - percent))

-- the counts of a list with these holdings
abbrev pub AreCounts : HoldingsValue → ListCounts → Type 0
AreCounts holdings counts = (counts.rows ≡ length holdings.rows) × (counts.aside ≡ length holdings.aside)

-- the counts of a whole file: those of a good one, and none of a bad one
abbrev pub AreCountsOf : List ℕ → Option ListCounts → Type 0
AreCountsOf text None = (why : BadFile) × (bad_of text ≡ Some why)
AreCountsOf text (Some counts) = (bad_of text ≡ None) × AreCounts (holdings_of text) counts

-- the counts of the active release of a package; none if it has none
abbrev pub AreActiveCounts : History → List ℕ → Option ListCounts → Type 0
AreActiveCounts h package_name None = Reports h package_name None
AreActiveCounts h package_name (Some counts) =
    (n : Name) × (text : List ℕ) × Reports h package_name (Some n) × IsFile h n text × AreCounts (holdings_of text) counts

-- the rows of a release that may be replaced; without one there are none
abbrev pub rows_before : Option ListCounts → ℕ
rows_before None = 0
rows_before (Some counts) = counts.rows

-- the bytes from the front on, once those from this place on have arrived
abbrev pub seen_with : List ℕ → ℕ → List ℕ → List ℕ
seen_with seen first bytes = seen ++ drop (length seen - first) bytes

-- exactly these bytes were counted, unless memory ran out
pub record HasCounted (rows : RowCount) (seen : List ℕ) : Type 0 where
  pub check : IfSome rows.check (IsCheckOfList seen)
  pub count : rows.count ≡ length seen
