-- The rows of a file and its skipped records.
use Rattle.std.specs.Prelude.{ℕ, List, [], ◌++◌, Option, Some, None, if◌then◌else◌, is_none, option_map}
use Rattle.std.specs.List.{enumerate_from, filter_map}
use Rattle.feed_kbart.specs.Coverage.{reason_of}
use Rattle.feed_kbart.specs.HoldingsValue.{HoldingsValue}
use Rattle.feed_kbart.specs.RowValue.{RowValue}
use Rattle.feed_kbart.specs.Rows.{row_of}
use Rattle.feed_kbart.specs.declared.header.Columns.{Columns}
use Rattle.feed_kbart.specs.declared.holdings.Aside.{Aside}

-- the row of a numbered record, unless it is skipped
abbrev pub row_at : Columns → ℕ × List (List ℕ) → Option RowValue
row_at columns numbered =
    if is_none (reason_of columns numbered.1) then Some (row_of columns numbered.0 numbered.1) else None

-- the entry of a skipped record, unless it is a row
abbrev pub aside_at : Columns → ℕ × List (List ℕ) → Option Aside
aside_at columns numbered =
    option_map (λ reason. record { number = numbered.0; reason = reason }) (reason_of columns numbered.1)

-- the holdings of records numbered from here
unfoldable pub holdings_from : Columns → ℕ → List (List (List ℕ)) → HoldingsValue
holdings_from columns number records = record {
  rows = filter_map (row_at columns) (enumerate_from number records);
  aside = filter_map (aside_at columns) (enumerate_from number records);
}

-- no holdings
abbrev pub no_holdings : HoldingsValue
no_holdings = record { rows = []; aside = [] }

-- the concatenation of two holdings
abbrev pub join_holdings : HoldingsValue → HoldingsValue → HoldingsValue
join_holdings front back = record { rows = front.rows ++ back.rows; aside = front.aside ++ back.aside }
