-- The orders of rows by which lists are paired. Two rows are `Equal` in one exactly if they are alike.
use Rattle.std.specs.Prelude.{ℕ, List}
use Rattle.std.specs.Cmp.Lexicographic.{slice_cmp}
use Rattle.std.specs.Option.{option_cmp, option_map_or}
use Rattle.std.specs.Ordering.{bool_cmp, int_cmp, nat_cmp, on, then_cmp}
use Rattle.std.specs.declared.cmp.Ordering.{Ordering}
use Rattle.feed_identifiers.specs.Identifier.{key_of}
use Rattle.feed_kbart.specs.Identifiers.{online_isbn, online_issn, print_isbn, print_issn}
use Rattle.feed_kbart.specs.RowCells.{content_of}
use Rattle.feed_kbart.specs.RowValue.{RowValue}
use Rattle.feed_kbart.specs.declared.identifiers.Identifiers.{Identifiers}
use Rattle.feed_kbart.specs.declared.row_cells.RowCells.{RowCells}
use Rattle.cmd_report.specs.Columns.{is_book}
use Rattle.cmd_report.specs.declared.order.By.{By}
use Rattle.cmd_report.specs.declared.order.By.TheVariants.{Content, TitleId, Url}

-- the row with these cells, without its number
unfoldable pub row_of_cells : RowCells → RowValue
row_of_cells cells = content_of cells

-- texts by their bytes
abbrev pub text_cmp : List ℕ → List ℕ → Ordering
text_cmp = slice_cmp nat_cmp

-- serials before books, and then by each identifier
abbrev pub identifiers_cmp : Identifiers → Identifiers → Ordering
identifiers_cmp =
    then_cmp (then_cmp (then_cmp (then_cmp (on is_book bool_cmp) (on print_issn (option_cmp text_cmp))) (on online_issn (option_cmp text_cmp)))
    (on print_isbn (option_cmp text_cmp))) (on online_isbn (option_cmp text_cmp))

-- by the days and the volumes
abbrev pub coverage_cmp : RowValue → RowValue → Ordering
coverage_cmp =
    then_cmp (then_cmp (then_cmp (on (λ (row : RowValue). row.first_day) (option_cmp int_cmp)) (on (λ (row : RowValue). row.last_day) (option_cmp int_cmp)))
    (on (λ (row : RowValue). row.first_volume) (option_cmp nat_cmp))) (on (λ (row : RowValue). row.last_volume) (option_cmp nat_cmp))

-- by the texts
abbrev pub texts_cmp : RowValue → RowValue → Ordering
texts_cmp =
    then_cmp (then_cmp (then_cmp (then_cmp (then_cmp (on (λ (row : RowValue). row.title_id) text_cmp) (on (λ (row : RowValue). row.url) text_cmp))
    (on (λ (row : RowValue). row.title) text_cmp)) (on (λ (row : RowValue). row.depth) text_cmp)) (on (λ (row : RowValue). row.embargo) text_cmp))
    (on (λ (row : RowValue). row.access) text_cmp)

-- by all columns
abbrev pub content_cmp : RowValue → RowValue → Ordering
content_cmp = then_cmp (then_cmp texts_cmp coverage_cmp) (on (λ (row : RowValue). row.identifiers) identifiers_cmp)

-- the key of the first identifier, or 0
abbrev pub first_number : Identifiers → ℕ
first_number identifiers = option_map_or key_of identifiers.print (option_map_or key_of identifiers.online 0)

abbrev pub number_cmp : RowValue → RowValue → Ordering
number_cmp = on (λ (row : RowValue). first_number row.identifiers) nat_cmp

-- by the columns by which rows are compared
abbrev pub further_cmp : By → RowValue → RowValue → Ordering
further_cmp Content = content_cmp
further_cmp TitleId = then_cmp (on (λ (row : RowValue). row.title_id) text_cmp) (on (λ (row : RowValue). row.identifiers) identifiers_cmp)
further_cmp Url = then_cmp (on (λ (row : RowValue). row.url) text_cmp) (on (λ (row : RowValue). row.identifiers) identifiers_cmp)

-- first by that number, since most rows differ in it
abbrev pub ranking : By → RowValue → RowValue → Ordering
ranking by = then_cmp number_cmp (further_cmp by)
