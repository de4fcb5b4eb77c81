-- The cells of a row, and the values that they have.
use Rattle.std.specs.Prelude.{◌≡◌, ℕ, List, [], ◌∷◌}
use Rattle.feed_kbart.specs.Coverage.{CoverageValue, coverage_by, kind_read}
use Rattle.feed_kbart.specs.Identifiers.{kind}
use Rattle.feed_kbart.specs.RowValue.{RowValue, TextsValue, content, row_with}
use Rattle.feed_kbart.specs.declared.identifiers.Kind.{Kind}
use Rattle.feed_kbart.specs.declared.row_cells.RowCells.{RowCells}

-- the cells in the order in which they are stored
abbrev pub in_order : RowCells → List (List ℕ)
in_order cells =
    cells.print_identifier.now ∷ cells.online_identifier.now ∷ cells.publication_type.now ∷ cells.date_first_issue_online.now
    ∷ cells.date_last_issue_online.now ∷ cells.num_first_vol_online.now ∷ cells.num_last_vol_online.now ∷ cells.title_id.now ∷ cells.title_url.now
    ∷ cells.publication_title.now ∷ cells.coverage_depth.now ∷ cells.embargo_info.now ∷ cells.access_type.now ∷ []

-- the texts among the cells
abbrev pub texts_of_cells : RowCells → TextsValue
texts_of_cells cells = record {
  title = cells.publication_title.now;
  url = cells.title_url.now;
  title_id = cells.title_id.now;
  depth = cells.coverage_depth.now;
  embargo = cells.embargo_info.now;
  access = cells.access_type.now;
}

-- what the cells of a title of this kind cover
abbrev pub cells_as : Kind → RowCells → CoverageValue
cells_as of cells =
    coverage_by of cells.print_identifier.now cells.online_identifier.now cells.date_first_issue_online.now cells.date_last_issue_online.now
    cells.num_first_vol_online.now cells.num_last_vol_online.now

-- the row with these cells, without its number
abbrev pub content_of : RowCells → RowValue
content_of cells = row_with 0 (cells_as (kind_read cells.publication_type.now) cells) (texts_of_cells cells)

-- the getters of a row return what its cells say
abbrev pub AreCellsOf : RowValue → RowCells → Type 0
AreCellsOf row cells = content row ≡ row_with 0 (cells_as (kind row.identifiers) cells) (texts_of_cells cells)
