-- The row of a record.
use Rattle.std.specs.Prelude.{ℕ, List}
use Rattle.feed_kbart.specs.Columns.{field_of}
use Rattle.feed_kbart.specs.Coverage.{coverage_of}
use Rattle.feed_kbart.specs.RowValue.{RowValue, TextsValue, row_with}
use Rattle.feed_kbart.specs.declared.header.Columns.{Columns}
use Rattle.feed_kbart.specs.declared.label.Label.TheVariants.{AccessType, CoverageDepth, EmbargoInfo, PublicationTitle, TitleId, TitleUrl}

-- the texts of a record, which are passed on unchanged
abbrev pub texts_of : Columns → List (List ℕ) → TextsValue
texts_of columns fields = record {
  title = field_of columns PublicationTitle fields;
  url = field_of columns TitleUrl fields;
  title_id = field_of columns TitleId fields;
  depth = field_of columns CoverageDepth fields;
  embargo = field_of columns EmbargoInfo fields;
  access = field_of columns AccessType fields;
}

-- the row of a record
abbrev pub row_of : Columns → ℕ → List (List ℕ) → RowValue
row_of columns number fields = row_with number (coverage_of columns fields) (texts_of columns fields)
