-- A record and its cells as they are kept are the same row.
use Rattle.std.proofs.Common.{◌≡◌, ◌∙◌, ℕ, List, Option, Some, None, ap, option_map, codes}
use Rattle.std.specs.Prelude.{◌||◌, if◌then◌else◌, unwrap_or}
use Rattle.std.specs.List.{filter}
use Rattle.std.specs.Str.{str_eq_ignore_ascii_case}
use Rattle.csv.specs.Records.{field_at}
use Rattle.feed_dates.specs.DayRanges.{days_of}
use Rattle.feed_identifiers.specs.Isbn.{isbn_of_characters}
use Rattle.feed_bytes.specs.Trim.{is_no_hyphen, trimmed}
use Rattle.feed_identifiers.specs.Issn.{issn_of_characters}
use Rattle.feed_identifiers.specs.declared.identifier.Identifier.TheVariants.{Issn, Isbn}
use Rattle.feed_kbart.specs.Columns.{field_of}
use Rattle.feed_kbart.specs.Coverage.{coverage_as, coverage_of, is_empty, kind_of, kind_read, of_serial, volumes}
use Rattle.feed_kbart.specs.Identifiers.{identifier_of}
use Rattle.feed_kbart.specs.RowValue.{row_with}
use Rattle.feed_kbart.specs.Rows.{row_of, texts_of}
use Rattle.feed_kbart.specs.Stored.{cells_of, kept_cells, row_with_cells, stored_columns}
use Rattle.feed_kbart.specs.Volumes.{volume_of}
use Rattle.feed_kbart.specs.declared.header.Columns.{Columns}
use Rattle.feed_kbart.specs.declared.identifiers.Kind.{Kind}
use Rattle.feed_kbart.specs.declared.identifiers.Kind.TheVariants.{Serial, Book}
use Rattle.feed_kbart.specs.declared.label.Label.{Label}
use Rattle.feed_kbart.specs.declared.label.Label.TheVariants.{DateFirstIssueOnline, DateLastIssueOnline, NumFirstVolOnline, NumLastVolOnline, OnlineIdentifier, PrintIdentifier, PublicationType}
use Rattle.feed_kbart.proofs.Trimming.{trimmed_twice}

kind-kept : (text : List ℕ) → kind_of (trimmed text) ≡ kind_of text
kind-kept text i =
    if is_empty (trimmed_twice text i) || str_eq_ignore_ascii_case (trimmed_twice text i) (codes "serial") then Some Serial
    else if str_eq_ignore_ascii_case (trimmed_twice text i) (codes "monograph") then Some Book
    else None

identifier-kept : (of : Kind) (text : List ℕ) → identifier_of of (trimmed text) ≡ identifier_of of text
identifier-kept Serial text i = option_map Issn (issn_of_characters (trimmed_twice text i))
identifier-kept Book text i = option_map Isbn (isbn_of_characters (filter is_no_hyphen (trimmed_twice text i)))

module _ (columns : Columns) (fields : List (List ℕ)) where
  twice : (label : Label) → trimmed (trimmed (field_of columns label fields)) ≡ trimmed (field_of columns label fields)
  twice label = trimmed_twice (field_of columns label fields)

  coverage-as : (of : Kind) → coverage_as of stored_columns (kept_cells (cells_of columns fields)) ≡ coverage_as of columns fields
  unfolding field_at
  coverage-as of i = record {
    identifiers = record {
      kind = of;
      print = identifier-kept of (field_of columns PrintIdentifier fields) i;
      online = identifier-kept of (field_of columns OnlineIdentifier fields) i;
    };
    first_day = of_serial of (option_map (λ days. days.first) (days_of (twice DateFirstIssueOnline i)));
    last_day = of_serial of (option_map (λ days. days.last) (days_of (twice DateLastIssueOnline i)));
    first_volume = of_serial of (volumes (volume_of (twice NumFirstVolOnline i)) (volume_of (twice NumLastVolOnline i))).0;
    last_volume = of_serial of (volumes (volume_of (twice NumFirstVolOnline i)) (volume_of (twice NumLastVolOnline i))).1;
  }

  coverage-of : coverage_of stored_columns (kept_cells (cells_of columns fields)) ≡ coverage_of columns fields
  unfolding field_at
  coverage-of =
      ap (λ kind. coverage_as (unwrap_or kind Serial) stored_columns (kept_cells (cells_of columns fields))) (kind-kept (field_of columns PublicationType fields))
      ∙ coverage-as (kind_read (field_of columns PublicationType fields))

  -- the row
  pub row_of_kept : (number : ℕ) → row_with_cells number (kept_cells (cells_of columns fields)) ≡ row_of columns number fields
  unfolding field_at
  row_of_kept number = ap (λ coverage. row_with number coverage (texts_of columns fields)) coverage-of
