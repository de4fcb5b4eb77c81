-- The holdings of one record.
use Rattle.std.proofs.Common.{◌≡◌, ℕ, List, [], ◌∷◌, Option, Some, None, refl}
use Rattle.csv.specs.Records.{field_at}
use Rattle.feed_kbart.specs.Columns.{field_of}
use Rattle.feed_kbart.specs.Coverage.{kind_of, reason_of}
use Rattle.feed_kbart.specs.Holdings.{holdings_from}
use Rattle.feed_kbart.specs.Rows.{row_of}
use Rattle.feed_kbart.specs.Stored.{cells_of, stored_columns}
use Rattle.feed_kbart.specs.declared.header.Columns.{Columns}
use Rattle.feed_kbart.specs.declared.fault.Reason.{Reason}
use Rattle.feed_kbart.specs.declared.identifiers.Kind.{Kind}
use Rattle.feed_kbart.specs.declared.identifiers.Kind.TheVariants as of
use Rattle.feed_kbart.specs.declared.label.Label.TheVariants.{PublicationType}

pub holdings_from-row : (columns : Columns) (number : ℕ) (fields : List (List ℕ)) → reason_of columns fields ≡ None
    → holdings_from columns number (fields ∷ []) ≡ record { rows = row_of columns number fields ∷ []; aside = [] }
unfolding holdings_from
holdings_from-row columns number fields e = rw e refl

pub holdings_from-aside : (columns : Columns) (number : ℕ) (fields : List (List ℕ)) (reason : Reason) → reason_of columns fields ≡ Some reason
    → holdings_from columns number (fields ∷ []) ≡ record { rows = []; aside = record { number = number; reason = reason } ∷ [] }
unfolding holdings_from
holdings_from-aside columns number fields reason e = rw e refl

-- a record and its cells are the same row, or are skipped for the same reason
pub holdings_of_cells : (columns : Columns) (number : ℕ) (fields : List (List ℕ))
    → holdings_from stored_columns number (cells_of columns fields ∷ []) ≡ holdings_from columns number (fields ∷ [])
unfolding holdings_from field_at
holdings_of_cells columns number fields = go (kind_of (field_of columns PublicationType fields)) refl
  where
    go : (kind : Option Kind) → kind_of (field_of columns PublicationType fields) ≡ kind
        → holdings_from stored_columns number (cells_of columns fields ∷ []) ≡ holdings_from columns number (fields ∷ [])
    go None e = rw e refl
    go (Some of.Serial) e = rw e refl
    go (Some of.Book) e = rw e refl
