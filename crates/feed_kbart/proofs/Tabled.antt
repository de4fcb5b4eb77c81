-- The holdings of the first records of a list, and of the records after them.
use Rattle.std.proofs.Common.{◌≡◌, ◌≤◌, ◌+◌, ◌∙◌, ℕ, List, [], ◌∷◌, ◌++◌, length, refl, ap, arith}
use Rattle.std.proofs.lemmas.List.{length-append}
use Rattle.feed_text.specs.Records.{records_of}
use Rattle.feed_kbart.specs.Columns.{columns_of}
use Rattle.feed_kbart.specs.Files.{holdings_in, holdings_of}
use Rattle.feed_kbart.specs.Holdings.{holdings_from, join_holdings, no_holdings}
use Rattle.feed_kbart.specs.declared.header.Columns.{Columns}
use Rattle.feed_kbart.proofs.Cuts.{length-records_of}
use Rattle.feed_kbart.proofs.Steps.{holdings_from-cons, holdings_from-nil, joined_assoc, joined_one}

pub holdings_from-append : (columns : Columns) (number : ℕ) (front back : List (List (List ℕ)))
    → join_holdings (holdings_from columns number front) (holdings_from columns (number + length front) back) ≡ holdings_from columns number (front ++ back)
holdings_from-append columns number [] back =
    let same : number + 0 ≡ number = omega arith in
    rw (holdings_from-nil columns number, same) refl
holdings_from-append columns number (fields ∷ front) back =
    let same : number + length (fields ∷ front) ≡ (number + 1) + length front = omega arith in
    let one = holdings_from columns number (fields ∷ []) in
    rw (same, ← holdings_from-cons columns number fields front)
    (joined_assoc one (holdings_from columns (number + 1) front) (holdings_from columns ((number + 1) + length front) back)
    ∙ ap (join_holdings one) (holdings_from-append columns (number + 1) front back)
    ∙ holdings_from-cons columns number fields (front ++ back))

one_row : (columns : Columns) (number : ℕ) (fields : List (List ℕ)) → length (holdings_from columns number (fields ∷ [])).rows ≤ 1
one_row columns number fields = omega (arith, joined_one no_holdings columns number fields)

-- a record makes a row at most
pub length-rows : (columns : Columns) (number : ℕ) (records : List (List (List ℕ))) → length (holdings_from columns number records).rows ≤ length records
length-rows columns number [] = rw (holdings_from-nil columns number) (omega arith)
length-rows columns number (fields ∷ records) =
    let one = holdings_from columns number (fields ∷ []) in
    let others = holdings_from columns (number + 1) records in
    rw (← holdings_from-cons columns number fields records)
    (omega (arith, length-append one.rows others.rows, one_row columns number fields, length-rows columns (number + 1) records))

-- the rows of a list are not more than its bytes
pub few_rows : (text : List ℕ) → length (holdings_of text).rows ≤ length text
unfolding holdings_of
few_rows text = go (records_of text) (length-records_of text)
  where
    go : (records : List (List (List ℕ))) → length records ≤ length text → length (holdings_in records).rows ≤ length text
    go [] few = omega arith
    go (header ∷ records) few = omega (arith, few, length-rows (columns_of header) 2 records)
