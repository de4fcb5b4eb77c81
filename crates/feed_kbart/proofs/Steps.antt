-- How the rows grow with each record that is read.
use Rattle.std.proofs.Common.{◌≡◌, ◌≤◌, ◌+◌, ℕ, List, [], ◌∷◌, length, Option, Some, None, IfSome, refl, arith}
use Rattle.std.proofs.Common.{append_assoc, length-append}
use Rattle.std.proofs.lemmas.List.{append-nil}
use Rattle.feed_kbart.specs.Coverage.{reason_of}
use Rattle.feed_kbart.specs.Holdings.{holdings_from, join_holdings, no_holdings}
use Rattle.feed_kbart.specs.HoldingsValue.{HoldingsValue}
use Rattle.feed_kbart.specs.declared.fault.Reason.{Reason}
use Rattle.feed_kbart.specs.declared.header.Columns.{Columns}

join_holdings-none : (held : HoldingsValue) → join_holdings held no_holdings ≡ held
join_holdings-none held = rw (append-nil held.rows, append-nil held.aside) refl

pub joined_assoc : (a b c : HoldingsValue) → join_holdings (join_holdings a b) c ≡ join_holdings a (join_holdings b c)
joined_assoc a b c = rw (append_assoc a.rows b.rows c.rows, append_assoc a.aside b.aside c.aside) refl

pub holdings_from-nil : (columns : Columns) (number : ℕ) → holdings_from columns number [] ≡ no_holdings
unfolding holdings_from
holdings_from-nil columns number = refl

pub holdings_from-cons : (columns : Columns) (number : ℕ) (fields : List (List ℕ)) (records : List (List (List ℕ)))
    → join_holdings (holdings_from columns number (fields ∷ [])) (holdings_from columns (number + 1) records) ≡ holdings_from columns number (fields ∷ records)
unfolding holdings_from
holdings_from-cons columns number fields records = go (reason_of columns fields) refl
  where
    go : (o : Option Reason) → reason_of columns fields ≡ o
        → join_holdings (holdings_from columns number (fields ∷ [])) (holdings_from columns (number + 1) records) ≡ holdings_from columns number (fields ∷ records)
    go None e = rw e refl
    go (Some why) e = rw e refl

-- a record makes one row at most
pub joined_one : (held : HoldingsValue) (columns : Columns) (number : ℕ) (fields : List (List ℕ))
    → length (join_holdings held (holdings_from columns number (fields ∷ []))).rows ≤ length held.rows + 1
unfolding holdings_from
joined_one held columns number fields = go (reason_of columns fields) refl
  where
    go : (o : Option Reason) → reason_of columns fields ≡ o → length (join_holdings held (holdings_from columns number (fields ∷ []))).rows ≤ length held.rows + 1
    go None e = rw (e, length-append) (omega arith)
    go (Some why) e = rw (e, length-append) (omega arith)

pub if_some : {A : Type 0} (o : Option A) (P : A → Type 0) → ((x : A) → o ≡ Some x → P x) → IfSome o P
if_some None P f = tt
if_some (Some x) P f = f x refl
