-- The cells of a row, and the values that they have.
use Rattle.std.proofs.Common.{◌≡◌, ◌∙◌, ℕ, List, Option, Some, None, IfSome, ap, option_map, refl, sym}
use Rattle.csv.specs.Records.{field_at}
use Rattle.feed_identifiers.specs.Isbn.{isbn_of}
use Rattle.feed_identifiers.specs.Issn.{issn_of}
use Rattle.feed_identifiers.specs.declared.identifier.Identifier.TheVariants.{Issn, Isbn}
use Rattle.feed_kbart.specs.Identifiers.{identifier_of, kind_with}
use Rattle.feed_kbart.specs.RowCells.{content_of, in_order}
use Rattle.feed_kbart.specs.RowValue.{content}
use Rattle.feed_kbart.specs.Stored.{row_with_cells}
use Rattle.feed_kbart.specs.declared.identifiers.Kind.{Kind}
use Rattle.feed_kbart.specs.declared.identifiers.Kind.TheVariants.{Serial, Book}
use Rattle.feed_kbart.specs.declared.row_cells.RowCells.{RowCells}

-- the row of stored cells is that of the cells
of_stored : (cells : RowCells) → row_with_cells 0 (in_order cells) ≡ content_of cells
unfolding field_at
of_stored cells = refl

pub of_record : (cells : RowCells) (number : ℕ) (stored : List (List ℕ)) → in_order cells ≡ stored → content_of cells ≡ content (row_with_cells number stored)
of_record cells number stored is = sym (of_stored cells) ∙ ap (row_with_cells 0) is

-- an identifier that is parsed is of its title's kind
pub of_kind : (of : Kind) (text : List ℕ) → IfSome (identifier_of of text) (λ one. kind_with one ≡ of)
of_kind Serial text = go (issn_of text)
  where
    go : (issn : Option (List ℕ)) → IfSome (option_map Issn issn) (λ one. kind_with one ≡ Serial)
    go None = tt
    go (Some issn) = refl
of_kind Book text = go (isbn_of text)
  where
    go : (isbn : Option (List ℕ)) → IfSome (option_map Isbn isbn) (λ one. kind_with one ≡ Book)
    go None = tt
    go (Some isbn) = refl
