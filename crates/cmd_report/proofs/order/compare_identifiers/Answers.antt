use Rattle.std.proofs.Common.{◌∙◌, refl}
use Rattle.cmd_report.specs.Ranking.{row_of_cells}
use Rattle.cmd_report.proofs.order.compare_identifiers.Goals as goal

pub returns : goal.returns
unfolding row_of_cells
returns c =
    c.cmp.ensures
    ∙ rw (c.is_book.ensures, c.issn_in.ensures, c.issn_in-2.ensures, c.isbn_in.ensures, c.isbn_in-2.ensures, c.print-print.ensures, c.online-online.ensures)
    (rw (c.is_book-2.ensures, c.issn_in-3.ensures, c.issn_in-4.ensures, c.isbn_in-3.ensures, c.isbn_in-4.ensures, c.print-print-2.ensures, c.online-online-2.ensures) refl)
