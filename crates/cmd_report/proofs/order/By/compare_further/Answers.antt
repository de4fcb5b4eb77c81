use Rattle.std.proofs.Common.{◌∙◌, sym}
use Rattle.cmd_report.specs.Ranking.{row_of_cells}
use Rattle.cmd_report.proofs.Alike.{further_of_content, further_tied_content}
use Rattle.cmd_report.proofs.order.By.compare_further.Goals as goal

pub returns-then-has_same_cells : goal.returns-then-has_same_cells
returns-then-has_same_cells c = sym (further_tied_content c.args.self c.args.one.now c.args.other.now c.if-has_same_cells.ensures)

pub returns : goal.returns
unfolding row_of_cells
returns c =
    c.compare_cells.ensures
    ∙ further_of_content c.args.self _ _ c.args.one.now c.args.other.now c.cells.ensures.content c.cells-2.ensures.content
