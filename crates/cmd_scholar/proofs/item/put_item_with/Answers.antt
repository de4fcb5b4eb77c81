use Rattle.std.proofs.Common.{◌++◌, ap, ◌∙◌}
use Rattle.std.proofs.lemmas.Result.{on_ok_weaker}
use Rattle.feed_kbart.specs.RowValue.{RowValue}
use Rattle.cmd_scholar.proofs.Written.{fragments_item}
use Rattle.cmd_scholar.proofs.item.put_item_with.Goals as goal

pub returns : goal.returns
returns c =
    on_ok_weaker c.put_all.result
    (λ written. written ∙ ap (λ t. c.args.out.now.items ++ t)
    (fragments_item c.args.embargo c.args.row.now c.cells-cells.result.publication_title.now c.print.result c.online.result c.first_day-first.result
    c.last_day-last.result c.cells-cells.ensures.title c.print.ensures c.online.ensures
    (c.first_day-first.ensures ∙ ap (λ (row : RowValue). row.first_day) c.cells-cells.ensures.content)
    (c.last_day-last.ensures ∙ ap (λ (row : RowValue). row.last_day) c.cells-cells.ensures.content)))
    c.put_all.ensures
