use Rattle.std.proofs.Common.{◌∙◌, ap}
use Rattle.feed_kbart.specs.RowValue.{RowValue}
use Rattle.feed_kbart.proofs.row.Row.last_day.Goals as goal

pub returns : goal.returns
returns c = c.last_day.ensures ∙ ap (λ (row : RowValue). row.last_day) c.cells.ensures.content
