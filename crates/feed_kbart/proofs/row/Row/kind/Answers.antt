use Rattle.std.proofs.Common.{◌∙◌, ap}
use Rattle.feed_kbart.specs.Identifiers.{kind}
use Rattle.feed_kbart.specs.RowValue.{RowValue}
use Rattle.feed_kbart.proofs.row.Row.kind.Goals as goal

pub returns : goal.returns
returns c = c.kind.ensures ∙ ap (λ (row : RowValue). kind row.identifiers) c.cells.ensures.content
