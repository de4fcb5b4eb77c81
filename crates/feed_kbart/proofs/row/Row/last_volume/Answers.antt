use Rattle.std.proofs.Common.{◌∙◌, ap}
use Rattle.feed_kbart.specs.RowValue.{RowValue}
use Rattle.feed_kbart.proofs.row.Row.last_volume.Goals as goal

pub returns : goal.returns
returns c = ap (λ volumes. volumes.1) c.volumes.ensures ∙ ap (λ (row : RowValue). row.last_volume) c.cells.ensures.content
