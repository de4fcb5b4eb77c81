use Rattle.std.proofs.Common.{◌∙◌, ap, sym}
use Rattle.feed_kbart.specs.Identifiers.{kind}
use Rattle.feed_kbart.specs.RowCells.{cells_as, texts_of_cells}
use Rattle.feed_kbart.specs.RowValue.{RowValue, row_with}
use Rattle.feed_kbart.proofs.law.cells_are_getters.Goals as goal

pub returns : goal.returns
returns c row cells same = sym same ∙ ap (λ (it : RowValue). row_with 0 (cells_as (kind it.identifiers) cells) (texts_of_cells cells)) same
