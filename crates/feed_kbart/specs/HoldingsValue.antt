-- The model value of a file's holdings.
use Rattle.std.specs.Prelude.{List}
use Rattle.feed_kbart.specs.RowValue.{RowValue}
use Rattle.feed_kbart.specs.declared.holdings.Aside.{Aside}

-- the rows and the skipped records, both in file order
pub record HoldingsValue : Type 0 where
  pub rows : List RowValue
  pub aside : List Aside
