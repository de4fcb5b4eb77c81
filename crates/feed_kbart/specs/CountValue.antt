-- The model value of a file's counts.
use Rattle.std.specs.Prelude.{ℕ, List}
use Rattle.feed_kbart.specs.declared.holdings.Aside.{Aside}

-- the number of rows, and the skipped records in file order
pub record CountValue : Type 0 where
  pub rows : ℕ
  pub aside : List Aside
