-- A row of the table of texts.
use Rattle.std.specs.Prelude.{ℕ, List}

-- the name of a text, and its words in each language
pub record RowValue : Type 0 where
  pub name : List ℕ
  pub english : List ℕ
  pub german : List ℕ
  pub french : List ℕ
