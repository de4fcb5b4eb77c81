-- The reading of a holdings file, as its callers see it.
use Rattle.std.specs.Prelude.{ℕ, List}

-- the text, and at most how many steps are left
pub record ReadingValue : Type 0 where
  pub text : List ℕ
  pub left : ℕ
