-- The effect of inserting a row on the tables.
use Rattle.std.proofs.Common.{◌≡◌, ◌≢◌, Bool, true, false, ℤ, List, [], ◌∷◌, cond, refl}
use Rattle.std.specs.List.{AllByRecursion}
use Rattle.sqlite_value.specs.declared.value.Value.{Value}
use Rattle.sqlite_value.specs.declared.value.Value.TheVariants.{Null, Int}
use Rattle.sqlite_value.specs.Order.{Row}
use Rattle.sqlite.specs.Table.{Table}
use Rattle.sqlite.specs.Ops.{unary}
use Rattle.sqlite.specs.Cast.{cast}
use Rattle.sqlite.specs.Kind.TheVariants.{Integer}
use Rattle.sqlite.specs.Tree.{put_row}
use Rattle.sqlite.specs.Effect.{Database, IsDatabase}
use Rattle.sqlite_rules.specs.Edit.{is_taken, are_fresh}
use Rattle.feed_store_model.proofs.Basics.{not_broken}
use Rattle.feed_store_model.specs.Layout.{layout_2_schema}

either : (b : Bool) (x : Value) → cond b x x ≡ x
either true x = refl
either false x = refl

-- a column of integers takes an integer, and no value, as they are
pub cast_null : cast Integer Null ≡ Null
unfolding unary
cast_null = either _ Null

pub cast_int : (n : ℤ) → cast Integer (Int n) ≡ Int n
unfolding unary
cast_int n = either _ (Int n)

pub free_from : (rows : List Row) (row : Row) → are_fresh rows (row ∷ []) ≡ true → is_taken rows row ≡ false
free_from rows row h = not_broken (is_taken rows row) h

-- a row is put into a table, under a rowid that was free, and nothing else
pub record Puts (table : Table) (row : Row) (old new : Database) : Type 0 where
  pub schema : new.schema ≡ layout_2_schema
  pub sound : IsDatabase new
  pub free : is_taken (old.trees table.tree) row ≡ false
  pub rows : new.trees table.tree ≡ put_row row (old.trees table.tree)
  pub others : AllByRecursion (λ t. t.tree ≢ table.tree → new.trees t.tree ≡ old.trees t.tree) layout_2_schema.tables
