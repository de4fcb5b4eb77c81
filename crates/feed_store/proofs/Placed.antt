-- Databases that have the tables of a layout alone, or no table, are ours.
use Rattle.std.proofs.Common.{◌≡◌, Bool, IfErr, IsErrAnd, IsTrue, Err, Ok, Result, false, inl, inr, refl, sym, subst, ◌∙◌}
use Rattle.sqlite.specs.Effect.{Database}
use Rattle.sqlite.specs.Held.{Held, state}
use Rattle.sqlite_schema.specs.Names.{same_name}
use Rattle.feed_store_model.specs.Layout.{layout_1_schema, layout_2_schema, no_schema}
use Rattle.feed_store_model.specs.Others.{HasFirstTables, HasLayout1Tables, HasLayout2Tables, IsFree}
use Rattle.sqlite_trees.specs.declared.store.Store.{Ghosts}
use Rattle.feed_model.specs.Content.{Content}
use Rattle.feed_store_write.specs.Number.{HasNumber, HasOtherNumber}
use Rattle.feed_store_write.specs.Statements.{IsCommitted, creation, upgrading}
use Rattle.feed_store.specs.Adopted.{HasAllTablesOrNone, IsDoneBy, IsForeign, IsPrepared}

first_of_1 : HasFirstTables layout_1_schema
unfolding same_name
first_of_1 = record {
  layout = record { tree = 0; is = refl; keys = refl };
  release = record { tree = 1; is = refl; keys = refl };
  piece = record { tree = 3; is = refl; keys = refl };
  unreferenced = refl;
}

first_of_2 : HasFirstTables layout_2_schema
unfolding same_name
first_of_2 = record {
  layout = record { tree = 0; is = refl; keys = refl };
  release = record { tree = 1; is = refl; keys = refl };
  piece = record { tree = 3; is = refl; keys = refl };
  unreferenced = refl;
}

pub layout_1_placed : HasLayout1Tables layout_1_schema
unfolding same_name
layout_1_placed = record { first = first_of_1; free = refl }

pub layout_2_placed : HasLayout2Tables layout_2_schema
unfolding same_name
layout_2_placed = record { first = first_of_2; reason = record { tree = 5; is = refl; keys = refl } }

pub blank_free : IsFree no_schema
blank_free = record { free = refl; unreferenced = refl }

module _ (db : Database) where
  pub foreign_1 : db.schema ≡ layout_1_schema → HasOtherNumber 1 db → IsForeign db
  foreign_1 has other = inr (inl (subst HasLayout1Tables (sym has) layout_1_placed, other))

  pub foreign_2 : db.schema ≡ layout_2_schema → HasOtherNumber 2 db → IsForeign db
  foreign_2 has other = inr (inr (subst HasLayout2Tables (sym has) layout_2_placed, other))

  never : (d : Bool) → d ≡ false → IsTrue d → ⊥
  never d off is = let e = sym off ∙ is in cc

  -- none of three tests holds
  pub foreign_by : (a b c : Bool) → a ≡ false → b ≡ false → c ≡ false → (IsFree db.schema → IsTrue a) → (HasLayout2Tables db.schema → IsTrue b)
      → (HasLayout1Tables db.schema → IsTrue c) → IsForeign db
  foreign_by a b c off_a off_b off_c free second first = inl lacks
    where
      lacks : HasAllTablesOrNone db.schema → ⊥
      lacks (inl x) = never a off_a (free x)
      lacks (inr (inl x)) = never c off_c (first x)
      lacks (inr (inr x)) = never b off_b (second x)

-- the ways in which a database is adopted
module _ {S : Type 0} (store : Ghosts S) (old new : Held S) where
  pub new_here : IsFree (state store old).now.schema → IsCommitted store creation old new → IsPrepared store old new
  new_here free made = inl (free, (old, refl, made))

  pub second_here : HasLayout2Tables (state store old).now.schema → HasNumber 2 (state store old).now → (state store new).now ≡ (state store old).now → IsPrepared store old new
  second_here has number same = inr (inr (has, number, same))

  pub first_here : HasLayout1Tables (state store old).now.schema → (HasNumber 1 (state store old).now × (records : Content) × IsDoneBy store (upgrading records) old new)
      → IsPrepared store old new
  first_here has done = inr (inl (has, done.0, done.1, done.2))

  pub blank_here : (state store old).now.schema ≡ no_schema → IsCommitted store creation old new → IsPrepared store old new
  blank_here has made = new_here (subst IsFree (sym has) blank_free) made

-- of the error of a call
pub if_err_then : {X Y : Type 0} (r : Result X Y) (P Q : Y → Type 0) → ((y : Y) → P y → Q y) → IfErr r P → IfErr r Q
if_err_then (Ok x) P Q f p = tt
if_err_then (Err y) P Q f p = f y p

-- an error that is passed on as it is
pub passed_on : {X E : Type 0} (r : Result X E) (e : E) (Q : E → Type 0) → IsErrAnd r (λ f. f ≡ e) → Q e → IfErr r Q
passed_on (Ok x) e Q is q = tt
passed_on (Err f) e Q is q = subst Q (sym is) q

-- an error that was converted
pub converted : {X E : Type 0} (r : Result X E) (P Q : E → Type 0) → IsErrAnd r P → ((e : E) → P e → Q e) → IfErr r Q
converted (Ok x) P Q is by = tt
converted (Err f) P Q is by = by f is
