-- Statements that have run, one after another.
use Rattle.std.proofs.Common.{◌≡◌, ℕ, List, [], ◌∷◌, ◌++◌, Result, OnOk, append-nil, refl, ap, subst}
use Rattle.std.proofs.lemmas.Result.{on_ok_weaker}
use Rattle.sqlite.specs.Held.{Held, state}
use Rattle.sqlite_trees.specs.declared.store.Store.{Ghosts}
use Rattle.sqlite_value.specs.Order.{Row}
use Rattle.feed_model.specs.Content.{Record}
use Rattle.feed_store_write.specs.Effects.{IsRun}
use Rattle.feed_store_write.specs.Statements.{HaveRun, IsWritten, Statement, reason_of, reasons_of}

module _ {S : Type 0} (store : Ghosts S) where
  -- one statement
  pub one_run : {X E : Type 0} (s : Statement) (text : List ℕ) (params : Row) (old new : Held S) (result : Result X E) → IsWritten s text params
      → OnOk result (IsRun text params (state store old) (state store new)) → OnOk result (HaveRun store (s ∷ []) old new)
  one_run s text params old new result is = on_ok_weaker result (λ ran. (text, params, is, new, ran, refl))

  -- some statements and then more
  pub runs_then : (some more : List Statement) (a b c : Held S) → HaveRun store some a b → HaveRun store more b c → HaveRun store (some ++ more) a c
  runs_then [] more a b c one two = subst (λ h. HaveRun store more h c) one two
  runs_then (s ∷ some) more a b c one two = (one.0, one.1, one.2, one.3, one.4, runs_then some more one.3 b c one.5 two)

  pub runs_both : {X E : Type 0} (some more : List Statement) (a b c : Held S) (result : Result X E) → HaveRun store some a b → OnOk result (HaveRun store more b c)
      → OnOk result (HaveRun store (some ++ more) a c)
  runs_both some more a b c result one = on_ok_weaker result (runs_then some more a b c one)

-- the statements for one more record
pub reasons_last : (rs : List Record) (r : Record) → reasons_of (rs ++ r ∷ []) ≡ reasons_of rs ++ reason_of r.name r.reason
reasons_last [] r = append-nil (reason_of r.name r.reason)
reasons_last (x ∷ rs) r = more (reason_of x.name x.reason) (reasons_last rs r)
  where
    more : (xs : List Statement) → reasons_of (rs ++ r ∷ []) ≡ reasons_of rs ++ reason_of r.name r.reason → xs ++ reasons_of (rs ++ r ∷ []) ≡ (xs ++ reasons_of rs) ++ reason_of r.name r.reason
    more [] last = last
    more (s ∷ xs) last = ap (λ (l : List Statement). s ∷ l) (more xs last)
