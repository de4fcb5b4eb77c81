-- A statement inside a transaction.
use Rattle.std.proofs.Common.{arith, ◌≡◌, ◌∙◌, ℕ, List, Bool, true, false, Ok, Err, Result, IsErr, OnOk, refl, inl}
use Rattle.std.specs.Borrow.{MutBor}
use Rattle.std.proofs.lemmas.Result.{on_ok_weaker}
use Rattle.sqlite_value.specs.Order.{Row}
use Rattle.sqlite.specs.declared.error.Error.{Error}
use Rattle.sqlite.specs.Effect.{Database}
use Rattle.sqlite.specs.Held.{Held, state}
use Rattle.sqlite.specs.State.{State, Executes, ExecutesInside, HasCleanDisk, KeepsCommit}
use Rattle.sqlite.proofs.InsideLemmas.{inside_keeps, keeps_then}
use Rattle.sqlite.proofs.StateLemmas.{survives_then}
use Rattle.sqlite_trees.specs.declared.store.Store.{Ghosts}
use Rattle.feed_store_write.specs.Effects.{IsMade, IsRun, StaysInside}

module _ (text : List ℕ) (params : Row) (old new : State) where
  -- a transaction that is open runs it; one that has ended takes no statement
  pub ran_inside : (result : Result ℕ Error) → (old.in_transaction ≡ false → IsErr result) → (old.in_transaction ≡ true → ExecutesInside 0 text params old new result)
      → OnOk result (IsRun text params old new)
  ran_inside result ended runs = by result old.in_transaction refl ended runs
    where
      by : (result : Result ℕ Error) (b : Bool) → old.in_transaction ≡ b → (old.in_transaction ≡ false → IsErr result)
          → (old.in_transaction ≡ true → ExecutesInside 0 text params old new result) → OnOk result (IsRun text params old new)
      by (Err e) b is ended runs = tt
      by (Ok count) false is ended runs = absurd (let e = ended is in cc)
      by (Ok count) true is ended runs = let it = runs is in record { count = count; runs = it.0; committed = it.1.committed_is; inside = λ _. it.1.mode }

  -- what the statement makes is made inside the transaction
  pub made_by : {X E : Type 0} (Change : Database → Database → Type 0) (result : Result X E) → ((count : ℕ) → Executes text params old new (Ok count) → Change old.now new.now)
      → OnOk result (IsRun text params old new) → OnOk result (IsMade Change old new)
  made_by Change result makes = on_ok_weaker result (λ it. record { change = makes it.count it.runs; committed = it.committed; inside = it.inside })

  -- and commits nothing
  pub kept_inside : (result : Result ℕ Error) → (old.in_transaction ≡ false → new ≡ old) → (old.in_transaction ≡ true → ExecutesInside 0 text params old new result)
      → KeepsCommit old new
  kept_inside result ended runs = by old.in_transaction refl
    where
      by : (b : Bool) → old.in_transaction ≡ b → KeepsCommit old new
      by false is = let e = ended is in rw e (record { was_open = λ is_on. is_on; committed = λ is_on. refl })
      by true is = inside_keeps old new 0 false text params result (runs is)

module _ {S : Type 0} {store : Ghosts S} where
  -- nothing was done
  pub nothing_done : {h : MutBor (Held S)} → StaysInside store h h
  nothing_done = record {
    same_reference = refl;
    kept = λ clean. record { was_open = λ on. on; committed = λ on. refl };
    survives = record { clean = omega arith; shield = λ s. s; counts = omega arith; limit = refl; closes = λ clean on. inl on; crash = λ clean db it. inl it };
  }

  -- the disk had returned what was written
  pub clean_before : {b c : MutBor (Held S)} → StaysInside store b c → HasCleanDisk (state store c.now) → HasCleanDisk (state store b.now)
  clean_before two clean = omega (arith, two.survives.clean)

  -- two calls, one after the other
  pub both_inside : {a b c : MutBor (Held S)} → StaysInside store a b → StaysInside store b c → StaysInside store a c
  both_inside {a} {b} {c} one two = record {
    same_reference = two.same_reference ∙ one.same_reference;
    kept = λ clean. keeps_then (state store a.now) (state store b.now) (state store c.now) (one.kept (clean_before two clean)) (two.kept clean);
    survives = survives_then (state store a.now) (state store b.now) (state store c.now) (λ _. ⊥) (λ _. ⊥) (λ _. ⊥) (λ _ db none. none) (λ _ db none. none) one.survives two.survives;
  }
