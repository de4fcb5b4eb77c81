-- The selection of the layout's number leaves every database as it was.
use Rattle.std.proofs.Common.{◌≡◌, inl, inr, List, ℕ, [], None, Some, Option, Bool, true, false, IsTrue, IfOk, MatchBool, refl, sym, subst, ◌∙◌}
use Rattle.sqlite_value.specs.Order.{Row}
use Rattle.sqlite_tied.specs.Compute.{everything}
use Rattle.sqlite_schema.specs.declared.command.Returning.{Returning}
use Rattle.sqlite_resolve.specs.declared.compiled.Compiled.{Compiled}
use Rattle.sqlite_resolve.specs.Compile.{first}
use Rattle.sqlite.specs.declared.error.Error.{Error}
use Rattle.sqlite.specs.Clock.{timed}
use Rattle.sqlite.specs.State.{State, FailsToQuery, FailsToShow, IsNotRun, IsRolledBack, IsUnchanged, Shown}
use Rattle.feed_store_model.proofs.ReadOnly.{IsRead, ShowsNone, read_shows_none}
use Rattle.sqlite.specs.Effect.{Database}
use Rattle.feed_store_write.specs.Number.{HasNumber, HasOtherNumber, Selects, row_of}
use Rattle.feed_store_write.specs.Texts.{select_version_text}

number_is_read : IfOk (first select_version_text) IsRead
unfolding everything
number_is_read = λ schema. (refl, λ base. refl)

-- the connection was open if it is, and then it sees what it saw
pub record Stays (old new : State) : Type 0 where
  pub was_open : IsTrue new.is_open → IsTrue old.is_open
  pub same : IsTrue new.is_open → new.now ≡ old.now

unchanged_stays : (old new : State) → IsUnchanged old new → Stays old new
unchanged_stays old new same = record { was_open = λ _. same.0.was_open; same = λ _. same.0.now_is }

-- outside a transaction there is nothing to undo
undone_stays : (old new : State) → (IsTrue old.is_open → old.now ≡ old.committed) → IsRolledBack old new → Stays old new
undone_stays old new settled undone = record {
  was_open = undone.was_open;
  same = λ is. (undone.undone is).0 ∙ sym (settled (undone.was_open is));
}

pub number_stays : (old new : State) (rows : List Row) → Shown select_version_text [] old new rows → Stays old new
unfolding Shown
number_stays old new rows h =
    let bare : ShowsNone h.0 = subst (λ r. IfOk r ShowsNone) h.1.is (read_shows_none select_version_text number_is_read old.now.schema) in
    unchanged_stays old new (rw bare.0 at h.2).3

-- the rows that were shown are those that the selection shows on the database
pub number_selected : (old new : State) (rows : List Row) → Shown select_version_text [] old new rows → Selects select_version_text old.now rows
unfolding Shown
number_selected old new rows h =
    let bare : ShowsNone h.0 = subst (λ r. IfOk r ShowsNone) h.1.is (read_shows_none select_version_text number_is_read old.now.schema) in
    let it = rw (bare.0, bare.1) at h.2 in
    (h.0, h.1.is, it.0, it.1, it.2)

not_shown : (old new : State) (settled : IsTrue old.is_open → old.now ≡ old.committed) (sql : List ℕ) (c : Compiled) (params : Row) (e : Error) (o : Option Returning)
    → FailsToShow old new sql c params e o → Stays old new
not_shown old new settled sql c params e None h = unchanged_stays old new h.3
not_shown old new settled sql c params e (Some what) (inl refused) = unchanged_stays old new refused.1
not_shown old new settled sql c params e (Some what) (inr fails) = undone_stays old new settled fails.3

pub failed_stays : (old new : State) (settled : IsTrue old.is_open → old.now ≡ old.committed) (sql : List ℕ) (e : Error) → FailsToQuery sql [] old new e → Stays old new
unfolding FailsToQuery IsNotRun
failed_stays old new settled sql e (inl (inl none)) = unchanged_stays old new none.1
failed_stays old new settled sql e (inl (inr fails)) = undone_stays old new settled fails.3
failed_stays old new settled sql e (inr it) = not_shown old new settled sql it.0 (timed [] it.0.formats it.1.now) e it.0.returning it.2

-- the test of the rows says which number the layout has
pub number_found : (k : ℕ) (db : Database) (rows : List Row) (is : Bool) → Selects select_version_text db rows → (IsTrue is → rows ≡ row_of k) → (rows ≡ row_of k → IsTrue is)
    → MatchBool is (HasNumber k db) (HasOtherNumber k db)
number_found k db rows true shown one other = subst (Selects select_version_text db) (one refl) shown
number_found k db rows false shown one other = (rows, shown, λ e. absurd (let f = other e in cc))
