-- The effects of calls on a database.
use Rattle.std.specs.Prelude.{◌≡◌, ◌↔◌, ◌∷◌, ℕ, List, Bool, IsTrue, [], map, OnOk, Ok, pos, Result}
use Rattle.std.specs.Borrow.{MutBor}
use Rattle.feed_model.specs.Change.{Change, IsAllowedWithin, after}
use Rattle.feed_model.specs.Content.{Content}
use Rattle.sqlite.specs.Effect.{Database, IsDatabase}
use Rattle.sqlite.specs.Held.{Held, state}
use Rattle.sqlite.specs.State.{State, Executes, HasCleanDisk, IsUnchanged, KeepsCommit, Survives}
use Rattle.sqlite.specs.Values.{bound}
use Rattle.sqlite_trees.specs.declared.store.Store.{Ghosts}
use Rattle.sqlite_trees.specs.Tree.{rowid}
use Rattle.sqlite_value.specs.declared.value.Value.TheVariants.{Int}
use Rattle.sqlite_value.specs.declared.value.ValueRef.{ValueRef}
use Rattle.sqlite_value.specs.Order.{Row}
use Rattle.sqlite.specs.Table.{Table}
use Rattle.sqlite_schema.specs.declared.schema.Index.{Index}
use Rattle.feed_store_model.specs.Layout.{schema_with, layout_1_schema, layout_2_schema}
pub use Rattle.feed_store_model.specs.Live.{IsLive}
use Rattle.feed_store_model.specs.Tables.{IsChanged, IsLayout1, HoldsReleases, HoldsRecords, IsLayout2, content_without_reasons, stored_content}

-- the change is made inside the transaction, which stays open
pub record IsMade (Change : Database → Database → Type 0) (old new : State) : Type 0 where
  pub change : Change old.now new.now
  pub committed : new.committed ≡ old.committed
  pub inside : IsTrue old.in_transaction → IsTrue new.in_transaction

-- a call that succeeds makes the change inside the transaction
abbrev pub IsMadeOnOk : {S X E : Type 0} → Ghosts S → (Database → Database → Type 0) → Held S → Held S → Result X E → Type 0
IsMadeOnOk store Change old new result = HasCleanDisk (state store new) → OnOk result (IsMade Change (state store old) (state store new))

-- a statement has run inside the transaction, which stays open
pub record IsRun (text : List ℕ) (params : Row) (old new : State) : Type 0 where
  pub count : ℕ
  pub runs : Executes text params old new (Ok count)
  pub committed : new.committed ≡ old.committed
  pub inside : IsTrue old.in_transaction → IsTrue new.in_transaction

-- a call that succeeds runs the statement inside the transaction
abbrev pub IsRunOnOk : {S X E : Type 0} → Ghosts S → List ℕ → List ValueRef → Held S → Held S → Result X E → Type 0
IsRunOnOk store text params old new result = HasCleanDisk (state store new) → OnOk result (IsRun text (bound params) (state store old) (state store new))

-- a call inside a transaction, on the same connection, commits nothing, and a crash leaves what it left before the call
pub record StaysInside {S : Type 0} (store : Ghosts S) (old new : MutBor (Held S)) : Type 0 where
  pub same_reference : new.ghost_name ≡ old.ghost_name
  pub kept : HasCleanDisk (state store new.now) → KeepsCommit (state store old.now) (state store new.now)
  pub survives : Survives (state store old.now) (state store new.now) (λ _. ⊥)

-- a database of layout 2 stays one, and its content is changed so
abbrev pub IsContentChange : (Content → Content) → Database → Database → Type 0
IsContentChange f old new = IsLayout2 old → IsChanged f old new

-- under a condition, a database of layout 2 has its content changed so
abbrev pub IsContentChangeIf : Type 0 → (Content → Content) → Database → Database → Type 0
IsContentChangeIf Condition f old new = Condition → IsContentChange f old new

-- the rows of releases and of parts are as they were
abbrev pub KeepsReleases : Database → Database → Type 0
KeepsReleases old new = (new.trees 1 ≡ old.trees 1) × (new.trees 3 ≡ old.trees 3)

-- under a condition, a database of layout 2 has its content changed so, by its reasons alone
abbrev pub IsReasonChangeIf : Type 0 → (Content → Content) → Database → Database → Type 0
IsReasonChangeIf Condition f old new = Condition → IsLayout2 old → IsChanged f old new × KeepsReleases old new

-- if the change of the records is allowed, however many records there may be, a database of layout 2 has its content
-- changed so
abbrev pub IsAllowedChange : Change → Database → Database → Type 0
IsAllowedChange change old new = (most : ℕ) → IsAllowedWithin most change (stored_content old) → IsContentChange (after change) old new

-- one kind of database becomes another one
abbrev pub IsTransition : (Database → Type 0) → (Database → Type 0) → Database → Database → Type 0
IsTransition From To old new = From old → To new

-- the tables are there, the layout's number is 2, and nothing is recorded
pub record IsBlank (db : Database) : Type 0 where
  pub ours : IsLayout2 db
  pub listed : HoldsRecords db
  pub content : stored_content db ≡ []

-- if the first three tables are there, the database is as it was, and the answer is whether the layout has this number and no other
abbrev pub ReportsNumber : ℕ → State → State → Bool → Type 0
ReportsNumber number old new is =
    (more : List Table) (keys : List Index) → old.now.schema ≡ schema_with more keys
    → IsUnchanged old new × (IsTrue is ↔ (map rowid (old.now.trees 0) ≡ Int (pos number) ∷ []))

-- the table of the reasons is there too, and empty, and the other tables are as they were
pub record IsExtended (old new : Database) : Type 0 where
  pub schema : new.schema ≡ layout_2_schema
  pub obeyed : IsDatabase new
  pub layout : new.trees 0 ≡ old.trees 0
  pub releases : new.trees 1 ≡ old.trees 1
  pub pieces : new.trees 3 ≡ old.trees 3
  pub reasons : new.trees 5 ≡ []

-- a database with the tables of layout 1 gets that of the reasons
abbrev pub IsExtension : Database → Database → Type 0
IsExtension old new = old.schema ≡ layout_1_schema → IsExtended old new

-- a database of layout 1 becomes one of layout 2, whose content is this of the one before; its rows stay
pub record IsUpgraded (f : Content → Content) (old new : Database) : Type 0 where
  pub ours : IsLayout2 new
  pub rows : KeepsReleases old new
  pub listed : HoldsReleases old → HoldsRecords new
  pub content : HoldsReleases old → stored_content new ≡ f (content_without_reasons old)

-- under a condition, a database of layout 1 becomes one of layout 2
abbrev pub IsUpgradeIf : Type 0 → (Content → Content) → Database → Database → Type 0
IsUpgradeIf Condition f old new = Condition → IsLayout1 old → IsUpgraded f old new

-- a database whose tables of layout 1 were extended gets the number of layout 2
abbrev pub IsRenumbering : Database → Database → Type 0
IsRenumbering old new =
    (first : Database) → IsLayout1 first → IsExtended first old → IsUpgraded (λ c. c) first new
