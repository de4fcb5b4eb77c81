-- The effect of an adoption on a database.
use Rattle.std.specs.Prelude.{◌≡◌, ◌⊎◌, Bool, IsTrue, List, false, true}
use Rattle.sqlite.specs.Effect.{Database}
use Rattle.sqlite.specs.Files.{file_state}
use Rattle.sqlite.specs.Held.{Held, state}
use Rattle.sqlite.specs.Schema.{Schema}
use Rattle.sqlite.specs.Start.{FindsIn}
use Rattle.sqlite.specs.State.{State, HasCleanDisk}
use Rattle.sqlite_disk.specs.declared.Disk as disk
use Rattle.sqlite_store.specs.declared.store.FileStore.{FileStore}
use Rattle.sqlite_trees.specs.declared.store.Store.{Ghosts}
use Rattle.sqlite_wal.specs.Recovery.{Image}
use Rattle.feed_model.specs.Content.{Content}
use Rattle.feed_store_model.specs.Others.{HasLayout1Tables, HasLayout2Tables, IsFree}
use Rattle.feed_store_model.specs.Tables.{IsLayout1, IsLayout2}
use Rattle.feed_store_write.specs.Effects.{IsBlank, IsLive, IsTransition}
use Rattle.feed_store_write.specs.Number.{HasNumber, HasOtherNumber}
use Rattle.feed_store_write.specs.Schemas.{HasNoTable}
use Rattle.feed_store_write.specs.Statements.{IsCommitted, Statement, creation, upgrading}
use Rattle.feed_store.specs.Upgraded.{IsUpgradedWithReasons}
use Rattle.feed_store.specs.declared.adopt.Tables.{Tables}
use Rattle.feed_store.specs.declared.adopt.Tables.TheVariants.{Alone, BesideOthers}

-- whether the tables of a feed are alone in their database
abbrev pub is_alone : Tables → Bool
is_alone Alone = true
is_alone BesideOthers = false

-- the tables are created in an empty database
abbrev pub IsCreated : State → State → Type 0
IsCreated old new = (IsLive new → IsLive old) × (IsLive new → IsTransition HasNoTable IsBlank old.now new.now)

-- if the tables are alone, the database is of layout 2; one of layout 2 is as it was, an empty one gets the tables, and one of layout 1 is upgraded
pub record IsAdopted (old new : State) (alone : Bool) : Type 0 where
  pub ours : IsTrue alone → IsLive new → IsLayout2 new.now × IsLive old
  pub found : IsLive new → IsLayout2 old.now → IsTrue alone × (new.now ≡ old.now)
  pub blank : IsLive new → HasNoTable old.now → IsTrue alone × IsBlank new.now
  pub earlier : IsLive new → IsLayout1 old.now → IsTrue alone × IsUpgradedWithReasons old.now new.now

-- the tables of layout 1 are there, or those of layout 2, or none of them
abbrev pub HasAllTablesOrNone : Schema → Type 0
HasAllTablesOrNone schema = IsFree schema ⊎ (HasLayout1Tables schema ⊎ HasLayout2Tables schema)

-- the database is what these statements made of it in one transaction, whatever else it has
abbrev pub IsDoneBy : {S : Type 0} → Ghosts S → List Statement → Held S → Held S → Type 0
IsDoneBy {S} store statements old new = (begun : Held S) × ((state store begun).now ≡ (state store old).now) × IsCommitted store statements begun new

-- the tables were created where none of them was
abbrev pub IsNew : {S : Type 0} → Ghosts S → Held S → Held S → Type 0
IsNew store old new = IsFree (state store old).now.schema × IsDoneBy store creation old new

-- the tables of layout 1 were there under its number, and were upgraded with the reasons of some records
abbrev pub IsFromLayout1 : {S : Type 0} → Ghosts S → Held S → Held S → Type 0
IsFromLayout1 store old new =
    HasLayout1Tables (state store old).now.schema × HasNumber 1 (state store old).now × (records : Content) × IsDoneBy store (upgrading records) old new

-- those of layout 2 were there under its number, and the database is as it was
abbrev pub IsOfLayout2 : {S : Type 0} → Ghosts S → Held S → Held S → Type 0
IsOfLayout2 store old new =
    HasLayout2Tables (state store old).now.schema × HasNumber 2 (state store old).now × ((state store new).now ≡ (state store old).now)

-- a database that is adopted, alone or beside other tables: only such a one, and only by these statements
abbrev pub IsPrepared : {S : Type 0} → Ghosts S → Held S → Held S → Type 0
IsPrepared store old new = IsNew store old new ⊎ (IsFromLayout1 store old new ⊎ IsOfLayout2 store old new)

-- a foreign database: some of the tables are missing or have other columns or rules, or the layout has another number
abbrev pub IsForeign : Database → Type 0
IsForeign db =
    (¬ HasAllTablesOrNone db.schema) ⊎ ((HasLayout1Tables db.schema × HasOtherNumber 1 db) ⊎ (HasLayout2Tables db.schema × HasOtherNumber 2 db))

-- a database that is refused is foreign; so it is not empty, nor exactly of a layout under its number
pub record IsRefused (db : Database) : Type 0 where
  pub foreign : IsForeign db
  pub blank : ¬ HasNoTable db
  pub earlier : ¬ IsLayout1 db
  pub current : ¬ IsLayout2 db

-- a connection to a file has adopted its database
abbrev pub IsAdoptedFile : {D : Type 0} {g : disk.Ghosts D} → Held (FileStore D g) → Held (FileStore D g) → Bool → Type 0
IsAdoptedFile old new alone = IsAdopted (file_state old) (file_state new) alone

-- the connection has adopted the database that an open found in the files
abbrev pub IsOpenedAs : {D : Type 0} {g : disk.Ghosts D} → Image → Held (FileStore D g) → Bool → Type 0
IsOpenedAs {D} {g} image new alone =
    (found : Held (FileStore D g)) × (HasCleanDisk (file_state found) → FindsIn image (file_state found)) × IsAdoptedFile found new alone
