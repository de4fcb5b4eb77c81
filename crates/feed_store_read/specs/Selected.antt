-- The records that the selections return.
use Rattle.std.specs.Prelude.{◌≡◌, List, ℤ, Vec}
use Rattle.std.specs.declared.alloc.Global.{Global}
use Rattle.sqlite.specs.Effect.{Database}
use Rattle.feed_keep.specs.declared.record.Record.{Record}
use Rattle.feed_keep.specs.Shown.{shown}
use Rattle.feed_store_model.specs.Tables.{HoldsReleases, HoldsRecords, stored_content, content_without_reasons}
use Rattle.feed_store_read.specs.declared.releases.Releases.{Releases}
use Rattle.feed_store_read.specs.Pieces.{ArePieces}
use Rattle.feed_store_read.specs.Releases.{AreReleases}

-- the releases of the tables, each with its parts, whose rows have these rowids
pub record AreSelected (db : Database) (found : Releases) (ids : List ℤ) : Type 0 where
  pub start : Releases
  pub releases : AreReleases db start
  pub numbers : found.ids.items ≡ start.ids.items
  pub pieces : ArePieces db ids (shown start.records.items) (shown found.records.items)

-- the tables hold a list of records: these, without their reasons
pub record AreRecordsWithoutReasons (db : Database) (records : Vec Record Global) : Type 0 where
  pub listed : HoldsReleases db
  pub content : shown records.items ≡ content_without_reasons db

-- the tables of layout 2 hold a list of records: these
pub record AreRecordsOf (db : Database) (records : Vec Record Global) : Type 0 where
  pub listed : HoldsRecords db
  pub content : shown records.items ≡ stored_content db
