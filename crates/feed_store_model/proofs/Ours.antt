-- Databases of ours.
use Rattle.std.proofs.Common.{◌≡◌, [], ◌∷◌, map, refl, sym, ap, subst, ◌∙◌}
use Rattle.std.specs.List.{IsDistinct}
use Rattle.sqlite.specs.Effect.{Database, IsDatabase}
use Rattle.sqlite_trees.specs.Tree.{rowid}
use Rattle.sqlite.specs.Change.{automatics}
use Rattle.feed_store_model.specs.Layout.{layout_2_schema, reason}
use Rattle.feed_store_model.specs.Tables.{AreRows, AreReasons, HasTables, IsTabled, IsLayout1, HoldsRecords, IsLayout2, stored_content}

-- the tables and their rules are as they were, and the layout's number too
pub record KeepsLayout (old new : Database) : Type 0 where
  pub schema : new.schema ≡ layout_2_schema
  pub sound : IsDatabase new
  pub layout : new.trees 0 ≡ old.trees 0

pub still_ours : (old new : Database) → IsLayout2 old → KeepsLayout old new → IsLayout2 new
still_ours old new ours keeps = record { schema = keeps.schema; obeyed = keeps.sound; version = ap (map rowid) keeps.layout ∙ ours.version }

no_rows : AreRows [] []
unfolding IsDistinct
no_rows = record { are_releases = tt; are_pieces = tt; ids = tt; piece_ids = tt }

pub no_reasons : AreReasons []
unfolding IsDistinct
no_reasons = record { are = tt; ids = tt }

-- empty tables hold no record
pub empty_listed : (db : Database) → db.trees 1 ≡ [] → db.trees 3 ≡ [] → db.trees 5 ≡ [] → HoldsRecords db
empty_listed db one three five = record { rows = rw (one, three) no_rows; reasons = subst AreReasons (sym five) no_reasons }

pub empty_content : (db : Database) → db.trees 1 ≡ [] → stored_content db ≡ []
empty_content db one = rw one refl

-- the first three tables are there, in either layout
pub tables_of : (db : Database) → db.schema ≡ layout_2_schema → IsDatabase db → HasTables db
tables_of db has sound = record { more = reason ∷ []; keys = automatics reason 0 6 reason.uniques; schema = has; obeyed = sound }

pub tables_of_ours : (db : Database) → IsLayout2 db → HasTables db
tables_of_ours db ours = tables_of db ours.schema ours.obeyed

pub tables_of_earlier : (db : Database) → IsLayout1 db → HasTables db
tables_of_earlier db is = record { more = []; keys = []; schema = is.schema; obeyed = is.obeyed }

pub tabled : (db : Database) → HasTables db → IsTabled db
unfolding IsTabled
tabled db has = has

pub tables_in : (db : Database) → IsTabled db → HasTables db
unfolding IsTabled
tables_in db has = has

pub tabled_ours : (db : Database) → IsLayout2 db → IsTabled db
tabled_ours db ours = tabled db (tables_of_ours db ours)

pub tabled_earlier : (db : Database) → IsLayout1 db → IsTabled db
tabled_earlier db is = tabled db (tables_of_earlier db is)
