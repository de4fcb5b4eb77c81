-- The number of a database's layout, as SQLite shows it.
use Rattle.std.specs.Prelude.{◌≡◌, ◌≢◌, ℕ, List, [], ◌∷◌, Ok, pos}
use Rattle.sqlite_value.specs.declared.value.Value.TheVariants.{Int}
use Rattle.sqlite_value.specs.Order.{Row}
use Rattle.sqlite_resolve.specs.declared.compiled.Compiled.{Compiled}
use Rattle.sqlite.specs.Effect.{Database, Reads}
use Rattle.sqlite.specs.Listing.{IsSourceOf, reads_listing, understood}
use Rattle.feed_store_write.specs.Texts.{select_version_text}

-- SQLite answers this query of a database with these rows
abbrev pub Selects : List ℕ → Database → List Row → Type 0
Selects text db rows =
    (c : Compiled) × (understood db.schema text ≡ Ok c) × (source : Database) × IsSourceOf (reads_listing db.schema text) db source × Reads c.command source [] rows

-- one row, with this number
abbrev pub row_of : ℕ → List Row
row_of number = (Int (pos number) ∷ []) ∷ []

-- the layout has this number and no other
abbrev pub HasNumber : ℕ → Database → Type 0
HasNumber number db = Selects select_version_text db (row_of number)

-- the layout has no number, another one or several
abbrev pub HasOtherNumber : ℕ → Database → Type 0
HasOtherNumber number db = (rows : List Row) × Selects select_version_text db rows × (rows ≢ row_of number)
