-- The parts as they are read.
use Rattle.std.specs.Prelude.{◌≡◌, ◌≢◌, ◌==◌, ◌++◌, ℕ, ℤ, All, Bool, List, [], ◌∷◌, map, filter, if◌then◌else◌, IsPermutation, MatchBool}
use Rattle.std.specs.List.{AllByRecursion}
use Rattle.std.specs.List.Sorted.{IsSorted}
use Rattle.std.specs.Ordering.{nat_cmp, on, then_cmp}
use Rattle.std.specs.Cmp.Lexicographic.{pointwise, slice_cmp}
use Rattle.sqlite_value.specs.declared.value.Value.TheVariants.{Int}
use Rattle.sqlite_value.specs.Order.{Row}
use Rattle.sqlite_trees.specs.Tree.{rowid}
use Rattle.sqlite.specs.Effect.{Database}
use Rattle.feed_names.specs.ReleaseName.{text_of}
use Rattle.feed_model.specs.Content.{Content, Part, Record}
use Rattle.feed_keep.specs.declared.record.Record as code
use Rattle.feed_keep.specs.Shown.{shown}
use Rattle.feed_store_model.specs.Tables.{IsPieceRow, is_of, part_in, text_in}

-- the record changed so, if it has this name
abbrev pub if_named : List ℕ → (Record → Record) → Record → Record
if_named text f r = if pointwise ◌==◌ text (text_of r.name) then f r else r

-- a row is taken with those before it, or it is improper, or no record has its name
abbrev pub IsTakenIfProper : (List Row → List ℤ → Content → Content → Type 0) → (Row → Type 0) → Row → List ℤ → List ℤ → List code.Record → List code.Record → Bool → Type 0
IsTakenIfProper Show IsProper row ids more old new taken =
    MatchBool taken ((rows : List Row) (start : Content) → Show rows ids start (shown old) → Show (rows ++ row ∷ []) more start (shown new))
    (IsProper row → All (λ r. text_of r.name ≢ text_in row) old)

-- the record with this part behind its own, if it has this name
abbrev pub given_to : List ℕ → Part → Record → Record
given_to text p r = if_named text (λ r. record r { parts = r.parts ++ p ∷ [] }) r

-- the record with the parts of its name in the rows behind its own
abbrev pub with_rows : List Row → Record → Record
with_rows rows r = record r { parts = r.parts ++ map part_in (filter (is_of (text_of r.name)) rows) }

-- the rows are parts with these rowids, and add them to the records
pub record ShowPieces (rows : List Row) (ids : List ℤ) (old new : Content) : Type 0 where
  pub proper : AllByRecursion IsPieceRow rows
  pub numbers : map rowid rows ≡ map Int ids
  pub shows : new ≡ map (with_rows rows) old

-- no text is less than the one before it, and no place of a text either
abbrev pub ArePlacesInOrder : List Row → Type 0
ArePlacesInOrder = IsSorted (then_cmp (on text_in (slice_cmp nat_cmp)) (on (λ row. (part_in row).first) nat_cmp))

-- the rows of the table are parts with these rowids, in the order of their texts and places, and add them to the records
pub record ArePieces (db : Database) (ids : List ℤ) (old new : Content) : Type 0 where
  pub rows : List Row
  pub moved : IsPermutation (db.trees 3) rows
  pub order : ArePlacesInOrder rows
  pub show : ShowPieces rows ids old new
