-- The model values of records and changes, without their addresses in memory.
use Rattle.std.specs.Prelude.{◌≡◌, ◌<◌, ℕ, true, false, List, map, length, slice_index_or}
use Rattle.feed_names.specs.ReleaseName.{Name, name_eq}
use Rattle.feed_model.specs.Content.{Record, Content}
use Rattle.feed_model.specs.Change.{Change, Add, Pieces, Break, Activate}
use Rattle.feed_parts.specs.Shown.{shown_parts}
use Rattle.feed_keep.specs.declared.record.Record as code_record
use Rattle.feed_keep.specs.declared.keep.Change as code_change
use Rattle.feed_keep.specs.declared.keep.Change.TheVariants as changes

-- the model value of a record
abbrev pub shown_record : code_record.Record → Record
shown_record r = record { name = r.name; size = r.size; state = r.state; reason = r.reason; parts = shown_parts r.parts.items }

-- the content of a list of records
abbrev pub shown : List code_record.Record → Content
shown rs = map shown_record rs

-- the model value of a change
abbrev pub shown_change : code_change.Change → Change
shown_change (changes.Add n size) = Add n.now size
shown_change (changes.Pieces n ps) = Pieces n.now (shown_parts ps.now)
shown_change (changes.Break n ps why) = Break n.now (shown_parts ps.now) why
shown_change (changes.Activate n ps) = Activate n.now (shown_parts ps.now)

-- the first record of the name is at this place
pub record IsRecordAt (records : List code_record.Record) (n : Name) (i : ℕ) : Type 0 where
  pub within : i < length records
  pub here : (d : code_record.Record) → name_eq (slice_index_or records i d).name n ≡ true
  pub before : (k : ℕ) (d : code_record.Record) → k < i → name_eq (slice_index_or records k d).name n ≡ false
