-- The cells of a stored record.
use Rattle.std.specs.Prelude.{ℕ, List, drop}
use Rattle.std.specs.Rc.{rc_slice_items}
use Rattle.feed_kbart.specs.Labels.{label_count}
use Rattle.feed_kbart.specs.Stored.{texts_in}
use Rattle.feed_kbart.specs.declared.stored_record.StoredRecord.{StoredRecord}
use Rattle.feed_kbart.specs.declared.stored_record.StoredRecord.TheVariants.{Short, Shared}

-- the cells: they are at the front of some bytes
abbrev pub cells_in : StoredRecord → List (List ℕ)
cells_in (Short bytes number) = texts_in label_count bytes
cells_in (Shared start number block) = texts_in label_count (drop start (rc_slice_items block))

-- the number
abbrev pub number_of : StoredRecord → ℕ
number_of (Short bytes number) = number
number_of (Shared start number block) = number
