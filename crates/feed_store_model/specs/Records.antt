-- Records without parts, with more parts, and with another state or reason.
use Rattle.std.specs.Prelude.{ℕ, List, [], Some, None}
use Rattle.feed_kbart.specs.declared.fault.BadFile.{BadFile}
use Rattle.feed_names.specs.ReleaseName.{Name}
use Rattle.feed_model.specs.declared.state.State.{State}
use Rattle.feed_model.specs.Content.{Part, Record}
use Rattle.feed_model.specs.Change.{insert_part, merged}

-- a record without parts
abbrev pub bare : Name → ℕ → State → Record
bare n size s = record { name = n; size = size; state = s; reason = None; parts = [] }

-- the record with one more part
abbrev pub with_part : Part → Record → Record
with_part p r = record r { parts = insert_part p r.parts }

-- the record with more parts
abbrev pub with_parts : List Part → Record → Record
with_parts ps r = record r { parts = merged r.parts ps }

-- the record with another state
abbrev pub with_state : State → Record → Record
with_state s r = record r { state = s }

-- the record with another reason
abbrev pub with_reason : BadFile → Record → Record
with_reason why r = record r { reason = Some why }
