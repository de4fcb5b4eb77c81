-- The status of a recorded release.
use Rattle.std.specs.Prelude.{ℕ, Option}
use Rattle.feed_names.specs.ReleaseName.{Name}
use Rattle.feed_kbart.specs.declared.fault.BadFile.{BadFile}
use Rattle.feed_model.specs.declared.state.State.{State}
use Rattle.feed_model.specs.Reply.{missing_below}
use Rattle.feed_model.specs.Content.{Record, byte_in}

-- a name, the size of its file, its state, the number of bytes that are not stored, and why it is broken
pub record StatusValue : Type 0 where
  pub name : Name
  pub size : ℕ
  pub state : State
  pub missing : ℕ
  pub reason : Option BadFile

-- the status that a record has
abbrev pub status_of : Record → StatusValue
status_of r = record { name = r.name; size = r.size; state = r.state; missing = missing_below (byte_in r.parts) r.size; reason = r.reason }
