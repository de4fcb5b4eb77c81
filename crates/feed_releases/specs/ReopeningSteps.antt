-- A step of rebuilding the releases of a feed from stored records.
use Rattle.std.specs.Prelude.{◌≡◌, ◌<◌, ◌≤◌, ◌++◌, ℕ, List, [], Option, Some, IfNone}
use Rattle.feed_model.specs.Reply.{missing_below}
use Rattle.feed_model.specs.Content.{Part, byte_in, within}
use Rattle.feed_model.specs.Sound.{IsSound, IsSoundRecord}
use Rattle.feed_keep.specs.declared.record.Record as code
use Rattle.feed_keep.specs.Shown.{shown}
use Rattle.feed_releases.specs.ReleaseValue.{content_of}
use Rattle.feed_releases.specs.Reopening.{CheckValue, ReopeningValue, IsRecordCheck, to_read, records_in, left_in}
use Rattle.feed_releases.specs.Standing.{IsStandingOf}
use Rattle.feed_releases.specs.declared.file_check.FileCheck.{FileCheck}
use Rattle.feed_releases.specs.declared.release.reopen.FileStep.{FileStep}
use Rattle.feed_releases.specs.declared.release.reopen.FileStep.TheVariants as files
use Rattle.feed_releases.specs.declared.release.reopen.RecordStep.{RecordStep}
use Rattle.feed_releases.specs.declared.release.reopen.RecordStep.TheVariants as records
use Rattle.feed_releases.specs.declared.feed.reopen.ReopeningStep.{ReopeningStep}
use Rattle.feed_releases.specs.declared.feed.reopen.ReopeningStep.TheVariants as steps

-- more of the file is read, or the file has this status
abbrev pub IsFileStep : ℕ → List Part → Option FileCheck → FileStep → Type 0
IsFileStep size parts was (files.Pending running) = IsRecordCheck size parts (Some running) × (to_read size (Some running) < to_read size was)
IsFileStep size parts was (files.Done standing) = IsStandingOf size parts (missing_below (byte_in parts) size) standing

-- more of the file of the record is read, or the record is sound and the release is the one of the record
abbrev pub IsRecordStep : CheckValue → RecordStep → Type 0
IsRecordStep was (records.Pending check) = (check.kept ≡ was.kept) × (check.left < was.left)
IsRecordStep was (records.Done release) = (release.kept ≡ was.kept) × IsSoundRecord was.kept × (0 < was.left)

-- the next check is that of the current record, or of the first of the rest; there is none if no record is left
pub record IsNext (current : Option CheckValue) (rest : List code.Record) (next : Option CheckValue) (others : List code.Record) : Type 0 where
  pub content : records_in next ++ shown others ≡ records_in current ++ shown rest
  pub left : left_in next others ≤ left_in current rest
  pub none : IfNone next (others ≡ [])

-- the records are the same, and there is less to check; or all are sound, and these are the releases of them
abbrev pub IsReopeningStep : ReopeningValue → ReopeningStep → Type 0
IsReopeningStep was (steps.Pending reopening) = (reopening.content ≡ was.content) × (reopening.most ≡ was.most) × (reopening.left < was.left)
IsReopeningStep was (steps.Done releases) = (content_of releases.items ≡ was.content) × IsSound (within was.most was.content)
