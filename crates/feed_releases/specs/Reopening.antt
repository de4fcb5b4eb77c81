-- Rebuilding the releases of a feed from stored records, in steps.
use Rattle.std.specs.Prelude.{◌≡◌, ◌≤◌, ◌+◌, ◌-◌, ◌++◌, ℕ, List, [], ◌∷◌, Option, Some, None, IfSome, length, sum_by}
use Rattle.std.specs.List.{IsDistinct, All}
use Rattle.feed_names.specs.ReleaseName.{name_eq}
use Rattle.feed_model.specs.Reply.{max_file, missing_below}
use Rattle.feed_model.specs.Content.{Part, Record, Content, byte_in, names}
use Rattle.feed_model.specs.Handles.{HasLaterActive}
use Rattle.feed_model.specs.Parts.{AreWithin}
use Rattle.feed_model.specs.Sound.{IsSoundRecord}
use Rattle.feed_keep.specs.declared.record.Record as code
use Rattle.feed_keep.specs.Shown.{shown}
use Rattle.feed_releases.specs.ReleaseValue.{ReleaseValue, content_of}
use Rattle.feed_releases.specs.FileCheck.{IsCheckOf}
use Rattle.feed_releases.specs.declared.file_check.FileCheck.{FileCheck}

-- a record, and how many steps its check may still take
pub record CheckValue : Type 0 where
  pub kept : Record
  pub left : ℕ

-- the last step, and before it at most one for each byte that was not read
abbrev pub to_read : ℕ → Option FileCheck → ℕ
to_read size None = 1
to_read size (Some running) = size - running.next + 1

-- the parts are inside the file, whose size is within the limit. A file that is read in steps is complete
pub record IsRecordCheck (size : ℕ) (parts : List Part) (running : Option FileCheck) : Type 0 where
  pub within : AreWithin size parts
  pub limit : size ≤ max_file
  pub reads : IfSome running (IsCheckOf parts)
  pub whole : IfSome running (λ _. missing_below (byte_in parts) size ≡ 0)

-- the record of a check, if there is one
abbrev pub records_in : Option CheckValue → Content
records_in None = []
records_in (Some check) = check.kept ∷ []

-- the records of the releases so far, the one that is being checked, and the rest
abbrev pub content_in : List ReleaseValue → Option CheckValue → List code.Record → Content
content_in releases current rest = content_of releases ++ (records_in current ++ shown rest)

-- how many steps the check of the current record may take
abbrev pub check_left : Option CheckValue → ℕ
check_left None = 0
check_left (Some check) = check.left

-- how many steps the current record and the rest may take
abbrev pub left_in : Option CheckValue → List code.Record → ℕ
left_in current rest = check_left current + sum_by (λ r. r.size + 2) rest

-- records with the steps that their check may still take, and how many there may be
pub record ReopeningValue : Type 0 where
  pub content : Content
  pub most : ℕ
  pub left : ℕ

-- the releases so far are sound, and there is room for all; no name appears twice, none has a later active one in its
-- package, and there are at most as many as a feed may have
pub record IsReopening (most : ℕ) (releases : List ReleaseValue) (places : ℕ) (content : Content) : Type 0 where
  pub distinct : IsDistinct name_eq (names content)
  pub few : length content ≤ most
  pub current : All (λ r. ¬ (HasLaterActive content r.name)) content
  pub sound : All IsSoundRecord (content_of releases)
  pub room : length content ≤ places
