-- The reason why the file of a record is bad.
use Rattle.std.specs.Prelude.{◌≡◌, ◌≤◌, ℕ, List, Option, Some, None}
use Rattle.feed_kbart.specs.declared.fault.BadFile.{BadFile}
use Rattle.feed_limits.specs.Limits.{file_limit}
use Rattle.feed_model.specs.File.{fault_of}
use Rattle.feed_model.specs.Content.{Record, IsText}
use Rattle.feed_parts.specs.Segments.{IsFull}

-- the record has a complete file, which is within the limit
pub record HasFile (r : Record) : Type 0 where
  pub full : IsFull r.size r.parts
  pub limit : r.size ≤ file_limit

-- the reason why the complete file is bad; or none, if the file is good or incomplete
abbrev pub IsBadOf : Record → Option BadFile → Type 0
IsBadOf r (Some why) = HasFile r × (text : List ℕ) × IsText r.size r.parts text × (fault_of text ≡ Some why)
IsBadOf r None = HasFile r → (text : List ℕ) → IsText r.size r.parts text → fault_of text ≡ None
