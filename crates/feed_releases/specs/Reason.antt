-- The reason why a release is broken.
use Rattle.std.specs.Prelude.{◌≡◌, ◌⊎◌, ℕ, List, Option, Some, None}
use Rattle.feed_names.specs.ReleaseName.{Name}
use Rattle.feed_kbart.specs.declared.fault.BadFile.{BadFile}
use Rattle.feed_model.specs.File.{fault_of}
use Rattle.feed_model.specs.History.{History, IsFile, IsHeld, IsBad}

-- a reason exactly if the release is held and complete and its file is bad for it; none if it is not held, or not bad.
-- The reason is stored, so a feed that is opened again returns it too
abbrev pub HasReason : History → Name → Option BadFile → Type 0
HasReason h n (Some why) = IsHeld h n × (text : List ℕ) × IsFile h n text × (fault_of text ≡ Some why)
HasReason h n None = ¬ (IsHeld h n) ⊎ ¬ (IsBad h n)
