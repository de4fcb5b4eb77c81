-- The printed names of the reasons why a file is bad or a record is skipped.
use Rattle.std.specs.Prelude.{◌++◌, ℕ, List, codes}
use Rattle.feed_kbart.specs.Labels.{label_text}
use Rattle.feed_kbart.specs.declared.fault.BadFile.{BadFile}
use Rattle.feed_kbart.specs.declared.fault.BadFile.TheVariants.{NotUtf8, TwoMarks, NoHeader, MissingLabel, LabelTwice}
use Rattle.feed_kbart.specs.declared.fault.Reason.{Reason}
use Rattle.feed_kbart.specs.declared.fault.Reason.TheVariants.{OtherType, NoIssn, NoIsbn, BadDate, Reversed}

-- the printed name of a reason why a file is bad
abbrev pub bad_file_text : BadFile → List ℕ
bad_file_text NotUtf8 = codes "NotUtf8"
bad_file_text TwoMarks = codes "TwoMarks"
bad_file_text NoHeader = codes "NoHeader"
bad_file_text (MissingLabel label) = codes "MissingLabel " ++ label_text label
bad_file_text (LabelTwice label) = codes "LabelTwice " ++ label_text label

-- the printed name of a reason why a record is skipped
abbrev pub reason_text : Reason → List ℕ
reason_text OtherType = codes "OtherType"
reason_text NoIssn = codes "NoIssn"
reason_text NoIsbn = codes "NoIsbn"
reason_text BadDate = codes "BadDate"
reason_text Reversed = codes "Reversed"
