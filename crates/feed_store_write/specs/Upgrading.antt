-- The reasons that a database gets as it is upgraded.
use Rattle.std.specs.Prelude.{List, [], ◌∷◌, Option, Some, None}
use Rattle.std.specs.List.{AllByRecursion}
use Rattle.feed_names.specs.ReleaseName.{Name}
use Rattle.feed_kbart.specs.declared.fault.BadFile.{BadFile}
use Rattle.feed_model.specs.Content.{Record, Content}
use Rattle.feed_model.specs.Change.{changed}
use Rattle.feed_store_model.specs.Records.{with_reason}
use Rattle.feed_store_model.specs.Tables.{IsStored}

-- the content with this reason of the name, if there is one
abbrev pub explain_by : Name → Option BadFile → Content → Content
explain_by n None c = c
explain_by n (Some why) c = changed n (with_reason why) c

-- the content with the reason of the record, if it has one
abbrev pub explain : Record → Content → Content
explain r c = explain_by r.name r.reason c

-- the content with the reasons of the records, one after another
abbrev pub explained_with : List Record → Content → Content
explained_with [] c = c
explained_with (r ∷ rs) c = explained_with rs (explain r c)

-- it can be stored, if there is one
abbrev pub IsStoredIf : Option BadFile → Type 0
IsStoredIf None = Unit {0}
IsStoredIf (Some why) = IsStored why

-- its reason is one of a file, if it has one
abbrev pub IsStoredIn : Record → Type 0
IsStoredIn r = IsStoredIf r.reason

-- the reasons of all of them can be stored
abbrev pub AreStored : List Record → Type 0
AreStored records = AllByRecursion IsStoredIn records
