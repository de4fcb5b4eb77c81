-- The labels of a file's columns.
use Rattle.std.specs.Prelude.{◌-◌, ◌==◌, if◌then◌else◌, ℕ, Bool, List, [], ◌∷◌, ◌++◌, Option, None, codes, slice_get, unwrap_or}
use denote.Enum.Declared.{tag_of}
use Rattle.std.specs.List.{position_from}
use Rattle.std.specs.Str.{str_eq_ignore_ascii_case}
use Rattle.feed_bytes.specs.Trim.{trimmed}
use Rattle.feed_kbart.specs.contracts.label.Label.{the_type}
use Rattle.feed_kbart.specs.declared.label.Label.{Label}
use Rattle.feed_kbart.specs.declared.label.Label.TheVariants.{PublicationTitle, PrintIdentifier, OnlineIdentifier, DateFirstIssueOnline, NumFirstVolOnline}
use Rattle.feed_kbart.specs.declared.label.Label.TheVariants.{DateLastIssueOnline, NumLastVolOnline, TitleUrl, TitleId, EmbargoInfo, CoverageDepth}
use Rattle.feed_kbart.specs.declared.label.Label.TheVariants.{PublicationType, AccessType}

-- how a label is written
abbrev pub label_text : Label → List ℕ
label_text PublicationTitle = codes "publication_title"
label_text PrintIdentifier = codes "print_identifier"
label_text OnlineIdentifier = codes "online_identifier"
label_text DateFirstIssueOnline = codes "date_first_issue_online"
label_text NumFirstVolOnline = codes "num_first_vol_online"
label_text DateLastIssueOnline = codes "date_last_issue_online"
label_text NumLastVolOnline = codes "num_last_vol_online"
label_text TitleUrl = codes "title_url"
label_text TitleId = codes "title_id"
label_text EmbargoInfo = codes "embargo_info"
label_text CoverageDepth = codes "coverage_depth"
label_text PublicationType = codes "publication_type"
label_text AccessType = codes "access_type"

-- the labels that a file must have, in order
abbrev pub required_labels : List Label
required_labels =
    PublicationTitle ∷ PrintIdentifier ∷ OnlineIdentifier ∷ DateFirstIssueOnline
    ∷ NumFirstVolOnline ∷ DateLastIssueOnline ∷ NumLastVolOnline ∷ TitleUrl ∷ []

-- the labels in use, in order: first those that a file must have
abbrev pub used_labels : List Label
used_labels = required_labels ++ (TitleId ∷ EmbargoInfo ∷ CoverageDepth ∷ PublicationType ∷ AccessType ∷ [])

-- the number of labels in use
abbrev pub label_count : ℕ
label_count = 13

-- the label at a place in that order, counted from 1
abbrev pub label_at : ℕ → Option Label
label_at place = if place == 0 then None else slice_get used_labels (place - 1)

-- a field is a label if they are equal, ignoring spaces at both ends and the case of ASCII letters
abbrev pub is_label : Label → List ℕ → Bool
is_label label field = str_eq_ignore_ascii_case (trimmed field) (label_text label)

-- the labels in the order in which the cells of a record are stored
abbrev pub stored_labels : List Label
stored_labels =
    PrintIdentifier ∷ OnlineIdentifier ∷ PublicationType ∷ DateFirstIssueOnline ∷ DateLastIssueOnline ∷ NumFirstVolOnline ∷ NumLastVolOnline
    ∷ TitleId ∷ TitleUrl ∷ PublicationTitle ∷ CoverageDepth ∷ EmbargoInfo ∷ AccessType ∷ []

-- the place of a label in that order, from 0
abbrev pub slot : Label → ℕ
slot label = unwrap_or (position_from (λ other. tag_of the_type other == tag_of the_type label) 0 stored_labels) 0
