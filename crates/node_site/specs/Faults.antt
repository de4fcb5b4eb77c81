-- The first fault of a site file, in the order of the keys.
use Rattle.std.specs.Prelude.{ℕ, ◌+◌, Bool, false, is_some, nat_lt, List, [], ◌∷◌, ◌++◌, Option, Some, None, if◌then◌else◌, option_map, codes, unwrap_or}
use Rattle.std.specs.List.{list_any}
use Rattle.std.specs.Option.{option_and_then}
use Rattle.std.specs.Str.{str_eq_ignore_ascii_case}
use Rattle.std.specs.Prelude.{int_lt}
use Rattle.toml.specs.Data.{Data, Items, no_items, item, Members, no_members, member, as_str, as_bool, as_array, as_table, get_member}
use Rattle.feed_dates.specs.DayRanges.{days_of}
use Rattle.feed_dates.specs.declared.day_range.DayRange.{DayRange}
use Rattle.node_site.specs.declared.kind.ValueKind.{ValueKind}
use Rattle.node_site.specs.declared.kind.ValueKind.TheVariants.{Text, Note, Language, Color, Url, Template, Article, Prefix, Occasion, Package, FileName}
use Rattle.node_site.specs.declared.kind.ValueKind.TheVariants.{Host, Date, Switch, Hosts}
use Rattle.node_site.specs.declared.section.Section.{Section}
use Rattle.node_site.specs.declared.section.Section.TheVariants as part
use Rattle.node_site.specs.declared.fault.ValueFault.{ValueFault}
use Rattle.node_site.specs.declared.fault.ValueFault.TheVariants as bad
use Rattle.node_site.specs.declared.fault.Flaw.{Flaw}
use Rattle.node_site.specs.Lookups.{text_at}
use Rattle.node_site.specs.Urls.{is_host}
use Rattle.node_site.specs.Kinds.{is_of}
use Rattle.node_site.specs.Schema.{section_of, is_list, kind_of, required, table_limit}

-- a table of a section: the section's key, and the number of the table where the section is a list
pub record PlaceValue : Type 0 where
  pub section : List ℕ
  pub row : Option ℕ

-- a fault: the table, the key in it and the item of its list, where there are such, and the reason
pub record MisfitValue : Type 0 where
  pub place : PlaceValue
  pub key : Option (List ℕ)
  pub item : Option ℕ
  pub reason : ValueFault

-- a fault, or else another
abbrev pub or_misfit : Option MisfitValue → Option MisfitValue → Option MisfitValue
or_misfit (Some misfit) other = Some misfit
or_misfit None other = other

-- the reason why a text is not a value of its kind
abbrev pub reason_of : ValueKind → ValueFault
reason_of Text = bad.TextSize
reason_of Note = bad.NoteSize
reason_of Language = bad.Language
reason_of Color = bad.Color
reason_of Url = bad.Url
reason_of Template = bad.Template
reason_of Article = bad.Article
reason_of Prefix = bad.Prefix
reason_of Occasion = bad.Occasion
reason_of Package = bad.Package
reason_of FileName = bad.FileName
reason_of Host = bad.Host
reason_of Date = bad.Date
reason_of Switch = bad.NotSwitch
reason_of Hosts = bad.NotList

-- what is wrong with a value as a whole
abbrev pub flaw : ValueFault → Flaw
flaw reason = record { item = None; reason = reason }

abbrev pub text_flaw : ValueKind → Option (List ℕ) → Option Flaw
text_flaw kind None = Some (flaw bad.NotText)
text_flaw kind (Some text) = if is_of kind text then None else Some (flaw (reason_of kind))

abbrev pub switch_flaw : Option Bool → Option Flaw
switch_flaw (Some switch) = None
switch_flaw None = Some (flaw bad.NotSwitch)

-- what is wrong with an item of a list of hosts
abbrev pub host_reason : Option (List ℕ) → Option ValueFault
host_reason None = Some bad.NotText
host_reason (Some text) = if is_host text then None else Some bad.Host

abbrev pub host_flaw : ℕ → Option ValueFault → Option Flaw → Option Flaw
host_flaw number (Some reason) other = Some (record { item = Some number; reason = reason })
host_flaw number None other = other

-- the first item from this number on that is not a host
abbrev pub host_flaws : ℕ → Items → Option Flaw
host_flaws number no_items = None
host_flaws number (item d ds) = host_flaw number (host_reason (as_str d)) (host_flaws (number + 1) ds)

abbrev pub hosts_flaw : Option Items → Option Flaw
hosts_flaw None = Some (flaw bad.NotList)
hosts_flaw (Some items) = host_flaws 1 items

-- what is wrong with a value of a kind
abbrev pub value_flaw : ValueKind → Data → Option Flaw
value_flaw Switch d = switch_flaw (as_bool d)
value_flaw Hosts d = hosts_flaw (as_array d)
value_flaw kind d = text_flaw kind (as_str d)

-- a fault of a key in a table
abbrev pub at_key : PlaceValue → List ℕ → Flaw → MisfitValue
at_key place key what = record { place = place; key = Some key; item = what.item; reason = what.reason }

-- a fault of a whole table
abbrev pub at_table : PlaceValue → ValueFault → MisfitValue
at_table place reason = record { place = place; key = None; item = None; reason = reason }

abbrev pub kind_fault : PlaceValue → List ℕ → Data → Option ValueKind → Option MisfitValue
kind_fault place key d None = Some (at_key place key (flaw bad.UnknownKey))
kind_fault place key d (Some kind) = option_map (at_key place key) (value_flaw kind d)

-- the first key that is unknown, or whose value is not of its kind
abbrev pub fields_fault : PlaceValue → Section → Members → Option MisfitValue
fields_fault place section no_members = None
fields_fault place section (member key d ms) =
    or_misfit (kind_fault place key d (kind_of section key)) (fields_fault place section ms)

-- the first of some keys that a table does not have
abbrev pub missing_fault : PlaceValue → List (List ℕ) → Members → Option MisfitValue
missing_fault place [] ms = None
missing_fault place (key ∷ keys) ms =
    if is_some (get_member key ms) then missing_fault place keys ms else Some (at_key place key (flaw bad.Missing))

-- the days of a date that a table has at a key
abbrev pub days_at : List ℕ → Members → Option DayRange
days_at key ms = option_and_then days_of (text_at key ms)

abbrev pub is_backward : Option DayRange → Option DayRange → Bool
is_backward (Some first) (Some last) = int_lt last.last first.first
is_backward None last = false
is_backward (Some first) None = false

-- the last day of a table is before its first day
abbrev pub order_fault : PlaceValue → Members → Option MisfitValue
order_fault place ms =
    if is_backward (days_at (codes "first") ms) (days_at (codes "last") ms)
    then Some (at_key place (codes "last") (flaw bad.Order)) else None

-- the first fault of a table of a section
abbrev pub table_fault : PlaceValue → Section → Members → Option MisfitValue
table_fault place section ms =
    or_misfit (fields_fault place section ms) (or_misfit (missing_fault place (required section) ms) (order_fault place ms))

abbrev pub place_of : List ℕ → Option ℕ → PlaceValue
place_of key row = record { section = key; row = row }

abbrev pub single_fault : List ℕ → Section → Option Members → Option MisfitValue
single_fault key section None = Some (at_table (place_of key None) bad.NotTable)
single_fault key section (Some ms) = table_fault (place_of key None) section ms

abbrev pub row_fault : List ℕ → Section → ℕ → Option Members → Option MisfitValue
row_fault key section row None = Some (at_table (place_of key (Some row)) bad.NotTable)
row_fault key section row (Some ms) =
    if nat_lt (table_limit section) row then Some (at_table (place_of key (Some row)) bad.TooMany)
    else table_fault (place_of key (Some row)) section ms

-- the first fault of the tables of a list from this number on
abbrev pub rows_fault : List ℕ → Section → ℕ → Items → Option MisfitValue
rows_fault key section row no_items = None
rows_fault key section row (item d ds) =
    or_misfit (row_fault key section row (as_table d)) (rows_fault key section (row + 1) ds)

-- the host that a table is about
abbrev pub host_in : Option Members → List ℕ
host_in None = []
host_in (Some ms) = unwrap_or (text_at (codes "host") ms) []

abbrev pub twice_at : List ℕ → ℕ → MisfitValue
twice_at key row = at_key (place_of key (Some row)) (codes "host") (flaw bad.Twice)

-- the first table from this number on that is about a host of an earlier one, in any case of letters
abbrev pub twice_from : List ℕ → List (List ℕ) → ℕ → Items → Option MisfitValue
twice_from key hosts row no_items = None
twice_from key hosts row (item d ds) =
    if list_any (str_eq_ignore_ascii_case (host_in (as_table d))) hosts then Some (twice_at key row)
    else twice_from key (hosts ++ host_in (as_table d) ∷ []) (row + 1) ds

-- a platform has one table
abbrev pub twice_fault : List ℕ → Section → Items → Option MisfitValue
twice_fault key part.Platform items = twice_from key [] 1 items
twice_fault key section items = None

abbrev pub list_fault : List ℕ → Section → Option Items → Option MisfitValue
list_fault key section None = Some (at_table (place_of key None) bad.NotList)
list_fault key section (Some items) = or_misfit (rows_fault key section 1 items) (twice_fault key section items)

-- the first fault of a section
abbrev pub section_fault : List ℕ → Data → Option Section → Option MisfitValue
section_fault key d None = Some (at_table (place_of key None) bad.UnknownKey)
section_fault key d (Some section) =
    if is_list section then list_fault key section (as_array d) else single_fault key section (as_table d)

-- the first fault of a site file
abbrev pub fault_of : Members → Option MisfitValue
fault_of no_members = None
fault_of (member key d ms) = or_misfit (section_fault key d (section_of key)) (fault_of ms)
