-- The values at the keys of a document without a fault.
use Rattle.std.proofs.Common.{◌≡◌, ℕ, ◌+◌, ◌&&◌, Bool, true, false, is_some, List, [], ◌∷◌, Option, Some, None, option_map, unwrap_or, if◌then◌else◌, arith}
use Rattle.std.proofs.Common.{codes, nat_lt, Ordering, Less, Equal, Greater, nat_cmp, refl, sym, ◌∙◌, ap}
use Rattle.std.specs.Option.{option_and_then}
use Rattle.std.specs.List.{list_all, position_or_len}
use Rattle.std.specs.Ordering.{is_eq, match_ordering}
use Rattle.std.specs.Cmp.Lexicographic.{slice_cmp, same_text}
use Rattle.std.proofs.lemmas.Map.Text.{is_eq-slice_cmp}
use Rattle.toml.specs.Data.{Data, Items, no_items, item, Members, no_members, member, as_array, as_str, as_table, get_member}
use Rattle.feed_dates.specs.declared.day_range.DayRange.{DayRange}
use Rattle.node_site.specs.declared.kind.ValueKind.{ValueKind}
use Rattle.node_site.specs.declared.kind.ValueKind.TheVariants.{Text, Note, Language, Color, Url, Template, Article, Prefix, Occasion, Package, FileName, Host, Date, Switch, Hosts}
use Rattle.node_site.specs.declared.section.Section.{Section}
use Rattle.node_site.specs.declared.section.Section.TheVariants as part
use Rattle.node_site.specs.declared.fault.ValueFault.TheVariants as bad
use Rattle.node_site.specs.declared.fault.Flaw.{Flaw}
use Rattle.node_site.specs.Urls.{is_host}
use Rattle.node_site.specs.Kinds.{is_of}
use Rattle.node_site.specs.Schema.{is_list, kind_of, required, section_of, table_limit}
use Rattle.node_site.specs.Lookups.{items_at, text_at}
use Rattle.node_site.specs.Faults.{MisfitValue, PlaceValue, at_key, at_table, days_at, fault_of, fields_fault, flaw, host_flaw, host_flaws, host_reason, hosts_flaw, is_backward, kind_fault}
use Rattle.node_site.specs.Faults.{list_fault, missing_fault, or_misfit, order_fault, place_of, row_fault, rows_fault, section_fault, single_fault, table_fault, text_flaw, twice_fault, value_flaw}
use Rattle.node_site.specs.Faults.{reason_of}
use Rattle.node_site.specs.Indexes.{count_in, count_of, first_place_in}
use Rattle.node_site.specs.Site.{PackageValue, SiteValue, first_day, holding_of, last_day, link_of, or_empty, package_of, platform_of, row_or, rows_in, rows_of, site_of, text_in, texts_in, texts_of}
use Rattle.node_site.specs.Site.{title_of, with_listing}
use Rattle.node_site.proofs.FirstRows.{counted}
use Rattle.node_site.proofs.Replaced.{text_is}
use Rattle.node_site.specs.Valid.{IsSite, fits, is_forward, is_holding, is_link_rule, is_package_rule, is_platform_rule, is_title_rule}

-- neither has a fault
left : (a b : Option MisfitValue) → or_misfit a b ≡ None → a ≡ None
left None b h = refl
left (Some misfit) b h = cc

right : (a b : Option MisfitValue) → or_misfit a b ≡ None → b ≡ None
right None b h = h
right (Some misfit) b h = cc

-- keys that compare as equal are the same
same_key : (k l : List ℕ) → slice_cmp nat_cmp k l ≡ Equal → l ≡ k
same_key k l e = sym (same_text k l (sym (sym (is_eq-slice_cmp k l) ∙ ap is_eq e)))

-- the pair of a key in a table, by cases on how the first key compares
field_here : (o : Ordering) (place : PlaceValue) (section : Section) (k l : List ℕ) (d e : Data) (ms : Members) → o ≡ slice_cmp nat_cmp k l
    → match_ordering o (get_member k ms) (Some e) (get_member k ms) ≡ Some d
    → kind_fault place l e (kind_of section l) ≡ None
    → (get_member k ms ≡ Some d → kind_fault place k d (kind_of section k) ≡ None)
    → kind_fault place k d (kind_of section k) ≡ None
field_here Less place section k l d e ms same found here later = later found
field_here Greater place section k l d e ms same found here later = later found
field_here Equal place section k l d e ms same found here later =
    let key : l ≡ k = same_key k l (sym same) in
    let value : e ≡ d = cc in
    rw (← key, ← value) here

-- a table whose fields have no fault has none at a key
field_fine : (place : PlaceValue) (section : Section) (k : List ℕ) (d : Data) (ms : Members) → fields_fault place section ms ≡ None
    → get_member k ms ≡ Some d → kind_fault place k d (kind_of section k) ≡ None
field_fine place section k d no_members fine found = cc
field_fine place section k d (member l e ms) fine found =
    let here = left (kind_fault place l e (kind_of section l)) (fields_fault place section ms) fine in
    let more = right (kind_fault place l e (kind_of section l)) (fields_fault place section ms) fine in
    field_here (slice_cmp nat_cmp k l) place section k l d e ms refl found here (field_fine place section k d ms more)

section_here : (o : Ordering) (k l : List ℕ) (d e : Data) (ms : Members) → o ≡ slice_cmp nat_cmp k l
    → match_ordering o (get_member k ms) (Some e) (get_member k ms) ≡ Some d
    → section_fault l e (section_of l) ≡ None
    → (get_member k ms ≡ Some d → section_fault k d (section_of k) ≡ None)
    → section_fault k d (section_of k) ≡ None
section_here Less k l d e ms same found here later = later found
section_here Greater k l d e ms same found here later = later found
section_here Equal k l d e ms same found here later =
    let key : l ≡ k = same_key k l (sym same) in
    let value : e ≡ d = cc in
    rw (← key, ← value) here

-- the same of a document and its sections
section_fine : (k : List ℕ) (d : Data) (ms : Members) → fault_of ms ≡ None → get_member k ms ≡ Some d → section_fault k d (section_of k) ≡ None
section_fine k d no_members fine found = cc
section_fine k d (member l e ms) fine found =
    let here = left (section_fault l e (section_of l)) (fault_of ms) fine in
    let more = right (section_fault l e (section_of l)) (fault_of ms) fine in
    section_here (slice_cmp nat_cmp k l) k l d e ms refl found here (section_fine k d ms more)

-- kinds whose values are texts
abbrev is_textual : ValueKind → Bool
is_textual Switch = false
is_textual Hosts = false
is_textual kind = true

no_flaw : (place : PlaceValue) (k : List ℕ) (o : Option Flaw) → option_map (at_key place k) o ≡ None → o ≡ None
no_flaw place k None h = refl
no_flaw place k (Some what) h = cc

textual : (kind : ValueKind) (d : Data) → is_textual kind ≡ true → value_flaw kind d ≡ text_flaw kind (as_str d)
textual Text d h = refl
textual Note d h = refl
textual Language d h = refl
textual Color d h = refl
textual Url d h = refl
textual Template d h = refl
textual Article d h = refl
textual Prefix d h = refl
textual Occasion d h = refl
textual Package d h = refl
textual FileName d h = refl
textual Host d h = refl
textual Date d h = refl
textual Switch d h = cc
textual Hosts d h = cc

flaw_or_fit : (b : Bool) (what : Flaw) → (if b then None else Some what) ≡ None → b ≡ true
flaw_or_fit true what h = refl
flaw_or_fit false what h = cc

text_fits : (kind : ValueKind) (o : Option (List ℕ)) → text_flaw kind o ≡ None → fits kind o ≡ true
text_fits kind None h = refl
text_fits kind (Some text) h = flaw_or_fit (is_of kind text) (flaw (reason_of kind)) h

-- the text at a key of a table without a fault is of its kind
value_fits : (place : PlaceValue) (section : Section) (k : List ℕ) (kind : ValueKind) (ms : Members) (o : Option Data) → fields_fault place section ms ≡ None
    → kind_of section k ≡ Some kind → is_textual kind ≡ true → get_member k ms ≡ o → fits kind (option_and_then as_str o) ≡ true
value_fits place section k kind ms None fine known text found = refl
value_fits place section k kind ms (Some d) fine known text found =
    let checked = field_fine place section k d ms fine found in
    let no : value_flaw kind d ≡ None = no_flaw place k (value_flaw kind d) (rw known at checked) in
    text_fits kind (as_str d) (sym (textual kind d text) ∙ no)

pub text_at_fits : (place : PlaceValue) (section : Section) (k : List ℕ) (kind : ValueKind) (ms : Members) → fields_fault place section ms ≡ None
    → kind_of section k ≡ Some kind → is_textual kind ≡ true → fits kind (text_at k ms) ≡ true
text_at_fits place section k kind ms fine known text = value_fits place section k kind ms (get_member k ms) fine known text refl

-- a key that a table has, and that is of a kind of texts, has such a text
has_text : (kind : ValueKind) (o : Option (List ℕ)) → text_flaw kind o ≡ None → is_of kind (or_empty o) ≡ true
has_text kind None h = cc
has_text kind (Some text) h = flaw_or_fit (is_of kind text) (flaw (reason_of kind)) h

given_fits : (place : PlaceValue) (section : Section) (k : List ℕ) (kind : ValueKind) (ms : Members) (o : Option Data) → fields_fault place section ms ≡ None
    → kind_of section k ≡ Some kind → is_textual kind ≡ true → get_member k ms ≡ o → is_some o ≡ true → is_of kind (or_empty (option_and_then as_str o)) ≡ true
given_fits place section k kind ms None fine known text found given = cc
given_fits place section k kind ms (Some d) fine known text found given =
    let checked = field_fine place section k d ms fine found in
    let no : value_flaw kind d ≡ None = no_flaw place k (value_flaw kind d) (rw known at checked) in
    has_text kind (as_str d) (sym (textual kind d text) ∙ no)

required_fits : (place : PlaceValue) (section : Section) (k : List ℕ) (kind : ValueKind) (ms : Members) → fields_fault place section ms ≡ None
    → kind_of section k ≡ Some kind → is_textual kind ≡ true → is_some (get_member k ms) ≡ true → is_of kind (or_empty (text_at k ms)) ≡ true
required_fits place section k kind ms fine known text given = given_fits place section k kind ms (get_member k ms) fine known text refl given

-- the text at a key of a section that is one table
single_fits : (name key : List ℕ) (section : Section) (kind : ValueKind) (t : Option Members) → single_fault name section t ≡ None
    → kind_of section key ≡ Some kind → is_textual kind ≡ true → fits kind (option_and_then (text_at key) t) ≡ true
single_fits name key section kind None fine known text = refl
single_fits name key section kind (Some ms) fine known text =
    text_at_fits (place_of name None) section key kind ms (left (fields_fault (place_of name None) section ms) _ fine) known text

section_fits : (name key : List ℕ) (section : Section) (kind : ValueKind) (doc : Members) (o : Option Data) → fault_of doc ≡ None → get_member name doc ≡ o
    → section_of name ≡ Some section → is_list section ≡ false → kind_of section key ≡ Some kind → is_textual kind ≡ true
    → fits kind (option_and_then (text_at key) (option_and_then as_table o)) ≡ true
section_fits name key section kind doc None fine found known single kinded text = refl
section_fits name key section kind doc (Some d) fine found known single kinded text =
    single_fits name key section kind (as_table d) (rw (known, single) at (section_fine name d doc fine found)) kinded text

text_in_fits : (name key : List ℕ) (section : Section) (kind : ValueKind) (doc : Members) → fault_of doc ≡ None
    → section_of name ≡ Some section → is_list section ≡ false → kind_of section key ≡ Some kind → is_textual kind ≡ true
    → fits kind (text_in name key doc) ≡ true
text_in_fits name key section kind doc fine known single kinded text =
    section_fits name key section kind doc (get_member name doc) fine refl known single kinded text

-- an item of a list of hosts without a flaw
host_or_flaw : (b : Bool) (number : ℕ) (rest : Option Flaw) → host_flaw number (if b then None else Some bad.Host) rest ≡ None → (b ≡ true) × (rest ≡ None)
host_or_flaw true number rest h = (refl, h)
host_or_flaw false number rest h = cc

host_case : (o : Option (List ℕ)) (number : ℕ) (rest : Option Flaw) → host_flaw number (host_reason o) rest ≡ None → (is_host (or_empty o) ≡ true) × (rest ≡ None)
host_case None number rest h = cc
host_case (Some text) number rest h = host_or_flaw (is_host text) number rest h

hosts_fit : (number : ℕ) (items : Items) → host_flaws number items ≡ None → list_all is_host (texts_of items) ≡ true
hosts_fit number no_items h = refl
hosts_fit number (item d ds) h =
    let (here, more) = host_case (as_str d) number (host_flaws (number + 1) ds) h in
    rw (here, hosts_fit (number + 1) ds more)

items_fit : (o : Option Items) → hosts_flaw o ≡ None → list_all is_host (texts_in o) ≡ true
items_fit None h = refl
items_fit (Some items) h = hosts_fit 1 items h

except_at : (place : PlaceValue) (ms : Members) (o : Option Data) → fields_fault place part.Proxy ms ≡ None → get_member (codes "except") ms ≡ o
    → list_all is_host (texts_in (option_and_then as_array o)) ≡ true
except_at place ms None fine found = refl
except_at place ms (Some d) fine found =
    items_fit (as_array d) (no_flaw place (codes "except") (value_flaw Hosts d) (field_fine place part.Proxy (codes "except") d ms fine found))

except_single : (t : Option Members) → single_fault (codes "proxy") part.Proxy t ≡ None
    → list_all is_host (texts_in (option_and_then (items_at (codes "except")) t)) ≡ true
except_single None fine = refl
except_single (Some ms) fine =
    except_at (place_of (codes "proxy") None) ms (get_member (codes "except") ms) (left (fields_fault (place_of (codes "proxy") None) part.Proxy ms) _ fine) refl

except_section : (doc : Members) (o : Option Data) → fault_of doc ≡ None → get_member (codes "proxy") doc ≡ o
    → list_all is_host (texts_in (option_and_then (items_at (codes "except")) (option_and_then as_table o))) ≡ true
except_section doc None fine found = refl
except_section doc (Some d) fine found = except_single (as_table d) (section_fine (codes "proxy") d doc fine found)

-- the tables of a list without a fault
not_over : (b : Bool) (misfit : MisfitValue) (rest : Option MisfitValue) → (if b then Some misfit else rest) ≡ None → rest ≡ None
not_over true misfit rest h = cc
not_over false misfit rest h = h

row_fits : {A : Type 0} (name : List ℕ) (section : Section) (make : Members → A) (test : A → Bool)
    → ((row : Option ℕ) (ms : Members) → table_fault (place_of name row) section ms ≡ None → test (make ms) ≡ true)
    → (row : ℕ) (t : Option Members) (rest : List A) → row_fault name section row t ≡ None → list_all test rest ≡ true → list_all test (row_or make t rest) ≡ true
row_fits name section make test each row None rest fine more = more
row_fits name section make test each row (Some ms) rest fine more =
    rw (each (Some row) ms (not_over (nat_lt (table_limit section) row) (at_table (place_of name (Some row)) bad.TooMany) (table_fault (place_of name (Some row)) section ms) fine), more)

rows_fit : {A : Type 0} (name : List ℕ) (section : Section) (make : Members → A) (test : A → Bool)
    → ((row : Option ℕ) (ms : Members) → table_fault (place_of name row) section ms ≡ None → test (make ms) ≡ true)
    → (row : ℕ) (items : Items) → rows_fault name section row items ≡ None → list_all test (rows_of make items) ≡ true
rows_fit name section make test each row no_items fine = refl
rows_fit name section make test each row (item d ds) fine =
    row_fits name section make test each row (as_table d) (rows_of make ds) (left (row_fault name section row (as_table d)) (rows_fault name section (row + 1) ds) fine)
    (rows_fit name section make test each (row + 1) ds (right (row_fault name section row (as_table d)) (rows_fault name section (row + 1) ds) fine))

list_fits : {A : Type 0} (name : List ℕ) (section : Section) (make : Members → A) (test : A → Bool)
    → ((row : Option ℕ) (ms : Members) → table_fault (place_of name row) section ms ≡ None → test (make ms) ≡ true)
    → (o : Option Items) → list_fault name section o ≡ None → list_all test (rows_in make o) ≡ true
list_fits name section make test each None fine = refl
list_fits name section make test each (Some items) fine =
    rows_fit name section make test each 1 items (left (rows_fault name section 1 items) (twice_fault name section items) fine)

rows_in_fit : {A : Type 0} (name : List ℕ) (section : Section) (make : Members → A) (test : A → Bool)
    → ((row : Option ℕ) (ms : Members) → table_fault (place_of name row) section ms ≡ None → test (make ms) ≡ true)
    → (doc : Members) (o : Option Data) → fault_of doc ≡ None → get_member name doc ≡ o → section_of name ≡ Some section → is_list section ≡ true
    → list_all test (rows_in make (option_and_then as_array o)) ≡ true
rows_in_fit name section make test each doc None fine found known listed = refl
rows_in_fit name section make test each doc (Some d) fine found known listed =
    list_fits name section make test each (as_array d) (rw (known, listed) at (section_fine name d doc fine found))

-- the first place of a package is the number of tables before it
place_in_rows : (test : PackageValue → Bool) (rows : Option Items) → list_fault (codes "package") part.Package rows ≡ None
    → unwrap_or (first_place_in package_of test rows) (count_in rows) ≡ position_or_len test (rows_in package_of rows)
place_in_rows test None fine = refl
place_in_rows test (Some rows) fine =
    let same : 0 + count_of rows ≡ count_of rows = omega arith in
    let place : 0 + position_or_len test (rows_of package_of rows) ≡ position_or_len test (rows_of package_of rows) = omega arith in
    rw (← same) (counted package_of test (codes "package") part.Package 1 0 rows (left (rows_fault (codes "package") part.Package 1 rows) None fine) ∙ place)

place_at_key : (test : PackageValue → Bool) (doc : Members) (o : Option Data) → fault_of doc ≡ None → get_member (codes "package") doc ≡ o
    → unwrap_or (first_place_in package_of test (option_and_then as_array o)) (count_in (option_and_then as_array o))
    ≡ position_or_len test (rows_in package_of (option_and_then as_array o))
place_at_key test doc None fine found = refl
place_at_key test doc (Some d) fine found = place_in_rows test (as_array d) (section_fine (codes "package") d doc fine found)

pub place_in_file : (test : PackageValue → Bool) (doc : Members) → fault_of doc ≡ None
    → unwrap_or (first_place_in package_of test (items_at (codes "package") doc)) (count_in (items_at (codes "package") doc))
    ≡ position_or_len test (rows_in package_of (items_at (codes "package") doc))
place_in_file test doc fine = place_at_key test doc (get_member (codes "package") doc) fine refl

-- days in order
forward : (first last : Option DayRange) → is_backward first last ≡ false → is_forward (option_map first_day first) (option_map last_day last) ≡ true
forward None last h = refl
forward (Some first) None h = refl
forward (Some first) (Some last) h = rw h

no_order : (b : Bool) (misfit : MisfitValue) → (if b then Some misfit else None) ≡ None → b ≡ false
no_order true misfit h = cc
no_order false misfit h = refl

holding_fits : (place : PlaceValue) (ms : Members) → order_fault place ms ≡ None → is_holding (holding_of ms) ≡ true
holding_fits place ms fine =
    forward (days_at (codes "first") ms) (days_at (codes "last") ms)
    (no_order (is_backward (days_at (codes "first") ms) (days_at (codes "last") ms)) (at_key place (codes "last") (flaw bad.Order)) fine)

-- a key that is not missing
not_missing : (b : Bool) (rest : Option MisfitValue) (misfit : MisfitValue) → (if b then rest else Some misfit) ≡ None → (b ≡ true) × (rest ≡ None)
not_missing true rest misfit h = (refl, h)
not_missing false rest misfit h = cc

and_true : (a b : Bool) → a ≡ true → b ≡ true → (a && b) ≡ true
and_true true b h k = k
and_true false b h k = h

package_fits : (row : Option ℕ) (ms : Members) → table_fault (place_of (codes "package") row) part.Package ms ≡ None → is_package_rule (package_of ms) ≡ true
package_fits row ms fine =
    let place = place_of (codes "package") row in
    let fields = left (fields_fault place part.Package ms) (or_misfit (missing_fault place (required part.Package) ms) (order_fault place ms)) fine in
    let others = right (fields_fault place part.Package ms) (or_misfit (missing_fault place (required part.Package) ms) (order_fault place ms)) fine in
    let missing = left (missing_fault place (required part.Package) ms) (order_fault place ms) others in
    let order = right (missing_fault place (required part.Package) ms) (order_fault place ms) others in
    let has = (not_missing (is_some (get_member (codes "id") ms)) None (at_key place (codes "id") (flaw bad.Missing)) missing).0 in
    and_true _ _
    (and_true _ _
    (and_true _ _ (required_fits place part.Package (codes "id") Package ms fields refl refl has) (text_at_fits place part.Package (codes "name") Text ms fields refl refl))
    (and_true _ _ (text_at_fits place part.Package (codes "article") Article ms fields refl refl) (text_at_fits place part.Package (codes "note") Note ms fields refl refl)))
    (holding_fits place ms order)

title_fits : (row : Option ℕ) (ms : Members) → table_fault (place_of (codes "title") row) part.Title ms ≡ None → is_title_rule (title_of ms) ≡ true
title_fits row ms fine =
    let place = place_of (codes "title") row in
    let fields = left (fields_fault place part.Title ms) (or_misfit (missing_fault place (required part.Title) ms) (order_fault place ms)) fine in
    let others = right (fields_fault place part.Title ms) (or_misfit (missing_fault place (required part.Title) ms) (order_fault place ms)) fine in
    let missing = left (missing_fault place (required part.Title) ms) (order_fault place ms) others in
    let order = right (missing_fault place (required part.Title) ms) (order_fault place ms) others in
    let first = not_missing (is_some (get_member (codes "package") ms)) (missing_fault place (codes "id" ∷ []) ms) (at_key place (codes "package") (flaw bad.Missing)) missing in
    let second = not_missing (is_some (get_member (codes "id") ms)) None (at_key place (codes "id") (flaw bad.Missing)) first.1 in
    and_true _ _
    (and_true _ _
    (and_true _ _ (required_fits place part.Title (codes "package") Package ms fields refl refl first.0) (required_fits place part.Title (codes "id") Text ms fields refl refl second.0))
    (text_at_fits place part.Title (codes "note") Note ms fields refl refl))
    (holding_fits place ms order)

platform_fits : (row : Option ℕ) (ms : Members) → table_fault (place_of (codes "platform") row) part.Platform ms ≡ None → is_platform_rule (platform_of ms) ≡ true
platform_fits row ms fine =
    let place = place_of (codes "platform") row in
    let fields = left (fields_fault place part.Platform ms) (or_misfit (missing_fault place (required part.Platform) ms) (order_fault place ms)) fine in
    let others = right (fields_fault place part.Platform ms) (or_misfit (missing_fault place (required part.Platform) ms) (order_fault place ms)) fine in
    let missing = left (missing_fault place (required part.Platform) ms) (order_fault place ms) others in
    let has = (not_missing (is_some (get_member (codes "host") ms)) None (at_key place (codes "host") (flaw bad.Missing)) missing).0 in
    and_true _ _ (required_fits place part.Platform (codes "host") Host ms fields refl refl has)
    (and_true _ _ (text_at_fits place part.Platform (codes "article") Article ms fields refl refl) (text_at_fits place part.Platform (codes "prefix") Prefix ms fields refl refl))

link_fits : (row : Option ℕ) (ms : Members) → table_fault (place_of (codes "link") row) part.Link ms ≡ None → is_link_rule (link_of ms) ≡ true
link_fits row ms fine =
    let place = place_of (codes "link") row in
    let fields = left (fields_fault place part.Link ms) (or_misfit (missing_fault place (required part.Link) ms) (order_fault place ms)) fine in
    let others = right (fields_fault place part.Link ms) (or_misfit (missing_fault place (required part.Link) ms) (order_fault place ms)) fine in
    let missing = left (missing_fault place (required part.Link) ms) (order_fault place ms) others in
    let first = not_missing (is_some (get_member (codes "label") ms)) (missing_fault place (codes "address" ∷ []) ms) (at_key place (codes "label") (flaw bad.Missing)) missing in
    let second = not_missing (is_some (get_member (codes "address") ms)) None (at_key place (codes "address") (flaw bad.Missing)) first.1 in
    and_true _ _ (required_fits place part.Link (codes "label") Text ms fields refl refl first.0) (required_fits place part.Link (codes "address") Template ms fields refl refl second.0)

-- a document without a fault describes a site whose values are valid
pub site_is_valid : (doc : Members) → fault_of doc ≡ None → IsSite (site_of doc)
unfolding site_of
site_is_valid doc fine = record {
  name = text_in_fits (codes "library") (codes "name") part.Library Text doc fine refl refl refl refl;
  language = text_in_fits (codes "library") (codes "language") part.Library Language doc fine refl refl refl refl;
  color = text_in_fits (codes "library") (codes "color") part.Library Color doc fine refl refl refl refl;
  help = text_in_fits (codes "library") (codes "help") part.Library Url doc fine refl refl refl refl;
  contact = text_in_fits (codes "library") (codes "contact") part.Library Url doc fine refl refl refl refl;
  request = text_in_fits (codes "library") (codes "request") part.Library Template doc fine refl refl refl refl;
  holdings = text_in_fits (codes "library") (codes "holdings") part.Library FileName doc fine refl refl refl refl;
  replaced = λ name known. ap (fits Text) (sym (text_is name doc)) ∙ text_in_fits (codes "texts") name part.Texts Text doc fine refl refl (rw known refl) refl;
  prefix = text_in_fits (codes "proxy") (codes "prefix") part.Proxy Prefix doc fine refl refl refl refl;
  except = except_section doc (get_member (codes "proxy") doc) fine refl;
  platforms = rows_in_fit (codes "platform") part.Platform platform_of is_platform_rule platform_fits doc (get_member (codes "platform") doc) fine refl refl refl;
  packages = rows_in_fit (codes "package") part.Package package_of is_package_rule package_fits doc (get_member (codes "package") doc) fine refl refl refl;
  titles = rows_in_fit (codes "title") part.Title title_of is_title_rule title_fits doc (get_member (codes "title") doc) fine refl refl refl;
  links = rows_in_fit (codes "link") part.Link link_of is_link_rule link_fits doc (get_member (codes "link") doc) fine refl refl refl;
}

-- a holdings file leaves the texts of a site as they are
pub listed_is_valid : (text : List ℕ) (site : SiteValue) → IsSite site → IsSite (with_listing text site)
listed_is_valid text site valid = record {
  name = valid.name;
  language = valid.language;
  color = valid.color;
  help = valid.help;
  contact = valid.contact;
  request = valid.request;
  holdings = valid.holdings;
  replaced = valid.replaced;
  prefix = valid.prefix;
  except = valid.except;
  platforms = valid.platforms;
  packages = valid.packages;
  titles = valid.titles;
  links = valid.links;
}
