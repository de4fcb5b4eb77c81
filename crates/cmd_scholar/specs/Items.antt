-- The item of a row, and the export of rows.
use Rattle.std.specs.Prelude.{ℕ, Bool, true, false, List, [], ◌∷◌, ◌++◌, Option, Some, None, Result, Ok, Err}
use Rattle.std.specs.List.{flat_map}
use Rattle.feed_answer.specs.Form.{embargo_of}
use Rattle.feed_answer.specs.declared.embargo.Embargo.{Embargo}
use Rattle.feed_kbart.specs.Identifiers.{kind, online_issn, print_issn}
use Rattle.feed_kbart.specs.RowValue.{RowValue}
use Rattle.feed_kbart.specs.declared.identifiers.Kind.{Kind}
use Rattle.feed_kbart.specs.declared.identifiers.Kind.TheVariants as of
use Rattle.feed_xml.specs.Elements.{leaf}
use Rattle.cmd_scholar.specs.Elements.{day_marks}
use Rattle.cmd_scholar.specs.Embargoes.{embargo_marks}
use Rattle.feed_xml.specs.Marks.{Mark, byte, closed, element, mark_text, opened, xml_text}
use Rattle.cmd_scholar.specs.Fragments.{issn_marks}
use Rattle.cmd_scholar.specs.declared.item.LeftOut.{LeftOut}
use Rattle.cmd_scholar.specs.declared.item.LeftOut.TheVariants as left
use Rattle.feed_xml.specs.declared.tags.TheConstants.{DECLARATION}
use Rattle.cmd_scholar.specs.declared.names.TheConstants.{HOLDINGS, ITEM, ITEM_END, TITLE, COVERAGE, FROM, TO}

-- the embargo that is read, if it has the form
abbrev pub embargo_read : Option Embargo → Result Embargo LeftOut
embargo_read None = Err left.OtherEmbargo
embargo_read (Some embargo) = Ok embargo

-- the embargo of a row of this kind, or why it has no item
abbrev pub embargo_by : Kind → RowValue → Result Embargo LeftOut
embargo_by of.Book row = Err left.Book
embargo_by of.Serial row = embargo_read (embargo_of row.embargo)

-- the embargo of a row that has an item, or why it has none
abbrev pub embargo_in : RowValue → Result Embargo LeftOut
embargo_in row = embargo_by (kind row.identifiers) row

-- the reason, if there is one
abbrev pub reason_of : Result Embargo LeftOut → Option LeftOut
reason_of (Ok embargo) = None
reason_of (Err why) = Some why

-- why a row has no item, or nothing if it has one
abbrev pub left_out : RowValue → Option LeftOut
left_out row = reason_of (embargo_in row)

-- a reason is this one
abbrev pub is_reason : LeftOut → Option LeftOut → Bool
is_reason why None = false
is_reason left.Book (Some left.Book) = true
is_reason left.Book (Some left.OtherEmbargo) = false
is_reason left.OtherEmbargo (Some left.Book) = false
is_reason left.OtherEmbargo (Some left.OtherEmbargo) = true

-- a row is left out for this reason
abbrev pub is_left_out : LeftOut → RowValue → Bool
is_left_out why row = is_reason why (left_out row)

-- the first day, the last day and the embargo
abbrev pub coverage_marks : Embargo → RowValue → List Mark
coverage_marks embargo row =
    element COVERAGE.now COVERAGE.now (day_marks FROM.now row.first_day ++ (day_marks TO.now row.last_day ++ embargo_marks embargo))

-- the title, the ISSNs and the coverage of a row
abbrev pub content_marks : Embargo → RowValue → List Mark
content_marks embargo row =
    leaf TITLE.now row.title ++ (issn_marks (print_issn row.identifiers) ++ (issn_marks (online_issn row.identifiers) ++ coverage_marks embargo row))

-- the item of a row with its embargo, and the end of its line
abbrev pub item_with : Embargo → RowValue → List Mark
item_with embargo row = element ITEM.now ITEM_END.now (content_marks embargo row) ++ byte 10 ∷ []

-- the item that this embargo makes, if there is one
abbrev pub item_by : Result Embargo LeftOut → RowValue → List Mark
item_by (Ok embargo) row = item_with embargo row
item_by (Err why) row = []

-- the item of a row, or nothing if it is left out
abbrev pub item_marks : RowValue → List Mark
item_marks row = item_by (embargo_in row) row

-- its text
unfoldable pub item_text : RowValue → List ℕ
item_text row = xml_text (item_marks row)

-- the holdings of rows: the root element with their items, each on a line of its own
abbrev pub holdings_marks : List RowValue → List Mark
holdings_marks rows = element HOLDINGS.now HOLDINGS.now (byte 10 ∷ flat_map item_marks rows) ++ byte 10 ∷ []

-- the export of rows: a declaration, and their holdings
abbrev pub export_text : List RowValue → List ℕ
export_text rows = DECLARATION.now ++ xml_text (holdings_marks rows)

-- its beginning, before the items, and its end, after them
unfoldable pub start_text : List ℕ
start_text = DECLARATION.now ++ (mark_text (opened HOLDINGS.now) ++ 10 ∷ [])

unfoldable pub end_text : List ℕ
end_text = mark_text (closed HOLDINGS.now) ++ 10 ∷ []
