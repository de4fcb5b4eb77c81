-- The tags of an export are proper and balanced.
use Rattle.std.proofs.Common.{◌≡◌, ℕ, List, [], ◌∷◌, ◌++◌, true, Option, Some, None, ℤ, Result, Ok, Err, refl, inl, inr}
use Rattle.std.specs.Prelude.{slice_range}
use Rattle.std.specs.List.{flat_map}
use Rattle.std.specs.Option.{option_and_then}
use Rattle.std.proofs.lemmas.Bool.{cases_Bool}
use Rattle.feed_dates.specs.Days.{date_of_day}
use Rattle.feed_answer.specs.declared.embargo.Embargo.{Embargo}
use Rattle.feed_answer.specs.declared.wall.Span.{Span}
use Rattle.feed_kbart.specs.Identifiers.{online_issn, print_issn}
use Rattle.feed_kbart.specs.RowValue.{RowValue}
use Rattle.cmd_scholar.specs.declared.item.LeftOut.{LeftOut}
use Rattle.feed_xml.specs.Characters.{bytes_marks}
use Rattle.feed_xml.specs.Elements.{leaf}
use Rattle.cmd_scholar.specs.Elements.{date_marks, dated, day_marks}
use Rattle.cmd_scholar.specs.Embargoes.{embargo_marks, has_span, span_days, span_marks, spans_marks}
use Rattle.cmd_scholar.specs.Items.{content_marks, coverage_marks, embargo_in, holdings_marks, item_by, item_marks}
use Rattle.feed_xml.specs.Marks.{byte, xml_text}
use Rattle.cmd_scholar.specs.Fragments.{issn_marks}
use Rattle.feed_xml.specs.Reading.{is_balanced, xml_marks}
use Rattle.cmd_scholar.specs.declared.names.TheConstants.{HOLDINGS, ITEM, ITEM_END, TITLE, ISSN, COVERAGE, FROM, TO, YEAR, MONTH, DAY, EMBARGO, HIDDEN_DAYS, OPEN_DAYS}
use Rattle.feed_xml.proofs.Structure.{Good, are_tags, good_append, good_balanced, good_bytes, good_element, good_leaf, good_line, good_nothing, good_number, good_read}

good_date : (date : List ℕ) → Good (date_marks date)
good_date date =
    good_append (leaf YEAR.now (slice_range date 0 4)) (leaf MONTH.now (slice_range date 5 7) ++ leaf DAY.now (slice_range date 8 10)) (good_leaf YEAR.now (slice_range date 0 4) refl)
    (good_append (leaf MONTH.now (slice_range date 5 7)) (leaf DAY.now (slice_range date 8 10)) (good_leaf MONTH.now (slice_range date 5 7) refl) (good_leaf DAY.now (slice_range date 8 10) refl))

good_dated : (name : List ℕ) (date : Option (List ℕ)) → are_tags name name ≡ true → Good (dated name date)
good_dated name None tags = good_nothing
good_dated name (Some date) tags = good_element name name (date_marks date) tags (good_date date)

good_day : (name : List ℕ) (day : Option ℤ) → are_tags name name ≡ true → Good (day_marks name day)
good_day name day tags = good_dated name (option_and_then date_of_day day) tags

good_span : (name : List ℕ) (span : Option Span) → are_tags name name ≡ true → Good (span_marks name span)
good_span name None tags = good_nothing
good_span name (Some span) tags = good_number name (span_days span) tags

good_spans : (embargo : Embargo) → Good (spans_marks embargo)
good_spans embargo =
    good_element EMBARGO.now EMBARGO.now (span_marks HIDDEN_DAYS.now embargo.ends ++ span_marks OPEN_DAYS.now embargo.begins) refl
    (good_append (span_marks HIDDEN_DAYS.now embargo.ends) (span_marks OPEN_DAYS.now embargo.begins) (good_span HIDDEN_DAYS.now embargo.ends refl)
    (good_span OPEN_DAYS.now embargo.begins refl))

good_embargo : (embargo : Embargo) → Good (embargo_marks embargo)
good_embargo embargo = elim (cases_Bool (has_span embargo)) [
  | inl some ↦ rw some (good_spans embargo)
  | inr none ↦ rw none good_nothing
]

good_issn : (issn : Option (List ℕ)) → Good (issn_marks issn)
good_issn None = good_nothing
good_issn (Some issn) = good_leaf ISSN.now issn refl

good_coverage : (embargo : Embargo) (row : RowValue) → Good (coverage_marks embargo row)
good_coverage embargo row =
    good_element COVERAGE.now COVERAGE.now (day_marks FROM.now row.first_day ++ (day_marks TO.now row.last_day ++ embargo_marks embargo)) refl
    (good_append (day_marks FROM.now row.first_day) (day_marks TO.now row.last_day ++ embargo_marks embargo) (good_day FROM.now row.first_day refl)
    (good_append (day_marks TO.now row.last_day) (embargo_marks embargo) (good_day TO.now row.last_day refl) (good_embargo embargo)))

good_content : (embargo : Embargo) (row : RowValue) → Good (content_marks embargo row)
good_content embargo row =
    good_append (leaf TITLE.now row.title) (issn_marks (print_issn row.identifiers) ++ (issn_marks (online_issn row.identifiers) ++ coverage_marks embargo row))
    (good_leaf TITLE.now row.title refl)
    (good_append (issn_marks (print_issn row.identifiers)) (issn_marks (online_issn row.identifiers) ++ coverage_marks embargo row)
    (good_issn (print_issn row.identifiers))
    (good_append (issn_marks (online_issn row.identifiers)) (coverage_marks embargo row) (good_issn (online_issn row.identifiers)) (good_coverage embargo row)))

good_item_by : (embargo : Result Embargo LeftOut) (row : RowValue) → Good (item_by embargo row)
good_item_by (Ok embargo) row = good_line ITEM.now ITEM_END.now (content_marks embargo row) refl (good_content embargo row)
good_item_by (Err why) row = good_nothing

good_items : (rows : List RowValue) → Good (flat_map item_marks rows)
good_items [] = good_nothing
good_items (row ∷ rows) = good_append (item_marks row) (flat_map item_marks rows) (good_item_by (embargo_in row) row) (good_items rows)

good_holdings : (rows : List RowValue) → Good (holdings_marks rows)
good_holdings rows =
    good_line HOLDINGS.now HOLDINGS.now (byte 10 ∷ flat_map item_marks rows) refl
    (good_append (bytes_marks (10 ∷ [])) (flat_map item_marks rows) (good_bytes (10 ∷ [])) (good_items rows))

-- a reader gets the export back
pub export_read : (rows : List RowValue) → xml_marks (xml_text (holdings_marks rows)) ≡ Some (holdings_marks rows)
export_read rows = good_read (holdings_marks rows) (good_holdings rows)

-- and its tags are balanced
pub export_balanced : (rows : List RowValue) → is_balanced (holdings_marks rows) ≡ true
export_balanced rows = good_balanced (holdings_marks rows) (good_holdings rows)
