-- Laws of the export.
use Rattle.std.specs.Prelude.{◌≡◌, ◌<◌, ◌++◌, ℕ, List, [], ◌∷◌, true, Option, Some, None, map, ℤ, pos, ◌+ℤ◌, ◌≤ℤ◌, ◌<ℤ◌, codes}
use Rattle.std.specs.List.{flat_map}
use Rattle.feed_answer.specs.Embargo.{start}
use Rattle.feed_answer.specs.Today.{TodayValue, IsDayOfMonth}
use Rattle.feed_answer.specs.declared.embargo.Embargo.{Embargo}
use Rattle.feed_answer.specs.declared.wall.Span.{Span}
use Rattle.feed_answer.specs.declared.wall.Span.TheVariants.{Days, Months, Years}
use Rattle.feed_kbart.specs.Identifiers.{online_issn, print_issn}
use Rattle.feed_kbart.specs.RowValue.{RowValue}
use Rattle.feed_xml.specs.Characters.{allowed}
use Rattle.cmd_scholar.specs.Embargoes.{span_days}
use Rattle.cmd_scholar.specs.Items.{end_text, export_text, holdings_marks, item_text, item_with, start_text}
use Rattle.feed_xml.specs.Marks.{xml_text}
use Rattle.feed_xml.specs.Reading.{is_balanced, leaf_texts, xml_marks}

-- the beginning, the items and the end are the export
abbrev pub ExportIsWritten : Type 0
ExportIsWritten = (rows : List RowValue) → (start_text ++ flat_map item_text rows) ++ end_text ≡ export_text rows

-- a reader of XML gets the tags and the characters of the holdings from the text after the declaration, so no text of a
-- row is read as a tag or a reference
abbrev pub ExportReadsBack : Type 0
ExportReadsBack = (rows : List RowValue) → xml_marks (xml_text (holdings_marks rows)) ≡ Some (holdings_marks rows)

-- each end tag of the export closes the innermost element
abbrev pub ExportIsBalanced : Type 0
ExportIsBalanced = (rows : List RowValue) → is_balanced (holdings_marks rows) ≡ true

-- the identifiers that there are, print first
abbrev pub both : Option (List ℕ) → Option (List ℕ) → List (List ℕ)
both None None = []
both None (Some online) = online ∷ []
both (Some print) None = print ∷ []
both (Some print) (Some online) = print ∷ online ∷ []

-- a reader finds the title of the row in an item, once, and its ISSNs
pub record HasRow (embargo : Embargo) (row : RowValue) : Type 0 where
  pub title : leaf_texts (codes "title") (item_with embargo row) ≡ allowed row.title ∷ []
  pub issns : leaf_texts (codes "issn") (item_with embargo row) ≡ map allowed (both (print_issn row.identifiers) (online_issn row.identifiers))

abbrev pub ItemHasRow : Type 0
ItemHasRow = (embargo : Embargo) (row : RowValue) → HasRow embargo row

-- the length of a span
abbrev pub span_length : Span → ℕ
span_length (Days n) = n
span_length (Months n) = n
span_length (Years n) = n

-- whatever day today is, each day of a span is among the most recent ones that are counted for it. Type P hides no day
-- that is not counted, and type R opens none
abbrev pub SpansAreCounted : Type 0
SpansAreCounted = (today : TodayValue) (span : Span) (day : ℤ) → IsDayOfMonth today.month today.day → 0 < span_length span
    → start today span ≤ℤ day → today.day <ℤ (day +ℤ pos (span_days span))
