-- A reader finds the title and the ISSNs of a row in its item.
use Rattle.std.proofs.Common.{◌≡◌, ℕ, List, [], ◌∷◌, ◌++◌, Option, Some, None, ℤ, refl, ap, ◌∙◌, inl, inr, append_assoc, codes, map}
use Rattle.std.specs.Prelude.{slice_range}
use Rattle.std.specs.Fmt.{decimal}
use Rattle.std.specs.Option.{option_and_then}
use Rattle.std.proofs.lemmas.Bool.{cases_Bool}
use Rattle.feed_dates.specs.Days.{date_of_day}
use Rattle.feed_answer.specs.declared.embargo.Embargo.{Embargo}
use Rattle.feed_answer.specs.declared.wall.Span.{Span}
use Rattle.feed_kbart.specs.Identifiers.{online_issn, print_issn}
use Rattle.feed_kbart.specs.RowValue.{RowValue}
use Rattle.feed_xml.specs.Characters.{allowed, bytes_marks}
use Rattle.feed_xml.specs.Elements.{leaf}
use Rattle.cmd_scholar.specs.Elements.{date_marks, dated, day_marks}
use Rattle.cmd_scholar.specs.Embargoes.{embargo_marks, has_span, span_days, span_marks, spans_marks}
use Rattle.cmd_scholar.specs.Items.{coverage_marks, item_with}
use Rattle.cmd_scholar.specs.Laws.{HasRow, ItemHasRow}
use Rattle.cmd_scholar.specs.Laws as law
use Rattle.feed_xml.specs.Marks.{Mark, opened, closed, byte, element}
use Rattle.cmd_scholar.specs.Fragments.{issn_marks}
use Rattle.feed_xml.specs.Reading.{leaf_texts, leaf_texts_in}
use Rattle.feed_xml.proofs.Found.{IsOther, Skips, found_leaf, skips_append, skips_bytes, skips_element, skips_leaf}
use Rattle.cmd_scholar.specs.declared.names.TheConstants.{ITEM, ITEM_END, TITLE, ISSN, COVERAGE, FROM, TO, YEAR, MONTH, DAY, EMBARGO, HIDDEN_DAYS, OPEN_DAYS}

-- the name is that of no element of a coverage
record IsOutside (name : List ℕ) : Type 0 where
  coverage : IsOther name COVERAGE.now
  first : IsOther name FROM.now
  last : IsOther name TO.now
  year : IsOther name YEAR.now
  month : IsOther name MONTH.now
  day : IsOther name DAY.now
  embargo : IsOther name EMBARGO.now
  hidden : IsOther name HIDDEN_DAYS.now
  open_days : IsOther name OPEN_DAYS.now

skips_date : (name date : List ℕ) → IsOutside name → Skips name (date_marks date)
skips_date name date is =
    skips_append name (leaf YEAR.now (slice_range date 0 4)) (leaf MONTH.now (slice_range date 5 7) ++ leaf DAY.now (slice_range date 8 10)) (skips_leaf name YEAR.now (slice_range date 0 4) is.year)
    (skips_append name (leaf MONTH.now (slice_range date 5 7)) (leaf DAY.now (slice_range date 8 10))
    (skips_leaf name MONTH.now (slice_range date 5 7) is.month) (skips_leaf name DAY.now (slice_range date 8 10) is.day))

skips_dated : (name other : List ℕ) (date : Option (List ℕ)) → IsOutside name → IsOther name other → Skips name (dated other date)
skips_dated name other None is differs rest = refl
skips_dated name other (Some date) is differs rest = skips_element name other other (date_marks date) differs (skips_date name date is) rest

skips_day : (name other : List ℕ) (day : Option ℤ) → IsOutside name → IsOther name other → Skips name (day_marks other day)
skips_day name other day is differs = skips_dated name other (option_and_then date_of_day day) is differs

skips_span : (name other : List ℕ) (span : Option Span) → IsOther name other → Skips name (span_marks other span)
skips_span name other None differs rest = refl
skips_span name other (Some span) differs rest =
    skips_element name other other (bytes_marks (decimal (span_days span))) differs (skips_bytes name (decimal (span_days span))) rest

skips_spans : (name : List ℕ) (embargo : Embargo) → IsOutside name → Skips name (spans_marks embargo)
skips_spans name embargo is =
    skips_element name EMBARGO.now EMBARGO.now (span_marks HIDDEN_DAYS.now embargo.ends ++ span_marks OPEN_DAYS.now embargo.begins) is.embargo
    (skips_append name (span_marks HIDDEN_DAYS.now embargo.ends) (span_marks OPEN_DAYS.now embargo.begins)
    (skips_span name HIDDEN_DAYS.now embargo.ends is.hidden) (skips_span name OPEN_DAYS.now embargo.begins is.open_days))

skips_embargo : (name : List ℕ) (embargo : Embargo) → IsOutside name → Skips name (embargo_marks embargo)
skips_embargo name embargo is = elim (cases_Bool (has_span embargo)) [
  | inl some ↦ rw some (skips_spans name embargo is)
  | inr none ↦ rw none (λ rest. refl)
]

skips_coverage : (name : List ℕ) (embargo : Embargo) (row : RowValue) → IsOutside name → Skips name (coverage_marks embargo row)
skips_coverage name embargo row is =
    skips_element name COVERAGE.now COVERAGE.now (day_marks FROM.now row.first_day ++ (day_marks TO.now row.last_day ++ embargo_marks embargo)) is.coverage
    (skips_append name (day_marks FROM.now row.first_day) (day_marks TO.now row.last_day ++ embargo_marks embargo)
    (skips_day name FROM.now row.first_day is is.first)
    (skips_append name (day_marks TO.now row.last_day) (embargo_marks embargo) (skips_day name TO.now row.last_day is is.last) (skips_embargo name embargo is)))

skips_issn : (name : List ℕ) (issn : Option (List ℕ)) → IsOther name ISSN.now → Skips name (issn_marks issn)
skips_issn name None differs rest = refl
skips_issn name (Some issn) differs rest = skips_leaf name ISSN.now issn differs rest

-- the end of an item
abbrev after : List Mark
after = closed ITEM_END.now ∷ byte 10 ∷ []

abbrev issns_of : RowValue → List Mark
issns_of row = issn_marks (print_issn row.identifiers) ++ issn_marks (online_issn row.identifiers)

-- an item is its start tag, its title, its ISSNs, its coverage and its end
item_parts : (title print online coverage : List Mark)
    → element ITEM.now ITEM_END.now (title ++ (print ++ (online ++ coverage))) ++ byte 10 ∷ [] ≡ opened ITEM.now ∷ (title ++ (print ++ (online ++ (coverage ++ after))))
item_parts title print online coverage = simp append_assoc

parts_of : (embargo : Embargo) (row : RowValue)
    → item_with embargo row
    ≡ opened ITEM.now ∷ (leaf TITLE.now row.title ++ (issn_marks (print_issn row.identifiers) ++ (issn_marks (online_issn row.identifiers)
    ++ (coverage_marks embargo row ++ after))))
parts_of embargo row =
    item_parts (leaf TITLE.now row.title) (issn_marks (print_issn row.identifiers)) (issn_marks (online_issn row.identifiers)) (coverage_marks embargo row)

no_titles : IsOutside (codes "title")
no_titles = record { coverage = refl; first = refl; last = refl; year = refl; month = refl; day = refl; embargo = refl; hidden = refl; open_days = refl }

no_issns : IsOutside (codes "issn")
no_issns = record { coverage = refl; first = refl; last = refl; year = refl; month = refl; day = refl; embargo = refl; hidden = refl; open_days = refl }

title_found : (embargo : Embargo) (row : RowValue) → leaf_texts (codes "title") (item_with embargo row) ≡ allowed row.title ∷ []
title_found embargo row =
    let coverage = skips_coverage (codes "title") embargo row no_titles after in
    let online = skips_issn (codes "title") (online_issn row.identifiers) refl (coverage_marks embargo row ++ after) in
    let print = skips_issn (codes "title") (print_issn row.identifiers) refl (issn_marks (online_issn row.identifiers) ++ (coverage_marks embargo row ++ after)) in
    ap (leaf_texts (codes "title")) (parts_of embargo row)
    ∙ found_leaf (codes "title") row.title _ refl
    ∙ ap (λ t. allowed row.title ∷ t) (print ∙ online ∙ coverage)

issns_found : (print online : Option (List ℕ)) (rest : List Mark) → leaf_texts_in (codes "issn") rest None ≡ []
    → leaf_texts_in (codes "issn") (issn_marks print ++ (issn_marks online ++ rest)) None ≡ map allowed (law.both print online)
issns_found None None rest none = none
issns_found None (Some online) rest none = found_leaf (codes "issn") online rest refl ∙ ap (λ t. allowed online ∷ t) none
issns_found (Some print) None rest none = found_leaf (codes "issn") print rest refl ∙ ap (λ t. allowed print ∷ t) none
issns_found (Some print) (Some online) rest none =
    found_leaf (codes "issn") print (leaf ISSN.now online ++ rest) refl
    ∙ ap (λ t. allowed print ∷ t) (found_leaf (codes "issn") online rest refl ∙ ap (λ t. allowed online ∷ t) none)

all_issns : (embargo : Embargo) (row : RowValue) → leaf_texts (codes "issn") (item_with embargo row) ≡ map allowed (law.both (print_issn row.identifiers) (online_issn row.identifiers))
all_issns embargo row =
    ap (leaf_texts (codes "issn")) (parts_of embargo row)
    ∙ skips_leaf (codes "issn") TITLE.now row.title refl (issn_marks (print_issn row.identifiers) ++ (issn_marks (online_issn row.identifiers)
    ++ (coverage_marks embargo row ++ after)))
    ∙ issns_found (print_issn row.identifiers) (online_issn row.identifiers) (coverage_marks embargo row ++ after)
    (skips_coverage (codes "issn") embargo row no_issns after)

pub item_found : ItemHasRow
item_found embargo row = record { title = title_found embargo row; issns = all_issns embargo row }
