-- The element of an embargo, whose lengths are days.
use Rattle.std.specs.Prelude.{ℕ, ◌*◌, ◌||◌, Bool, if◌then◌else◌, is_some, List, [], ◌++◌, Option, Some, None}
use Rattle.feed_answer.specs.declared.embargo.Embargo.{Embargo}
use Rattle.feed_answer.specs.declared.wall.Span.{Span}
use Rattle.feed_answer.specs.declared.wall.Span.TheVariants.{Days, Months, Years}
use Rattle.feed_xml.specs.Elements.{number_leaf}
use Rattle.feed_xml.specs.Marks.{Mark, element}
use Rattle.cmd_scholar.specs.declared.names.TheConstants.{EMBARGO, HIDDEN_DAYS, OPEN_DAYS}

-- the most days that a span may have: a month has at most 31, and a year at most 366
abbrev pub span_days : Span → ℕ
span_days (Days n) = n
span_days (Months n) = 31 * n
span_days (Years n) = 366 * n

-- an element with the days of a span, if there is one
abbrev pub span_marks : List ℕ → Option Span → List Mark
span_marks name None = []
span_marks name (Some span) = number_leaf name (span_days span)

-- whether an embargo has a span
abbrev pub has_span : Embargo → Bool
has_span embargo = is_some embargo.ends || is_some embargo.begins

-- the days that type P hides, and the days that type R opens
abbrev pub spans_marks : Embargo → List Mark
spans_marks embargo =
    element EMBARGO.now EMBARGO.now (span_marks HIDDEN_DAYS.now embargo.ends ++ span_marks OPEN_DAYS.now embargo.begins)

-- the element of an embargo, if it has a span
abbrev pub embargo_marks : Embargo → List Mark
embargo_marks embargo = if has_span embargo then spans_marks embargo else []
