-- An embargo in words.
use Rattle.std.specs.Prelude.{ℕ, ◌==◌, if◌then◌else◌, List, [], ◌∷◌, ◌++◌, codes, Option, Some, None}
use Rattle.std.specs.Fmt.{decimal}
use Rattle.feed_answer.specs.Form.{embargo_of}
use Rattle.feed_answer.specs.declared.embargo.Embargo.{Embargo}
use Rattle.feed_answer.specs.declared.wall.Span.{Span}
use Rattle.feed_answer.specs.declared.wall.Span.TheVariants.{Days, Months, Years}
use Rattle.node_response.specs.Fragments.{joined}
use Rattle.node_hits.specs.declared.embargo_words.TheConstants.{OPENED_START}

-- a number of things: one, or many with their number
unfoldable pub words_of : ℕ → List ℕ → List ℕ → List ℕ
words_of number one many = if number == 1 then one else joined (decimal number ∷ many ∷ [])

-- the most recent days, months or years
abbrev pub span_words : Span → List ℕ
span_words (Days number) = words_of number (codes "day") (codes " days")
span_words (Months number) = words_of number (codes "month") (codes " months")
span_words (Years number) = words_of number (codes "year") (codes " years")

-- a span with the words before it, if there is one
abbrev pub phrase : List ℕ → Option Span → List ℕ
phrase front None = []
phrase front (Some span) = front ++ span_words span

-- the words before what type P hides
abbrev pub hidden_start : Option Span → List ℕ
hidden_start None = codes "Not the most recent "
hidden_start (Some begins) = codes ", and not the most recent "

-- what type R opens and what type P hides
abbrev pub limits_words : Embargo → List ℕ
limits_words embargo = phrase OPENED_START.now embargo.begins ++ phrase (hidden_start embargo.begins) embargo.ends

-- an embargo, if there is one and it has the form
abbrev pub words_by : Option Embargo → List ℕ
words_by None = []
words_by (Some embargo) = limits_words embargo

abbrev pub embargo_words : List ℕ → List ℕ
embargo_words text = words_by (embargo_of text)
