-- An embargo in the words of a page.
use Rattle.std.specs.Prelude.{ℕ, ◌==◌, if◌then◌else◌, List, [], ◌∷◌, ◌++◌, codes, Option, Some, None}
use Rattle.std.specs.Fmt.{decimal}
use Rattle.feed_answer.specs.Pairs.{is_empty}
use Rattle.feed_answer.specs.Form.{embargo_of}
use Rattle.feed_answer.specs.declared.embargo.Embargo.{Embargo}
use Rattle.feed_answer.specs.declared.wall.Span.{Span}
use Rattle.feed_answer.specs.declared.wall.Span.TheVariants.{Days, Months, Years}
use Rattle.node_site.specs.Site as site_file
use Rattle.node_site.specs.Texts.{text_of}
use Rattle.node_response.specs.Fragments.{joined}
use Rattle.node_site.specs.declared.text_table.Text.{Text}
use Rattle.node_site.specs.declared.text_table.Text.TheVariants as text

-- a text as a sentence, if there is one
unfoldable pub sentence : List ℕ → List ℕ
sentence words = if is_empty words then [] else joined (words ∷ codes ". " ∷ [])

-- the most recent ones of a kind: the text for one, or the number between the texts for more
unfoldable pub number_words : site_file.SiteValue → ℕ → Text → Text → List ℕ
number_words site number one many =
    if number == 1 then text_of site one
    else joined (text_of site text.MostRecent ∷ codes " " ∷ decimal number ∷ codes " " ∷ text_of site many ∷ [])

-- the most recent days, months or years
abbrev pub span_words : site_file.SiteValue → Span → List ℕ
span_words site (Days number) = number_words site number text.Day text.Days
span_words site (Months number) = number_words site number text.Month text.Months
span_words site (Years number) = number_words site number text.Year text.Years

-- a text, and a span after it
unfoldable pub limit_words : site_file.SiteValue → Text → Span → List ℕ
limit_words site name span = joined (text_of site name ∷ codes " " ∷ []) ++ span_words site span

unfoldable pub limit_sentence : site_file.SiteValue → Text → Span → List ℕ
limit_sentence site name span = limit_words site name span ++ codes ". "

-- what type R opens, and what type P hides of it
unfoldable pub both_limits : site_file.SiteValue → Span → Span → List ℕ
both_limits site begins ends =
    limit_words site text.OnlyRecent begins ++ (codes ", " ++ limit_sentence site text.AlsoNotRecent ends)

-- what type R opens, and what type P hides
abbrev pub limits_by : site_file.SiteValue → Option Span → Option Span → List ℕ
limits_by site None None = []
limits_by site None (Some ends) = limit_sentence site text.NotRecent ends
limits_by site (Some begins) None = limit_sentence site text.OnlyRecent begins
limits_by site (Some begins) (Some ends) = both_limits site begins ends

abbrev pub embargo_by : site_file.SiteValue → List ℕ → Option Embargo → List ℕ
embargo_by site words None = sentence words
embargo_by site words (Some embargo) = limits_by site embargo.begins embargo.ends

-- the embargo of a row in words, or one of another form as it is
unfoldable pub embargo_part : site_file.SiteValue → List ℕ → List ℕ
embargo_part site words = embargo_by site words (embargo_of words)
