-- Dates in words.
use Rattle.std.specs.Prelude.{ℕ, ◌==◌, ◌&&◌, Bool, false, if◌then◌else◌, List, [], ◌∷◌, ◌++◌, codes}
use Rattle.node_site.specs.Site as site_file
use Rattle.node_response.specs.Fragments.{joined}
use Rattle.node_site.specs.Texts.{text_of}
use Rattle.node_site.specs.declared.text_table.Text.{Text}
use Rattle.node_site.specs.declared.text_table.Text.TheVariants as text

-- the month with a number from 01 to 09, by its last digit
abbrev pub early_month : ℕ → Text
early_month ones =
    if ones == 49 then text.January
    else (if ones == 50 then text.February
    else (if ones == 51 then text.March
    else (if ones == 52 then text.April
    else (if ones == 53 then text.May
    else (if ones == 54 then text.June
    else (if ones == 55 then text.July
    else (if ones == 56 then text.August
    else text.September)))))))

-- the month with these two digits
abbrev pub month_of : ℕ → ℕ → Text
month_of tens ones =
    if tens == 48 then early_month ones
    else (if ones == 48 then text.October
    else (if ones == 49 then text.November
    else text.December))

-- the digits of a day, and the mark after them
unfoldable pub marked : site_file.SiteValue → List ℕ → List ℕ
marked site digits = joined (digits ∷ text_of site text.DayMark ∷ [])

-- a day of the month, without a leading zero; the first has a text of its own
unfoldable pub day_words : site_file.SiteValue → ℕ → ℕ → List ℕ
day_words site tens ones =
    if tens == 48
    then (if ones == 49 then joined (text_of site text.FirstDay ∷ []) else marked site (ones ∷ []))
    else marked site (tens ∷ ones ∷ [])

-- a month and its year, after a day
unfoldable pub month_words : site_file.SiteValue → Text → List ℕ → List ℕ
month_words site month year = joined (codes " " ∷ text_of site month ∷ codes " " ∷ year ∷ [])

-- a date is the first day of a year
abbrev pub begins_year : List ℕ → Bool
begins_year (a ∷ b ∷ c ∷ d ∷ h ∷ e ∷ f ∷ k ∷ i ∷ j ∷ []) = (e == 48) && (f == 49) && (i == 48) && (j == 49)
begins_year _ = false

-- a date is the last day of a year
abbrev pub ends_year : List ℕ → Bool
ends_year (a ∷ b ∷ c ∷ d ∷ h ∷ e ∷ f ∷ k ∷ i ∷ j ∷ []) = (e == 49) && (f == 50) && (i == 51) && (j == 49)
ends_year _ = false

-- the year of a date
unfoldable pub year_words : List ℕ → List ℕ
year_words (a ∷ b ∷ c ∷ d ∷ h ∷ e ∷ f ∷ k ∷ i ∷ j ∷ []) = a ∷ b ∷ c ∷ d ∷ []
year_words _ = []

-- a date that is written `YYYY-MM-DD`
unfoldable pub date_words : site_file.SiteValue → List ℕ → List ℕ
date_words site (a ∷ b ∷ c ∷ d ∷ h ∷ e ∷ f ∷ k ∷ i ∷ j ∷ []) =
    day_words site i j ++ month_words site (month_of e f) (a ∷ b ∷ c ∷ d ∷ [])
date_words site _ = []
