-- The coverage of a row, and how it is read, in words.
use Rattle.std.specs.Prelude.{ℕ, ◌&&◌, Bool, if◌then◌else◌, List, [], ◌∷◌, ◌++◌, codes, Option, Some, None}
use Rattle.std.specs.Fmt.{decimal}
use Rattle.std.specs.Option.{option_and_then}
use Rattle.feed_dates.specs.Days.{date_of_day}
use Rattle.feed_kbart.specs.RowValue.{RowValue}
use Rattle.node_site.specs.Site as site_file
use Rattle.node_response.specs.Fragments.{joined}
use Rattle.node_hits.specs.Hits.{is_abstracts, is_free, is_full_text, is_selection}
use Rattle.node_pages.specs.Dates.{begins_year, date_words, ends_year, year_words}
use Rattle.node_pages.specs.EmbargoTexts.{embargo_part, sentence}
use Rattle.node_site.specs.Texts.{text_of}
use Rattle.node_templates.specs.Values.{text_if}
use Rattle.node_site.specs.declared.text_table.Text.{Text}
use Rattle.node_site.specs.declared.text_table.Text.TheVariants as text

-- one of two texts: for a day, or for a whole year
abbrev pub text_by : Bool → Text → Text → Text
text_by in_years day year = if in_years then year else day

-- a date in words, or its year alone
abbrev pub when_words : site_file.SiteValue → Bool → List ℕ → List ℕ
when_words site in_years date = if in_years then year_words date else date_words site date

-- a text, and a date or a year after it
unfoldable pub date_after : site_file.SiteValue → Text → Bool → List ℕ → List ℕ
date_after site name in_years date =
    joined (text_of site name ∷ codes " " ∷ []) ++ when_words site in_years date

unfoldable pub date_sentence : site_file.SiteValue → Text → Bool → List ℕ → List ℕ
date_sentence site name in_years date = date_after site name in_years date ++ codes ". "

-- the days of a coverage without a last day
unfoldable pub from_words : site_file.SiteValue → Bool → List ℕ → List ℕ
from_words site in_years first =
    date_after site (text_by in_years text.AvailableFrom text.AvailableFromYear) in_years first
    ++ joined (codes " " ∷ text_of site text.ToPresent ∷ codes ". " ∷ [])

unfoldable pub days_between : site_file.SiteValue → Bool → List ℕ → List ℕ → List ℕ
days_between site in_years first last =
    date_after site (text_by in_years text.AvailableFrom text.AvailableFromYear) in_years first
    ++ (codes " " ++ date_sentence site (text_by in_years text.To text.ToYear) in_years last)

-- the days from a first to a last one, as far as they are known; whole years as years
abbrev pub days_by : site_file.SiteValue → Option (List ℕ) → Option (List ℕ) → List ℕ
days_by site None None = []
days_by site None (Some last) = date_sentence site (text_by (ends_year last) text.AvailableTo text.AvailableToYear) (ends_year last) last
days_by site (Some first) None = from_words site (begins_year first) first
days_by site (Some first) (Some last) = days_between site (begins_year first && ends_year last) first last

-- the days that a row covers
unfoldable pub days_words : site_file.SiteValue → RowValue → List ℕ
days_words site row = days_by site (option_and_then date_of_day row.first_day) (option_and_then date_of_day row.last_day)

unfoldable pub volume_sentence : site_file.SiteValue → Text → ℕ → List ℕ
volume_sentence site name volume = joined (text_of site name ∷ codes " " ∷ decimal volume ∷ codes ". " ∷ [])

unfoldable pub volumes_between : site_file.SiteValue → ℕ → ℕ → List ℕ
volumes_between site first last =
    joined (text_of site text.FromVolume ∷ codes " " ∷ decimal first ∷ codes " " ∷ [])
    ++ volume_sentence site text.ToVolume last

-- the volumes from a first to a last one, as far as they are known
abbrev pub volumes_by : site_file.SiteValue → Option ℕ → Option ℕ → List ℕ
volumes_by site None None = []
volumes_by site None (Some last) = volume_sentence site text.UpToVolume last
volumes_by site (Some first) None = volume_sentence site text.FromVolume first
volumes_by site (Some first) (Some last) = volumes_between site first last

-- the volumes that a row covers
unfoldable pub volumes_words : site_file.SiteValue → RowValue → List ℕ
volumes_words site row = volumes_by site row.first_volume row.last_volume

-- the text for the depth of a coverage, if it is one that a list may have
abbrev pub depth_name : RowValue → Option Text
depth_name row =
    if is_full_text row then Some text.Depth
    else if is_selection row then Some text.Selected
    else if is_abstracts row then Some text.Abstracts
    else None

abbrev pub depth_by : site_file.SiteValue → List ℕ → Option Text → List ℕ
depth_by site depth None = depth
depth_by site depth (Some name) = text_of site name

-- the depth of a coverage in words, and any other as it is
abbrev pub depth_text : site_file.SiteValue → RowValue → List ℕ
depth_text site row = depth_by site row.depth (depth_name row)

-- the days and the volumes that a row covers, its depth, whether it is free, and its embargo
unfoldable pub coverage_words : site_file.SiteValue → RowValue → List ℕ
coverage_words site row =
    days_words site row
    ++ (volumes_words site row
    ++ (sentence (depth_text site row)
    ++ (sentence (text_if (is_free row) (text_of site text.Free))
    ++ embargo_part site row.embargo)))
