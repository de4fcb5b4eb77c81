-- The titles that contain a text, as text and as JSON.
use Rattle.std.specs.Prelude.{ℕ, List, [], ◌∷◌, ◌++◌, codes, Option, Some, None}
use Rattle.std.specs.List.{flat_map}
use Rattle.std.specs.Fmt.{decimal}
use Rattle.feed_kbart.specs.Identifiers.{online_isbn, online_issn, print_isbn, print_issn}
use Rattle.feed_kbart.specs.RowValue.{RowValue}
use Rattle.feed_kbart.specs.declared.identifiers.Identifiers.{Identifiers}
use Rattle.node_hits.specs.Coverages.{days_words, volumes_words}
use Rattle.node_hits.specs.HitsJson.{release_members}
use Rattle.node_response.specs.JsonLists.{json_list}
use Rattle.node_response.specs.JsonStrings.{json_string}
use Rattle.node_response.specs.Fragments.{joined}
use Rattle.node_titles.specs.TitleSearches.{TitleSearchValue}
use Rattle.node_titles.specs.Titles.{EntryValue}
use Rattle.node_titles.specs.Walks.{WalkValue}

-- a text between two others, if there is one
abbrev pub between : List ℕ → Option (List ℕ) → List ℕ → List ℕ
between front None back = []
between front (Some text) back = front ++ (text ++ back)

-- an ISSN or an ISBN, or nothing
abbrev pub number_text : Option (List ℕ) → Option (List ℕ) → List ℕ
number_text issn isbn = between [] issn [] ++ between [] isbn []

-- the pairs of the query for a title in all packages, and the target of this query, whose response is JSON
unfoldable pub issn_pairs : Identifiers → List ℕ
issn_pairs identifiers =
    between (codes "&rft.issn=") (print_issn identifiers) [] ++ between (codes "&rft.eissn=") (online_issn identifiers) []

unfoldable pub isbn_pairs : Identifiers → List ℕ
isbn_pairs identifiers =
    between (codes "&rft.isbn=") (print_isbn identifiers) [] ++ between (codes "&rft.isbn=") (online_isbn identifiers) []

abbrev pub title_pairs : Identifiers → List ℕ
title_pairs identifiers = issn_pairs identifiers ++ isbn_pairs identifiers

unfoldable pub title_target : Identifiers → List ℕ
title_target identifiers = codes "/resolve?format=json" ++ title_pairs identifiers

-- fields and the end of their line, joined by tabs
unfoldable pub front_fields : List ℕ → ℕ → List ℕ → List ℕ
front_fields package_name number title = joined (package_name ∷ codes "\t" ∷ decimal number ∷ codes "\t" ∷ title ∷ codes "\t" ∷ [])

unfoldable pub back_fields : List ℕ → List ℕ → List ℕ → List ℕ → List ℕ
back_fields print online days volumes =
    joined (print ∷ codes "\t" ∷ online ∷ codes "\t" ∷ days ∷ codes "\t" ∷ volumes ∷ codes "\n" ∷ [])

-- the line of a row: its package, record, title, identifiers, days and volumes
unfoldable pub title_line : EntryValue → List ℕ
title_line entry =
    front_fields entry.name.package_name entry.row.number entry.row.title
    ++ back_fields (number_text (print_issn entry.row.identifiers) (print_isbn entry.row.identifiers))
    (number_text (online_issn entry.row.identifiers) (online_isbn entry.row.identifiers)) (days_words entry.row) (volumes_words entry.row)

-- the line with the place where the next walk begins
abbrev pub next_line : Option ℕ → List ℕ
next_line None = []
next_line (Some place) = joined (codes "next " ∷ decimal place ∷ codes "\n" ∷ [])

-- the rows as text
unfoldable pub titles_text : WalkValue → List ℕ
titles_text walk = flat_map title_line walk.found ++ next_line walk.next

-- the members for a record, its title and its identifiers
unfoldable pub row_members : RowValue → List ℕ
row_members row = joined (
    codes ",\"record\":" ∷ decimal row.number ∷ codes ",\"title\":" ∷ json_string row.title
    ∷ codes ",\"print_identifier\":" ∷ json_string (number_text (print_issn row.identifiers) (print_isbn row.identifiers))
    ∷ codes ",\"online_identifier\":" ∷ json_string (number_text (online_issn row.identifiers) (online_isbn row.identifiers)) ∷ [])

-- the members for its coverage and the query for its title
unfoldable pub coverage_members : List ℕ → List ℕ → List ℕ → List ℕ
coverage_members days volumes link = joined (
    codes ",\"days_words\":" ∷ json_string days ∷ codes ",\"volumes_words\":" ∷ json_string volumes
    ∷ codes ",\"resolve\":" ∷ json_string link ∷ codes "}" ∷ [])

unfoldable pub end_members : RowValue → List ℕ
end_members row = coverage_members (days_words row) (volumes_words row) (title_target row.identifiers)

-- a row as a JSON object
unfoldable pub title_object : EntryValue → List ℕ
title_object entry = release_members entry.name ++ (row_members entry.row ++ end_members entry.row)

-- the version of the form of answers, the text that is asked for, and the place of the first row
unfoldable pub ask_members : TitleSearchValue → List ℕ
ask_members ask = joined (
    codes "{\"version\":1,\"q\":" ∷ json_string ask.text ∷ codes ",\"start\":" ∷ decimal ask.start ∷ codes ",\"titles\":" ∷ [])

-- the place where the next walk begins, or `null`
abbrev pub next_value : Option ℕ → List ℕ
next_value None = codes "null"
next_value (Some place) = decimal place

unfoldable pub next_member : Option ℕ → List ℕ
next_member next = codes ",\"next\":" ++ (next_value next ++ codes "}\n")

-- the rows as JSON
unfoldable pub titles_json : TitleSearchValue → WalkValue → List ℕ
titles_json ask walk = ask_members ask ++ (json_list title_object walk.found ++ next_member walk.next)
