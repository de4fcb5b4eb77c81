-- The rows that answer a query, and their text.
use Rattle.std.specs.Prelude.{ℕ, List, [], ◌∷◌, ◌++◌, length, Option, option_map, codes}
use Rattle.std.specs.List.{filter_map, flat_map}
use Rattle.std.specs.Fmt.{decimal}
use Rattle.feed_kbart.specs.declared.holdings.Holdings.{Holdings}
use Rattle.feed_kbart.specs.RowValue.{RowValue}
use Rattle.feed_answer.specs.QueryValue.{QueryValue}
use Rattle.feed_answer.specs.Grades.{grade_of, grade_text}
use Rattle.feed_answer.specs.HitValue.{HitValue}

-- a row with its grade, if it matches
abbrev pub hit_by : QueryValue → RowValue → Option HitValue
hit_by query row = option_map (λ grade. record { row = row; grade = grade }) (grade_of query row)

-- the rows that match a query, in file order
unfoldable pub answer_of : Holdings → QueryValue → List HitValue
answer_of holdings query = filter_map (hit_by query) holdings.rows

-- a field after the first of a line
abbrev pub after_tab : List ℕ → List ℕ
after_tab field = 9 ∷ field

-- the line of a hit: its fields, joined by tabs, and a line feed
abbrev pub hit_line : HitValue → List ℕ
hit_line hit =
    decimal hit.row.number
    ++ flat_map after_tab (
    grade_text hit.grade ∷ hit.row.title ∷ hit.row.url ∷ hit.row.title_id
    ∷ hit.row.depth ∷ hit.row.embargo ∷ hit.row.access ∷ []
    )
    ++ codes "\n"

-- the line before the hits: the name of the release, and the number of hits
abbrev pub head_line : List ℕ → ℕ → List ℕ
head_line name count = codes "release " ++ name ++ codes " hits " ++ decimal count ++ codes "\n"

-- the text of an answer
unfoldable pub answer_text : List ℕ → List HitValue → List ℕ
answer_text name hits = head_line name (length hits) ++ flat_map hit_line hits
