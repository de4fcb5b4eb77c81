-- Parsing a query: what it asks for, or why it is rejected.
use Rattle.std.specs.Prelude.{◌≡◌, ◌≤◌, ◌&&◌, ◌||◌, nat_lt, ℕ, Bool, List, [], length, Result, Ok, Err, if◌then◌else◌}
use Rattle.std.specs.List.{list_any}
use Rattle.form_urlencoded.specs.Form as form
use Rattle.feed_answer.specs.Pairs.{is_empty, is_other_version, is_other_format, issns_among, isbns_among, first_days, first_volume}
use Rattle.feed_answer.specs.Pairs.{book_format, journal_format, has_format}
use Rattle.feed_answer.specs.QueryValue.{QueryValue}
use Rattle.feed_answer.specs.Limits.{query_limit}
use Rattle.feed_answer.specs.declared.fault.QueryFault.{QueryFault}
use Rattle.feed_answer.specs.declared.fault.QueryFault.TheVariants.{TooLong, Version, OtherFormat, NoIssn, NoIsbn, Memory}

-- the query names the format of journals
abbrev pub has_journal_format : List (List ℕ × List ℕ) → Bool
has_journal_format pairs = list_any (has_format journal_format) pairs

-- the query names the format of books
abbrev pub has_book_format : List (List ℕ × List ℕ) → Bool
has_book_format pairs = list_any (has_format book_format) pairs

-- the query names an unsupported format, or both supported ones
abbrev pub has_other_format : List (List ℕ × List ℕ) → Bool
has_other_format pairs = list_any is_other_format pairs || (has_journal_format pairs && has_book_format pairs)

-- the ISSNs asked for; in the format of books they do not count
abbrev pub query_issns : List (List ℕ × List ℕ) → List (List ℕ)
query_issns pairs = if has_book_format pairs then [] else issns_among pairs

-- the ISBNs asked for; in the format of journals they do not count
abbrev pub query_isbns : List (List ℕ × List ℕ) → List (List ℕ)
query_isbns pairs = if has_journal_format pairs then [] else isbns_among pairs

-- a query for these identifiers; it is rejected if there are none
abbrev pub query_for : List (List ℕ) → List (List ℕ) → List (List ℕ × List ℕ) → Result QueryValue QueryFault
query_for issns isbns pairs =
    if is_empty issns && is_empty isbns then Err (if has_book_format pairs then NoIsbn else NoIssn)
    else Ok (record { issns = issns; isbns = isbns; days = first_days pairs; volume = first_volume pairs })

-- what the decoded pairs ask for: the version is checked first, then the format, then the identifiers
abbrev pub query_of_pairs : List (List ℕ × List ℕ) → Result QueryValue QueryFault
query_of_pairs pairs =
    if list_any is_other_version pairs then Err Version
    else if has_other_format pairs then Err OtherFormat
    else query_for (query_issns pairs) (query_isbns pairs) pairs

-- what a query asks for, or the first reason to reject it
unfoldable pub query_of : List ℕ → Result QueryValue QueryFault
query_of text = if nat_lt query_limit (length text) then Err TooLong else query_of_pairs (form.parse text)

-- what parsing a query may return; an allocation failure may replace any outcome but `TooLong`
abbrev pub IsQueryResult : List ℕ → Result QueryValue QueryFault → Type 0
IsQueryResult text (Err Memory) = length text ≤ query_limit
IsQueryResult text outcome = outcome ≡ query_of text
