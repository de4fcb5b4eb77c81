-- The query to look up for a request, in whatever form its source sent it, or why nothing is looked up.
use Rattle.std.specs.Prelude.{ℕ, ◌&&◌, ◌||◌, not, nat_lt, Bool, List, [], ◌∷◌, length, codes, Option, Result, Ok, Err, unwrap_or}
use Rattle.form_urlencoded.specs.Form as form
use Rattle.feed_answer.specs.QueryValue.{QueryValue}
use Rattle.feed_openurl.specs.Citations.{CitationValue, citation_of_pairs, text_at}
use Rattle.feed_openurl.specs.Queries.{asked_by}
use Rattle.feed_openurl.specs.Values.{understood}
use Rattle.feed_openurl.specs.declared.fault.OpenUrlFault.{OpenUrlFault}
use Rattle.feed_citation.specs.declared.citation_part.CitationPart.TheVariants.{Genre}
use Rattle.node_hits.specs.Hits.{is_word}
use Rattle.node_links.specs.Requests.{CitedTitleValue}
use Rattle.node_hits.specs.Searches.{SearchValue}
use Rattle.node_hits.specs.declared.search.Scope.TheVariants.{Hits}

-- a query names a serial and a book, such as a chapter of a book in a series
abbrev pub names_both : QueryValue → Bool
names_both query = nat_lt 0 (length query.issns) && nat_lt 0 (length query.isbns)

-- a genre is that of serials (the KEV format of journals)
abbrev pub is_of_serials : List ℕ → Bool
is_of_serials genre = is_word (codes "article") genre || is_word (codes "journal") genre

-- the book comes before the serial, unless the genre is that of serials
abbrev pub is_book_first : CitationValue → QueryValue → Bool
is_book_first citation query = names_both query && not (is_of_serials (text_at citation Genre))

-- the first of some texts, or nothing
abbrev pub first_text : List (List ℕ) → List ℕ
first_text [] = []
first_text (text ∷ texts) = text

-- what a query cites: the first identifiers that are looked up, as they are printed, and the date as it is understood
abbrev pub cited_by : CitationValue → Option (List ℕ) → QueryValue → CitedTitleValue
cited_by citation date query = record {
  citation = citation;
  issn = first_text query.issns;
  isbn = first_text query.isbns;
  date = unwrap_or date [];
  title_id = [];
}

-- the look-up of a query with this citation and this date
abbrev pub search_of : CitationValue → Option (List ℕ) → QueryValue → SearchValue
search_of citation date query = record {
  query = query;
  scope = Hits;
  is_book_first = is_book_first citation query;
  cited = cited_by citation date query;
}

-- what is looked up for a query with these pairs
abbrev pub search_by : List (List ℕ × List ℕ) → Option (List ℕ) → Result QueryValue OpenUrlFault → Result SearchValue OpenUrlFault
search_by pairs date (Ok query) = Ok (search_of (citation_of_pairs pairs) date query)
search_by pairs date (Err reason) = Err reason

-- what is looked up for a query
unfoldable pub asked_of : List ℕ → Result SearchValue OpenUrlFault
asked_of text = search_by (form.parse text) (understood text).date (asked_by (understood text))
