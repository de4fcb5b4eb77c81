-- The citation of a page as COinS, for programs that collect citations.
use Rattle.std.specs.Prelude.{ℕ, ◌&&◌, ◌||◌, Bool, not, List, [], ◌∷◌, codes}
use Rattle.feed_answer.specs.Pairs.{is_empty}
use Rattle.feed_openurl.specs.Citations.{text_at}
use Rattle.feed_citation.specs.declared.citation_part.CitationPart.TheVariants.{Genre}
use Rattle.node_links.specs.Requests.{citation_query}
use Rattle.node_hits.specs.Hits.{is_word}
use Rattle.node_hits.specs.Lookups.{is_of_serials}
use Rattle.node_hits.specs.QueryFacts.{QueryFactsValue, is_blank}
use Rattle.node_templates.specs.Values.{text_if}
use Rattle.node_templates.specs.Pages.{Part, with_values}
use Rattle.node_templates.specs.declared.slot.Slot.TheVariants as slot
use Rattle.node_templates.specs.declared.template.Template.TheVariants as template
use Rattle.node_pages.specs.SearchForms.{isbn_in, issn_in}
use Rattle.node_pages.specs.Ways.{cited_of}

-- a citation has any part that a page shows
abbrev pub is_cited : List (List ℕ × List ℕ) → QueryFactsValue → Bool
is_cited pairs ask = not (is_blank ask.citation && is_empty (issn_in pairs) && is_empty (isbn_in pairs))

-- a genre is that of books (the KEV format of books)
abbrev pub is_of_books : List ℕ → Bool
is_of_books genre = is_word (codes "book") genre || is_word (codes "bookitem") genre

-- a book is cited: by the genre, or else by an ISBN, unless the genre is that of serials
abbrev pub cites_book : List ℕ → List ℕ → Bool
cites_book genre isbn = is_of_books genre || (not (is_empty isbn) && not (is_of_serials genre))

-- this query in the format of a journal or of a book, if there is a citation
unfoldable pub coins_with : Bool → Bool → List ℕ → List Part
coins_with is_cited is_book query = with_values (
    (slot.JournalQuery, text_if (is_cited && not is_book) query) ∷ (slot.BookQuery, text_if (is_cited && is_book) query) ∷ [])
    (template.Coins ∷ [])

-- the whole citation, as links of the library have it
abbrev pub coins_parts : List (List ℕ × List ℕ) → QueryFactsValue → List Part
coins_parts pairs ask =
    coins_with (is_cited pairs ask) (cites_book (text_at ask.citation Genre) (isbn_in pairs)) (citation_query (cited_of ask pairs))
