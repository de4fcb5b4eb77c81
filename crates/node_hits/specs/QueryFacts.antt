-- The facts that a response reports about a query beside its hits.
use Rattle.std.specs.Prelude.{ℕ, ◌||◌, not, Bool, List, [], is_some, unwrap_or}
use Rattle.std.specs.List.{list_all}
use Rattle.std.specs.Option.{option_map_or}
use Rattle.form_urlencoded.specs.Form as form
use Rattle.feed_answer.specs.Pairs.{is_empty}
use Rattle.feed_openurl.specs.Citations.{CitationValue, citation_of_pairs, text_at}
use Rattle.feed_citation.specs.declared.citation_part.CitationPart.{CitationPart}
use Rattle.feed_citation.specs.declared.citation_part.CitationPart.TheVariants.{Article, Doi, Pmid, Title}
use Rattle.feed_openurl.specs.Values.{OpenUrlValue, understood}
use Rattle.feed_openurl.specs.Written.{written}
use Rattle.node_hits.specs.declared.query_facts.TheConstants.{SHOWN}

-- the citation of a query, the query that is looked up, which is empty if none is, whether a date and a volume are read, and
-- the date
pub record QueryFactsValue : Type 0 where
  pub citation : CitationValue
  pub query : List ℕ
  pub has_date : Bool
  pub has_volume : Bool
  pub date : List ℕ

-- the query that is looked up, as a text
abbrev pub query_text : OpenUrlValue → List ℕ
query_text u = option_map_or (λ reason. []) u.refusal (written u)

abbrev pub ask_by : CitationValue → OpenUrlValue → QueryFactsValue
ask_by citation u =
    record { citation = citation; query = query_text u; has_date = is_some u.date; has_volume = is_some u.volume; date = unwrap_or u.date [] }

-- the same of the bytes of a query
unfoldable pub ask_of : List ℕ → QueryFactsValue
ask_of text = ask_by (citation_of_pairs (form.parse text)) (understood text)

-- a citation lacks a part
abbrev pub is_absent : CitationValue → CitationPart → Bool
is_absent citation part = is_empty (text_at citation part)

-- the citation names a work: by its DOI, its PMID or a title
abbrev pub names_work : CitationValue → Bool
names_work citation =
    not (is_absent citation Doi) || not (is_absent citation Pmid) || not (is_absent citation Title) || not (is_absent citation Article)

-- a citation has nothing that a page shows
abbrev pub is_blank : CitationValue → Bool
is_blank citation = list_all (is_absent citation) SHOWN
