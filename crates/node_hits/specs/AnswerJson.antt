-- The answer to a query as JSON: the version of its form, its citation, the query that is looked up, why none is, the hits, the titles whose date
-- is covered and whose volume is not, and the releases that may have more hits.
use Rattle.std.specs.Prelude.{ℕ, List, [], ◌∷◌, ◌++◌, codes, drop, map}
use Rattle.std.specs.List.{flat_map}
use Rattle.json.specs.Json.{Json, Members, object, array, member, no_members, number}
use Rattle.json.specs.Value.{items_of}
use Rattle.feed_citation.specs.CitationParts.{name_of}
use Rattle.feed_openurl.specs.Citations.{CitationValue, text_at}
use Rattle.feed_citation.specs.declared.citation_part.CitationPart.{CitationPart}
use Rattle.feed_citation.specs.declared.citation_part.CitationPart.TheVariants.{Article}
use Rattle.feed_citation.specs.declared.citation_part.TheConstants.{PARTS}
use Rattle.feed_names.specs.ReleaseName.{Name}
use Rattle.node_response.specs.JsonLists.{json_list}
use Rattle.node_response.specs.JsonStrings.{json_string}
use Rattle.node_response.specs.Fragments.{joined}
use Rattle.node_hits.specs.QueryFacts.{QueryFactsValue}
use Rattle.node_hits.specs.Hits.{name_text}
use Rattle.node_hits.specs.HitsJson.{also_json, also_value, hits_json, item_values, release_members, text_member, values_with}
use Rattle.node_hits.specs.Tallies.{TallyValue}

-- the version of the form of answers, and the beginning of a citation, with its first part
unfoldable pub citation_front : CitationValue → List ℕ
citation_front citation = joined (codes "{\"version\":1,\"citation\":{\"article\":" ∷ json_string (text_at citation Article) ∷ [])

-- another part
unfoldable pub part_member : CitationValue → CitationPart → List ℕ
part_member citation part = joined (codes ",\"" ∷ name_of part ∷ codes "\":" ∷ json_string (text_at citation part) ∷ [])

-- the member with all parts of a citation
unfoldable pub citation_json : CitationValue → List ℕ
citation_json citation = citation_front citation ++ (flat_map (part_member citation) (drop 1 PARTS) ++ codes "}")

-- the query that is looked up, and the reason why none is
unfoldable pub query_members : List ℕ → List ℕ → List ℕ
query_members query refused = joined (
    codes ",\"query\":" ∷ json_string query ∷ codes ",\"refused\":" ∷ json_string refused ∷ codes ",\"hits\":" ∷ [])

unfoldable pub answer_start : QueryFactsValue → List ℕ → List ℕ
answer_start ask refused = citation_json ask.citation ++ query_members ask.query refused

-- a release as an object
unfoldable pub release_object : Name → List ℕ
release_object name = release_members name ++ codes "}"

-- the last member: the releases that may have more hits
unfoldable pub more_in_member : List Name → List ℕ
more_in_member names = codes ",\"more_in\":" ++ (json_list release_object names ++ codes "}\n")

-- the end of an answer: the titles whose date is covered, and these releases
unfoldable pub answer_end : TallyValue → TallyValue → List ℕ
answer_end tally also = codes ",\"also\":" ++ (also_json also ++ more_in_member tally.partial)

-- the answer as an object
unfoldable pub answer_json : QueryFactsValue → List ℕ → TallyValue → TallyValue → List ℕ
answer_json ask refused tally also = answer_start ask refused ++ (hits_json tally ++ answer_end tally also)

-- the members that state these parts of a citation
abbrev pub part_members : CitationValue → List CitationPart → Members
part_members citation [] = no_members
part_members citation (part ∷ parts) = text_member (name_of part) (text_at citation part) (part_members citation parts)

-- the object that states a citation
abbrev pub citation_value : CitationValue → Json
citation_value citation = object (part_members citation PARTS)

-- the object that states a release
abbrev pub release_value : Name → Json
release_value name = object (text_member (codes "package") name.package_name (text_member (codes "release") (name_text name) no_members))

-- the object that states an answer, in the first version of its form, to which members are only added
abbrev pub answer_value : QueryFactsValue → List ℕ → TallyValue → TallyValue → Json
answer_value ask refused tally also = object (
    member (codes "version") (number (codes "1"))
    (member (codes "citation") (citation_value ask.citation)
    (text_member (codes "query") ask.query
    (text_member (codes "refused") refused
    (member (codes "hits") (array (items_of (item_values tally)))
    (member (codes "also") (array (items_of (values_with also_value also)))
    (member (codes "more_in") (array (items_of (map release_value tally.partial))) no_members)))))))
