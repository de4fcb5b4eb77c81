-- The object of an answer parses to its value.
use Rattle.std.proofs.Common.{◌≡◌, ◌≤◌, ℕ, List, [], ◌∷◌, ◌++◌, refl, ap, ◌∙◌, arith, codes, lit≤, map}
use Rattle.std.specs.Prelude.{drop}
use Rattle.std.specs.List.{AllByRecursion, flat_map}
use Rattle.json.specs.Token.{Token}
use Rattle.json.specs.Text.{content}
use Rattle.json.specs.Lex.{Lexeme, token, comma, colon, lex, between, punctuate, fresh, after_value, after_comma, after_key, tokens}
use Rattle.json.specs.Json.{array}
use Rattle.json.specs.Tree.{json_tokens, depth, items_depth}
use Rattle.json.specs.Value.{items_of}
use Rattle.json.specs.Print.{IsNumber}
use Rattle.json.specs.Word.{after_number}
use Rattle.json.proofs.Printed.Numbers.{lex-number}
use Rattle.feed_citation.specs.CitationParts.{name_of}
use Rattle.feed_openurl.specs.Citations.{CitationValue, text_at}
use Rattle.feed_citation.specs.declared.citation_part.CitationPart.{CitationPart}
use Rattle.feed_citation.specs.declared.citation_part.CitationPart.TheVariants as part
use Rattle.feed_citation.specs.declared.citation_part.TheConstants.{PARTS}
use Rattle.feed_names.specs.ReleaseName.{Name}
use Rattle.node_response.specs.JsonLists.{json_list}
use Rattle.node_response.specs.JsonStrings.{json_string}
use Rattle.node_response.specs.Fragments.{joined}
use Rattle.node_response.proofs.JsonTexts.{AreOf, IsText, Lexes, items_shallow, lexes_then, list_in, parsed, text_of_lexemes}
use Rattle.node_hits.specs.HitsJson.{also_json, also_value, hits_json, item_values, values_with}
use Rattle.node_hits.specs.QueryFacts.{QueryFactsValue}
use Rattle.node_hits.specs.AnswerJson.{citation_front, citation_json, part_member, query_members, answer_start, answer_json, answer_value, answer_end, more_in_member, release_object, release_value}
use Rattle.node_hits.specs.Laws.{AnswerIsJson}
use Rattle.node_hits.specs.Tallies.{TallyValue}
use Rattle.node_hits.specs.HitsJson.{release_members}
use Rattle.node_hits.proofs.HitTexts.{lexes_release, release_lexemes, string_lexemes, with_string, hits_in, hits_flat, also_in, also_shallow}

version_key : Lexes (codes "{\"version\":") (token Token.begin_object ∷ token (Token.string (codes "version")) ∷ colon ∷ [])
unfolding lex content
version_key = record { lexed = λ rest. refl }

citation_key : Lexes (codes ",\"citation\":{\"article\":")
    (comma ∷ token (Token.string (codes "citation")) ∷ colon ∷ token Token.begin_object ∷ token (Token.string (codes "article")) ∷ colon ∷ [])
unfolding lex content
citation_key = record { lexed = λ rest. refl }

version_is : IsNumber (codes "1")
unfolding after_number
version_is = refl

-- the version, in front of a comma
version_number : Lexes (codes "1" ++ codes ",\"citation\":{\"article\":")
    (token (Token.number (codes "1")) ∷ comma ∷ token (Token.string (codes "citation")) ∷ colon ∷ token Token.begin_object
    ∷ token (Token.string (codes "article")) ∷ colon ∷ [])
version_number = record {
  lexed = λ rest. lex-number (codes "1") (codes ",\"citation\":{\"article\":" ++ rest) version_is refl
      ∙ ap (λ ls. token (Token.number (codes "1")) ∷ ls) (citation_key.lexed rest);
}

article_key : Lexes (codes "{\"version\":1,\"citation\":{\"article\":")
    (token Token.begin_object ∷ token (Token.string (codes "version")) ∷ colon ∷ token (Token.number (codes "1")) ∷ comma
    ∷ token (Token.string (codes "citation")) ∷ colon ∷ token Token.begin_object ∷ token (Token.string (codes "article")) ∷ colon ∷ [])
article_key = lexes_then (codes "{\"version\":") _ _ _ version_key version_number

query_key : Lexes (codes ",\"query\":") (comma ∷ token (Token.string (codes "query")) ∷ colon ∷ [])
unfolding lex content
query_key = record { lexed = λ rest. refl }

refused_key : Lexes (codes ",\"refused\":") (comma ∷ token (Token.string (codes "refused")) ∷ colon ∷ [])
unfolding lex content
refused_key = record { lexed = λ rest. refl }

hits_key : Lexes (codes ",\"hits\":") (comma ∷ token (Token.string (codes "hits")) ∷ colon ∷ [])
unfolding lex content
hits_key = record { lexed = λ rest. refl }

nothing : Lexes [] []
nothing = record { lexed = λ rest. refl }

last_brace : Lexes (codes "}") (token Token.end_object ∷ [])
unfolding lex
last_brace = record { lexed = λ rest. refl }

hits_colon : Lexes (codes ",\"hits\":" ++ []) (comma ∷ token (Token.string (codes "hits")) ∷ colon ∷ [])
hits_colon = hits_key

abbrev front_lexemes : CitationValue → List Lexeme
front_lexemes citation =
    token Token.begin_object ∷ token (Token.string (codes "version")) ∷ colon ∷ token (Token.number (codes "1")) ∷ comma
    ∷ token (Token.string (codes "citation")) ∷ colon ∷ token Token.begin_object ∷ token (Token.string (codes "article")) ∷ colon
    ∷ token (Token.string (text_at citation part.Article)) ∷ []

lexes_front : (citation : CitationValue) → Lexes (citation_front citation) (front_lexemes citation)
unfolding citation_front
lexes_front citation = with_string (codes "{\"version\":1,\"citation\":{\"article\":") (text_at citation part.Article) [] _ _ article_key nothing

-- a part behind others
abbrev key_text : CitationPart → List ℕ
key_text one = codes ",\"" ++ (name_of one ++ codes "\":")

part_key : (one : CitationPart) → Lexes (key_text one) (comma ∷ token (Token.string (name_of one)) ∷ colon ∷ [])
unfolding lex content
part_key part.Article = record { lexed = λ rest. refl }
part_key part.Title = record { lexed = λ rest. refl }
part_key part.Author = record { lexed = λ rest. refl }
part_key part.Date = record { lexed = λ rest. refl }
part_key part.Volume = record { lexed = λ rest. refl }
part_key part.Issue = record { lexed = λ rest. refl }
part_key part.Page = record { lexed = λ rest. refl }
part_key part.Doi = record { lexed = λ rest. refl }
part_key part.Pmid = record { lexed = λ rest. refl }
part_key part.Genre = record { lexed = λ rest. refl }
part_key part.LastName = record { lexed = λ rest. refl }
part_key part.FirstName = record { lexed = λ rest. refl }
part_key part.LastPage = record { lexed = λ rest. refl }
part_key part.Pages = record { lexed = λ rest. refl }
part_key part.Series = record { lexed = λ rest. refl }
part_key part.Edition = record { lexed = λ rest. refl }
part_key part.Publisher = record { lexed = λ rest. refl }
part_key part.Place = record { lexed = λ rest. refl }
part_key part.Institution = record { lexed = λ rest. refl }

abbrev part_text : CitationPart → List ℕ → List ℕ
part_text one text = joined (codes ",\"" ∷ name_of one ∷ codes "\":" ∷ json_string text ∷ [])

lexes_text : (one : CitationPart) (text : List ℕ) → Lexes (part_text one text) (string_lexemes (name_of one) text [])
lexes_text part.Article text = with_string (key_text part.Article) text [] _ _ (part_key part.Article) nothing
lexes_text part.Title text = with_string (key_text part.Title) text [] _ _ (part_key part.Title) nothing
lexes_text part.Author text = with_string (key_text part.Author) text [] _ _ (part_key part.Author) nothing
lexes_text part.Date text = with_string (key_text part.Date) text [] _ _ (part_key part.Date) nothing
lexes_text part.Volume text = with_string (key_text part.Volume) text [] _ _ (part_key part.Volume) nothing
lexes_text part.Issue text = with_string (key_text part.Issue) text [] _ _ (part_key part.Issue) nothing
lexes_text part.Page text = with_string (key_text part.Page) text [] _ _ (part_key part.Page) nothing
lexes_text part.Doi text = with_string (key_text part.Doi) text [] _ _ (part_key part.Doi) nothing
lexes_text part.Pmid text = with_string (key_text part.Pmid) text [] _ _ (part_key part.Pmid) nothing
lexes_text part.Genre text = with_string (key_text part.Genre) text [] _ _ (part_key part.Genre) nothing
lexes_text part.LastName text = with_string (key_text part.LastName) text [] _ _ (part_key part.LastName) nothing
lexes_text part.FirstName text = with_string (key_text part.FirstName) text [] _ _ (part_key part.FirstName) nothing
lexes_text part.LastPage text = with_string (key_text part.LastPage) text [] _ _ (part_key part.LastPage) nothing
lexes_text part.Pages text = with_string (key_text part.Pages) text [] _ _ (part_key part.Pages) nothing
lexes_text part.Series text = with_string (key_text part.Series) text [] _ _ (part_key part.Series) nothing
lexes_text part.Edition text = with_string (key_text part.Edition) text [] _ _ (part_key part.Edition) nothing
lexes_text part.Publisher text = with_string (key_text part.Publisher) text [] _ _ (part_key part.Publisher) nothing
lexes_text part.Place text = with_string (key_text part.Place) text [] _ _ (part_key part.Place) nothing
lexes_text part.Institution text = with_string (key_text part.Institution) text [] _ _ (part_key part.Institution) nothing

lexes_part : (citation : CitationValue) (one : CitationPart) → Lexes (part_member citation one) (string_lexemes (name_of one) (text_at citation one) [])
unfolding part_member
lexes_part citation one = lexes_text one (text_at citation one)

abbrev part_lexemes : CitationValue → List CitationPart → List Lexeme
part_lexemes citation [] = []
part_lexemes citation (one ∷ parts) = string_lexemes (name_of one) (text_at citation one) [] ++ part_lexemes citation parts

lexes_parts : (citation : CitationValue) (parts : List CitationPart) → Lexes (flat_map (part_member citation) parts) (part_lexemes citation parts)
lexes_parts citation [] = nothing
lexes_parts citation (one ∷ parts) =
    lexes_then (part_member citation one) (flat_map (part_member citation) parts) (string_lexemes (name_of one) (text_at citation one) []) (part_lexemes citation parts)
    (lexes_part citation one) (lexes_parts citation parts)

abbrev citation_lexemes : CitationValue → List Lexeme
citation_lexemes citation = front_lexemes citation ++ (part_lexemes citation (drop 1 PARTS) ++ (token Token.end_object ∷ []))

lexes_citation : (citation : CitationValue) → Lexes (citation_json citation) (citation_lexemes citation)
unfolding citation_json
lexes_citation citation =
    lexes_then (citation_front citation) (flat_map (part_member citation) (drop 1 PARTS) ++ codes "}") (front_lexemes citation) (part_lexemes citation (drop 1 PARTS) ++ (token Token.end_object ∷ []))
    (lexes_front citation)
    (lexes_then (flat_map (part_member citation) (drop 1 PARTS)) (codes "}") (part_lexemes citation (drop 1 PARTS)) (token Token.end_object ∷ [])
    (lexes_parts citation (drop 1 PARTS)) last_brace)

abbrev query_lexemes : List ℕ → List ℕ → List Lexeme
query_lexemes query refused =
    string_lexemes (codes "query") query (string_lexemes (codes "refused") refused (comma ∷ token (Token.string (codes "hits")) ∷ colon ∷ []))

lexes_query : (query refused : List ℕ) → Lexes (query_members query refused) (query_lexemes query refused)
unfolding query_members
lexes_query query refused =
    with_string (codes ",\"query\":") query _ _ _ query_key (with_string (codes ",\"refused\":") refused _ _ _ refused_key hits_colon)

abbrev start_lexemes : QueryFactsValue → List ℕ → List Lexeme
start_lexemes ask refused = citation_lexemes ask.citation ++ query_lexemes ask.query refused

lexes_start : (ask : QueryFactsValue) (refused : List ℕ) → Lexes (answer_start ask refused) (start_lexemes ask refused)
unfolding answer_start
lexes_start ask refused = lexes_then (citation_json ask.citation) (query_members ask.query refused) (citation_lexemes ask.citation) (query_lexemes ask.query refused)
    (lexes_citation ask.citation) (lexes_query ask.query refused)

-- the tokens of some parts, before others
abbrev part_tokens : CitationValue → List CitationPart → List Token → List Token
part_tokens citation [] ts = ts
part_tokens citation (one ∷ parts) ts = Token.key (name_of one) ∷ Token.string (text_at citation one) ∷ part_tokens citation parts ts

-- the tokens that an answer begins with, before others
abbrev start_tokens : QueryFactsValue → List ℕ → List Token → List Token
start_tokens ask refused ts =
    Token.begin_object ∷ Token.key (codes "version") ∷ Token.number (codes "1") ∷ Token.key (codes "citation") ∷ Token.begin_object ∷ part_tokens ask.citation PARTS
    (Token.end_object ∷ Token.key (codes "query") ∷ Token.string ask.query ∷ Token.key (codes "refused") ∷ Token.string refused ∷ Token.key (codes "hits") ∷ ts)

-- the tokens of the releases that may have more, and of the end of an answer
abbrev more_tokens : List Name → List Token
more_tokens names = Token.key (codes "more_in") ∷ (json_tokens (array (items_of (map release_value names))) ++ (Token.end_object ∷ []))

abbrev end_tokens : TallyValue → TallyValue → List Token
end_tokens tally also = Token.key (codes "also") ∷ (json_tokens (array (items_of (values_with also_value also))) ++ more_tokens tally.partial)

started : (ask : QueryFactsValue) (refused : List ℕ) (tally also : TallyValue) (ls : List Lexeme)
    → punctuate fresh ls ≡ json_tokens (array (items_of (item_values tally))) ++ end_tokens tally also
    → punctuate fresh (start_lexemes ask refused ++ ls) ≡ json_tokens (answer_value ask refused tally also)
unfolding punctuate
started ask refused tally also ls rest = ap (start_tokens ask refused) rest

also_key : Lexes (codes ",\"also\":") (comma ∷ token (Token.string (codes "also")) ∷ colon ∷ [])
unfolding lex content
also_key = record { lexed = λ rest. refl }

more_in_key : Lexes (codes ",\"more_in\":") (comma ∷ token (Token.string (codes "more_in")) ∷ colon ∷ [])
unfolding lex content
more_in_key = record { lexed = λ rest. refl }

abbrev object_lexemes : Name → List Lexeme
object_lexemes name = release_lexemes name ++ (token Token.end_object ∷ [])

lexes_object : (name : Name) → Lexes (release_object name) (object_lexemes name)
unfolding release_object
lexes_object name = lexes_then (release_members name) (codes "}") (release_lexemes name) (token Token.end_object ∷ []) (lexes_release name) last_brace

release_is : (name : Name) → AreOf (object_lexemes name) (release_value name)
unfolding punctuate
release_is name fresh may more = refl
release_is name after_value may more = absurd (cc)
release_is name after_comma may more = refl
release_is name after_key may more = absurd (cc)

each_release : (names : List Name) → AllByRecursion (λ name. IsText (release_object name) (release_value name)) names
each_release [] = tt
each_release (name ∷ names) =
    (text_of_lexemes (release_object name) (object_lexemes name) (release_value name) (lexes_object name) (release_is name), each_release names)

flat_releases : (names : List Name) → AllByRecursion (λ name. depth (release_value name) ≤ 1) names
flat_releases [] = tt
flat_releases (name ∷ names) = (lit≤ tt, flat_releases names)

-- the releases that may have more, behind the titles
more_ended : (names : List Name) → punctuate after_value (lex between (more_in_member names)) ≡ more_tokens names
unfolding more_in_member lex punctuate
more_ended names =
    ap (punctuate after_value) (more_in_key.lexed (json_list release_object names ++ codes "}\n"))
    ∙ ap (λ ts. Token.key (codes "more_in") ∷ ts) (list_in release_object release_value names (each_release names) fresh refl (codes "}\n"))

-- the end of an answer, behind the hits
ended : (tally also : TallyValue) → IsText (also_json also) (array (items_of (values_with also_value also)))
    → punctuate after_value (lex between (answer_end tally also)) ≡ end_tokens tally also
unfolding answer_end lex punctuate
ended tally also is =
    ap (punctuate after_value) (also_key.lexed (also_json also ++ more_in_member tally.partial))
    ∙ ap (λ ts. Token.key (codes "also") ∷ ts)
    (is fresh refl (more_in_member tally.partial) ∙ ap (λ ts. json_tokens (array (items_of (values_with also_value also))) ++ ts) (more_ended tally.partial))

answer_tokens : (ask : QueryFactsValue) (refused : List ℕ) (tally also : TallyValue) → IsText (hits_json tally) (array (items_of (item_values tally)))
    → IsText (also_json also) (array (items_of (values_with also_value also)))
    → tokens (answer_json ask refused tally also) ≡ json_tokens (answer_value ask refused tally also)
unfolding answer_json
answer_tokens ask refused tally also is ends =
    ap (punctuate fresh) ((lexes_start ask refused).lexed (hits_json tally ++ answer_end tally also))
    ∙ started ask refused tally also (lex between (hits_json tally ++ answer_end tally also))
    (is fresh refl (answer_end tally also) ∙ ap (λ ts. json_tokens (array (items_of (item_values tally))) ++ ts) (ended tally also ends))

pub answer_read : AnswerIsJson
answer_read ask refused tally also small counts few amount =
    let shallow : items_depth (items_of (item_values tally)) ≤ 1 = hits_flat tally in
    let flat : items_depth (items_of (values_with also_value also)) ≤ 1 = also_shallow also in
    let names : items_depth (items_of (map release_value tally.partial)) ≤ 1 = items_shallow release_value tally.partial (flat_releases tally.partial) in
    parsed (answer_json ask refused tally also) (answer_value ask refused tally also)
    (answer_tokens ask refused tally also (hits_in tally small counts) (also_in also few amount)) (omega arith)
