-- The object of a hit parses to its value.
use Rattle.std.proofs.Common.{◌≡◌, ◌<◌, ◌≤◌, ◌^◌, ◌+◌, ◌⊎◌, inl, inr, ℕ, suc, List, [], ◌∷◌, ◌++◌, Bool, true, false, Some, refl, sym, ap, ◌∙◌, subst, arith, append_assoc, codes, length, map, lit≤}
use Rattle.std.specs.Prelude.{All, if◌then◌else◌}
use Rattle.std.proofs.lemmas.List.{append-nil}
use Rattle.json.specs.Json.{Json, array, document}
use Rattle.json.specs.Value.{items_of}
use Rattle.node_response.specs.JsonLists.{comma_before, items_from, json_list}
use Rattle.node_hits.specs.Tallies.{TallyValue, left_out, shows_all}
use Rattle.std.specs.List.{AllByRecursion}
use Rattle.std.specs.Fmt.{decimal}
use Rattle.std.proofs.lemmas.List.Elements.{recursion_from_All}
use Rattle.json.specs.Token.{Token}
use Rattle.json.specs.Text.{content}
use Rattle.json.specs.Lex.{Lexeme, token, comma, colon, lex, between, punctuate, fresh, after_value, after_comma, after_key}
use Rattle.json.specs.Tree.{depth, items_depth}
use Rattle.json.proofs.Printed.Decimals.{IsNumber-decimal}
use Rattle.json.proofs.Printed.Numbers.{lex-number}
use Rattle.feed_names.specs.ReleaseName.{Name}
use Rattle.feed_kbart.specs.RowValue.{RowValue}
use Rattle.feed_answer.specs.Grades.{grade_text}
use Rattle.node_response.specs.JsonStrings.{json_string}
use Rattle.node_response.proofs.JsonTexts.{Lexes, lexes_then, lexes_string, IsText, AreOf, text_of_lexemes, list_read, list_in, items_shallow}
use Rattle.node_hits.specs.EmbargoWords.{embargo_words}
use Rattle.node_hits.specs.Hits.{ReleaseHitValue, article_text, name_text, page_text}
use Rattle.node_hits.specs.HitsJson.{availability_text, release_members, grade_members, title_members, access_members, hit_object}
use Rattle.node_hits.specs.Coverages.{day_text, days_words, volume_text, volumes_words}
use Rattle.node_site.specs.Hosts.{shown_host}
use Rattle.node_hits.specs.HitsJson.{days_members, row_members, target_members, volumes_members}
use Rattle.node_hits.specs.HitsJson.{more_start, more_object, more_items, hits_json, hit_value, more_value, item_values}
use Rattle.node_hits.specs.HitsJson.{also_json, also_value, list_json, values_with}
use Rattle.node_hits.specs.Laws.{HitsAreJson}

-- a key, behind a comma, and a string
abbrev pub string_lexemes : List ℕ → List ℕ → List Lexeme → List Lexeme
string_lexemes key text more = comma ∷ token (Token.string key) ∷ colon ∷ token (Token.string text) ∷ more

-- a text that is read as constant lexemes, and then a string
pub with_string : (front text back : List ℕ) (ls ms : List Lexeme) → Lexes front ls → Lexes back ms → Lexes (front ++ (json_string text ++ back)) (ls ++ (token (Token.string text) ∷ ms))
with_string front text back ls ms first last =
    lexes_then front (json_string text ++ back) ls (token (Token.string text) ∷ ms) first (lexes_then (json_string text) back (token (Token.string text) ∷ []) ms (lexes_string text) last)

abbrev pub release_lexemes : Name → List Lexeme
release_lexemes name =
    token Token.begin_object ∷ token (Token.string (codes "package")) ∷ colon ∷ token (Token.string name.package_name) ∷ string_lexemes (codes "release") (name_text name) []

first_key : Lexes (codes "{\"package\":") (token Token.begin_object ∷ token (Token.string (codes "package")) ∷ colon ∷ [])
unfolding lex content
first_key = record { lexed = λ rest. refl }

release_key : Lexes (codes ",\"release\":") (comma ∷ token (Token.string (codes "release")) ∷ colon ∷ [])
unfolding lex content
release_key = record { lexed = λ rest. refl }

nothing : Lexes [] []
nothing = record { lexed = λ rest. refl }

pub lexes_release : (name : Name) → Lexes (release_members name) (release_lexemes name)
unfolding release_members
lexes_release name = with_string (codes "{\"package\":") name.package_name _ _ _ first_key (with_string (codes ",\"release\":") (name_text name) [] _ _ release_key nothing)

record_key : Lexes (codes ",\"record\":") (comma ∷ token (Token.string (codes "record")) ∷ colon ∷ [])
unfolding lex content
record_key = record { lexed = λ rest. refl }

grade_key : Lexes (codes ",\"grade\":") (comma ∷ token (Token.string (codes "grade")) ∷ colon ∷ [])
unfolding lex content
grade_key = record { lexed = λ rest. refl }

availability_key : Lexes (codes ",\"availability\":") (comma ∷ token (Token.string (codes "availability")) ∷ colon ∷ [])
unfolding lex content
availability_key = record { lexed = λ rest. refl }

-- a number, in front of a comma
before_grade : (n : ℕ) (more : List ℕ) (ms : List Lexeme) → n < 2 ^ 64 → Lexes (codes ",\"grade\":" ++ more) ms
    → Lexes (decimal n ++ (codes ",\"grade\":" ++ more)) (token (Token.number (decimal n)) ∷ ms)
before_grade n more ms small after = record {
  lexed = λ rest. ap (lex between) (append_assoc (decimal n) (codes ",\"grade\":" ++ more) rest)
      ∙ lex-number (decimal n) ((codes ",\"grade\":" ++ more) ++ rest) (IsNumber-decimal n small) refl
      ∙ ap (λ ls. token (Token.number (decimal n)) ∷ ls) (after.lexed rest);
}

abbrev grade_lexemes : ReleaseHitValue → List Lexeme
grade_lexemes found =
    comma ∷ token (Token.string (codes "record")) ∷ colon ∷ token (Token.number (decimal found.hit.row.number)) ∷ string_lexemes (codes "grade") (grade_text found.hit.grade)
    (string_lexemes (codes "availability") (availability_text found.availability) [])

lexes_grade : (found : ReleaseHitValue) → found.hit.row.number < 2 ^ 64 → Lexes (grade_members found) (grade_lexemes found)
unfolding grade_members
lexes_grade found small = lexes_then (codes ",\"record\":") _ _ _ record_key
    (before_grade found.hit.row.number _ _ small (with_string (codes ",\"grade\":") (grade_text found.hit.grade) _ _ _ grade_key
    (with_string (codes ",\"availability\":") (availability_text found.availability) [] _ _ availability_key nothing)))

title_key : Lexes (codes ",\"title\":") (comma ∷ token (Token.string (codes "title")) ∷ colon ∷ [])
unfolding lex content
title_key = record { lexed = λ rest. refl }

url_key : Lexes (codes ",\"url\":") (comma ∷ token (Token.string (codes "url")) ∷ colon ∷ [])
unfolding lex content
url_key = record { lexed = λ rest. refl }

title_id_key : Lexes (codes ",\"title_id\":") (comma ∷ token (Token.string (codes "title_id")) ∷ colon ∷ [])
unfolding lex content
title_id_key = record { lexed = λ rest. refl }

depth_key : Lexes (codes ",\"depth\":") (comma ∷ token (Token.string (codes "depth")) ∷ colon ∷ [])
unfolding lex content
depth_key = record { lexed = λ rest. refl }

embargo_key : Lexes (codes ",\"embargo\":") (comma ∷ token (Token.string (codes "embargo")) ∷ colon ∷ [])
unfolding lex content
embargo_key = record { lexed = λ rest. refl }

words_key : Lexes (codes ",\"embargo_words\":") (comma ∷ token (Token.string (codes "embargo_words")) ∷ colon ∷ [])
unfolding lex content
words_key = record { lexed = λ rest. refl }

access_key : Lexes (codes ",\"access\":") (comma ∷ token (Token.string (codes "access")) ∷ colon ∷ [])
unfolding lex content
access_key = record { lexed = λ rest. refl }

article_key : Lexes (codes ",\"article\":") (comma ∷ token (Token.string (codes "article")) ∷ colon ∷ [])
unfolding lex content
article_key = record { lexed = λ rest. refl }

note_key : Lexes (codes ",\"note\":") (comma ∷ token (Token.string (codes "note")) ∷ colon ∷ [])
unfolding lex content
note_key = record { lexed = λ rest. refl }

last_brace : Lexes (codes "}" ++ []) (token Token.end_object ∷ [])
unfolding lex
last_brace = record { lexed = λ rest. refl }

abbrev title_lexemes : RowValue → List ℕ → List Lexeme
title_lexemes row link =
    string_lexemes (codes "title") row.title (string_lexemes (codes "url") link (string_lexemes (codes "title_id") row.title_id
    (string_lexemes (codes "depth") row.depth [])))

lexes_title : (row : RowValue) (link : List ℕ) → Lexes (title_members row link) (title_lexemes row link)
unfolding title_members
lexes_title row link =
    with_string (codes ",\"title\":") row.title _ _ _ title_key
    (with_string (codes ",\"url\":") link _ _ _ url_key
    (with_string (codes ",\"title_id\":") row.title_id _ _ _ title_id_key
    (with_string (codes ",\"depth\":") row.depth [] _ _ depth_key nothing)))

target_key : Lexes (codes ",\"target\":") (comma ∷ token (Token.string (codes "target")) ∷ colon ∷ [])
unfolding lex content
target_key = record { lexed = λ rest. refl }

host_key : Lexes (codes ",\"host\":") (comma ∷ token (Token.string (codes "host")) ∷ colon ∷ [])
unfolding lex content
host_key = record { lexed = λ rest. refl }

first_day_key : Lexes (codes ",\"first_day\":") (comma ∷ token (Token.string (codes "first_day")) ∷ colon ∷ [])
unfolding lex content
first_day_key = record { lexed = λ rest. refl }

last_day_key : Lexes (codes ",\"last_day\":") (comma ∷ token (Token.string (codes "last_day")) ∷ colon ∷ [])
unfolding lex content
last_day_key = record { lexed = λ rest. refl }

days_key : Lexes (codes ",\"days_words\":") (comma ∷ token (Token.string (codes "days_words")) ∷ colon ∷ [])
unfolding lex content
days_key = record { lexed = λ rest. refl }

first_volume_key : Lexes (codes ",\"first_volume\":") (comma ∷ token (Token.string (codes "first_volume")) ∷ colon ∷ [])
unfolding lex content
first_volume_key = record { lexed = λ rest. refl }

last_volume_key : Lexes (codes ",\"last_volume\":") (comma ∷ token (Token.string (codes "last_volume")) ∷ colon ∷ [])
unfolding lex content
last_volume_key = record { lexed = λ rest. refl }

volumes_key : Lexes (codes ",\"volumes_words\":") (comma ∷ token (Token.string (codes "volumes_words")) ∷ colon ∷ [])
unfolding lex content
volumes_key = record { lexed = λ rest. refl }

abbrev target_lexemes : RowValue → List Lexeme
target_lexemes row = string_lexemes (codes "target") row.url (string_lexemes (codes "host") (shown_host row.url) [])

lexes_target : (row : RowValue) → Lexes (target_members row) (target_lexemes row)
unfolding target_members
lexes_target row =
    with_string (codes ",\"target\":") row.url _ _ _ target_key (with_string (codes ",\"host\":") (shown_host row.url) [] _ _ host_key nothing)

abbrev days_lexemes : RowValue → List Lexeme
days_lexemes row =
    string_lexemes (codes "first_day") (day_text row.first_day) (string_lexemes (codes "last_day") (day_text row.last_day)
    (string_lexemes (codes "days_words") (days_words row) []))

lexes_days : (row : RowValue) → Lexes (days_members row) (days_lexemes row)
unfolding days_members
lexes_days row =
    with_string (codes ",\"first_day\":") (day_text row.first_day) _ _ _ first_day_key
    (with_string (codes ",\"last_day\":") (day_text row.last_day) _ _ _ last_day_key
    (with_string (codes ",\"days_words\":") (days_words row) [] _ _ days_key nothing))

abbrev volumes_lexemes : RowValue → List Lexeme
volumes_lexemes row =
    string_lexemes (codes "first_volume") (volume_text row.first_volume) (string_lexemes (codes "last_volume") (volume_text row.last_volume)
    (string_lexemes (codes "volumes_words") (volumes_words row) []))

lexes_volumes : (row : RowValue) → Lexes (volumes_members row) (volumes_lexemes row)
unfolding volumes_members
lexes_volumes row =
    with_string (codes ",\"first_volume\":") (volume_text row.first_volume) _ _ _ first_volume_key
    (with_string (codes ",\"last_volume\":") (volume_text row.last_volume) _ _ _ last_volume_key
    (with_string (codes ",\"volumes_words\":") (volumes_words row) [] _ _ volumes_key nothing))

abbrev row_lexemes : RowValue → List ℕ → List Lexeme
row_lexemes row link = title_lexemes row link ++ (target_lexemes row ++ (days_lexemes row ++ volumes_lexemes row))

lexes_row : (row : RowValue) (link : List ℕ) → Lexes (row_members row link) (row_lexemes row link)
unfolding row_members
lexes_row row link = lexes_then (title_members row link) _ (title_lexemes row link) _ (lexes_title row link)
    (lexes_then (target_members row) _ (target_lexemes row) _ (lexes_target row)
    (lexes_then (days_members row) (volumes_members row) (days_lexemes row) (volumes_lexemes row) (lexes_days row) (lexes_volumes row)))

abbrev access_lexemes : RowValue → List ℕ → List ℕ → List ℕ → List Lexeme → List Lexeme
access_lexemes row words article note ls =
    string_lexemes (codes "embargo") row.embargo (string_lexemes (codes "embargo_words") words
    (string_lexemes (codes "access") row.access (string_lexemes (codes "article") article (string_lexemes (codes "note") note ls))))

lexes_access : (row : RowValue) (words article note end : List ℕ) (ls : List Lexeme) → Lexes (end ++ []) ls
    → Lexes (access_members row words article note end) (access_lexemes row words article note ls)
unfolding access_members
lexes_access row words article note end ls last =
    with_string (codes ",\"embargo\":") row.embargo _ _ _ embargo_key
    (with_string (codes ",\"embargo_words\":") words _ _ _ words_key
    (with_string (codes ",\"access\":") row.access _ _ _ access_key
    (with_string (codes ",\"article\":") article _ _ _ article_key
    (with_string (codes ",\"note\":") note _ _ _ note_key last))))

abbrev hit_lexemes : ReleaseHitValue → List Lexeme → List Lexeme
hit_lexemes found ls =
    release_lexemes found.name
    ++ (grade_lexemes found ++ (row_lexemes found.hit.row (page_text found)
    ++ access_lexemes found.hit.row (embargo_words found.hit.row.embargo) (article_text found) found.note ls))

lexes_hit : (end : List ℕ) (ls : List Lexeme) (found : ReleaseHitValue) → Lexes (end ++ []) ls → found.hit.row.number < 2 ^ 64
    → Lexes (hit_object end found) (hit_lexemes found ls)
unfolding hit_object
lexes_hit end ls found last small = lexes_then (release_members found.name) _ (release_lexemes found.name) _ (lexes_release found.name)
    (lexes_then (grade_members found) _ (grade_lexemes found) _ (lexes_grade found small)
    (lexes_then (row_members found.hit.row (page_text found))
    (access_members found.hit.row (embargo_words found.hit.row.embargo) (article_text found) found.note end)
    (row_lexemes found.hit.row (page_text found))
    (access_lexemes found.hit.row (embargo_words found.hit.row.embargo) (article_text found) found.note ls) (lexes_row found.hit.row (page_text found))
    (lexes_access found.hit.row (embargo_words found.hit.row.embargo) (article_text found) found.note end ls last)))

abbrev hit_end : List Lexeme
hit_end = token Token.end_object ∷ []

hit_is : (found : ReleaseHitValue) → AreOf (hit_lexemes found hit_end) (hit_value found)
unfolding punctuate
hit_is found fresh may more = refl
hit_is found after_value may more = absurd (cc)
hit_is found after_comma may more = refl
hit_is found after_key may more = absurd (cc)

pub hit_reads : (found : ReleaseHitValue) → found.hit.row.number < 2 ^ 64 → IsText (hit_object (codes "}") found) (hit_value found)
hit_reads found small =
    text_of_lexemes (hit_object (codes "}") found) (hit_lexemes found hit_end) (hit_value found) (lexes_hit (codes "}") hit_end found last_brace small) (hit_is found)

-- ---- the object of a title whose date is covered

abbrev also_end : List Lexeme
also_end = string_lexemes (codes "why") (codes "volume") (token Token.end_object ∷ [])

why_lexes : Lexes (codes ",\"why\":\"volume\"}" ++ []) also_end
unfolding lex content
why_lexes = record { lexed = λ rest. refl }

also_is : (found : ReleaseHitValue) → AreOf (hit_lexemes found also_end) (also_value found)
unfolding punctuate
also_is found fresh may more = refl
also_is found after_value may more = absurd (cc)
also_is found after_comma may more = refl
also_is found after_key may more = absurd (cc)

pub also_reads : (found : ReleaseHitValue) → found.hit.row.number < 2 ^ 64 → IsText (hit_object (codes ",\"why\":\"volume\"}") found) (also_value found)
also_reads found small =
    text_of_lexemes (hit_object (codes ",\"why\":\"volume\"}") found) (hit_lexemes found also_end) (also_value found)
    (lexes_hit (codes ",\"why\":\"volume\"}") also_end found why_lexes small) (also_is found)

-- ---- the object that counts what is left out

more_key : Lexes (codes "{\"more\":") (token Token.begin_object ∷ token (Token.string (codes "more")) ∷ colon ∷ [])
unfolding lex content
more_key = record { lexed = λ rest. refl }

at_least_key : Lexes (codes "{\"more_at_least\":") (token Token.begin_object ∷ token (Token.string (codes "more_at_least")) ∷ colon ∷ [])
unfolding lex content
at_least_key = record { lexed = λ rest. refl }

abbrev more_name : Bool → List ℕ
more_name true = codes "more"
more_name false = codes "more_at_least"

abbrev more_lexemes : ℕ → Bool → List Lexeme
more_lexemes n b = token Token.begin_object ∷ token (Token.string (more_name b)) ∷ colon ∷ token (Token.number (decimal n)) ∷ token Token.end_object ∷ []

start_key : (b : Bool) → Lexes (more_start b) (token Token.begin_object ∷ token (Token.string (more_name b)) ∷ colon ∷ [])
start_key true = more_key
start_key false = at_least_key

-- a number, in front of a brace
before_brace : (n : ℕ) → n < 2 ^ 64 → Lexes (decimal n ++ (codes "}" ++ [])) (token (Token.number (decimal n)) ∷ token Token.end_object ∷ [])
before_brace n small = record {
  lexed = λ rest. ap (lex between) (append_assoc (decimal n) (codes "}" ++ []) rest)
      ∙ lex-number (decimal n) ((codes "}" ++ []) ++ rest) (IsNumber-decimal n small) refl
      ∙ ap (λ ls. token (Token.number (decimal n)) ∷ ls) (last_brace.lexed rest);
}

lexes_more : (n : ℕ) (b : Bool) → n < 2 ^ 64 → Lexes (more_object n b) (more_lexemes n b)
unfolding more_object
lexes_more n b small = lexes_then (more_start b) _ _ _ (start_key b) (before_brace n small)

more_is : (n : ℕ) (b : Bool) → AreOf (more_lexemes n b) (more_value n b)
unfolding punctuate
more_is n true fresh may more = refl
more_is n true after_value may more = absurd (cc)
more_is n true after_comma may more = refl
more_is n true after_key may more = absurd (cc)
more_is n false fresh may more = refl
more_is n false after_value may more = absurd (cc)
more_is n false after_comma may more = refl
more_is n false after_key may more = absurd (cc)

-- ---- all items

-- an item: a hit, or how many are left out and whether these are all
abbrev pub Item : Type 0
Item = ReleaseHitValue ⊎ (ℕ × Bool)

abbrev hit_items : List ReleaseHitValue → List Item
hit_items hits = map (λ found. inl found) hits

-- the last item, if there is one
abbrev last_items : Bool → ℕ → Bool → List Item
last_items none n b = if none then [] else inr (n, b) ∷ []

abbrev items_in : TallyValue → List Item
items_in tally = hit_items tally.top ++ last_items (shows_all tally) (left_out tally) tally.is_whole

-- the value of a hit is an object of texts and numbers, and its text with this end reads as it
abbrev pub Reads : List ℕ → (ReleaseHitValue → Json) → Type 0
Reads end value = (found : ReleaseHitValue) → found.hit.row.number < 2 ^ 64 → IsText (hit_object end found) (value found)

abbrev pub IsFlat : (ReleaseHitValue → Json) → Type 0
IsFlat value = (found : ReleaseHitValue) → depth (value found) ≤ 1

abbrev pub item_text : List ℕ → Item → List ℕ
item_text end (inl found) = hit_object end found
item_text end (inr more) = more_object more.0 more.1

abbrev pub item_value : (ReleaseHitValue → Json) → Item → Json
item_value value (inl found) = value found
item_value value (inr more) = more_value more.0 more.1

module _ (end : List ℕ) (value : ReleaseHitValue → Json) (reads : Reads end value) (flat : IsFlat value) where
  items_are : (hits : List ReleaseHitValue) (place : ℕ) (last : List Item)
      → items_from (item_text end) place (hit_items hits ++ last) ≡ items_from (hit_object end) place hits ++ items_from (item_text end) (place + length hits) last
  items_are [] place last = let same : place ≡ place + 0 = omega arith in ap (λ p. items_from (item_text end) p last) same
  items_are (found ∷ more) place last =
      let same : place + 1 + length more ≡ place + suc (length more) = omega arith in
      let here = comma_before place ++ hit_object end found in
      ap (λ t. here ++ t) (items_are more (place + 1) last)
      ∙ sym (append_assoc here (items_from (hit_object end) (place + 1) more) (items_from (item_text end) (place + 1 + length more) last))
      ∙ ap (λ p. (here ++ items_from (hit_object end) (place + 1) more) ++ items_from (item_text end) p last) same

  last_is : (none : Bool) (place n : ℕ) (b : Bool) → items_from (item_text end) (0 + place) (last_items none n b) ≡ (if none then [] else comma_before place ++ more_object n b)
  last_is true place n b = refl
  last_is false place n b =
      let same : 0 + place ≡ place = omega arith in
      append-nil (comma_before (0 + place) ++ more_object n b) ∙ ap (λ p. comma_before p ++ more_object n b) same

  text_is : (tally : TallyValue) → json_list (item_text end) (items_in tally) ≡ list_json end tally
  unfolding list_json
  text_is tally = let last = last_items (shows_all tally) (left_out tally) tally.is_whole in
      ap (λ t. codes "[" ++ (t ++ codes "\n]\n"))
      (items_are tally.top 0 last ∙ ap (λ t. items_from (hit_object end) 0 tally.top ++ t) (last_is (shows_all tally) (length tally.top) (left_out tally) tally.is_whole))
      ∙ ap (λ t. codes "[" ++ t) (append_assoc (items_from (hit_object end) 0 tally.top) (more_items tally) (codes "\n]\n"))

  values_of : (hits : List ReleaseHitValue) (none : Bool) (n : ℕ) (b : Bool)
      → map (item_value value) (hit_items hits ++ last_items none n b) ≡ map value hits ++ (if none then [] else more_value n b ∷ [])
  values_of [] true n b = refl
  values_of [] false n b = refl
  values_of (found ∷ more) none n b = ap (λ vs. value found ∷ vs) (values_of more none n b)

  each_last : (none : Bool) (n : ℕ) (b : Bool) → n < 2 ^ 64 → AllByRecursion (λ item. IsText (item_text end item) (item_value value item)) (last_items none n b)
  each_last true n b small = tt
  each_last false n b small = (text_of_lexemes (more_object n b) (more_lexemes n b) (more_value n b) (lexes_more n b small) (more_is n b), tt)

  each_item : (hits : List ReleaseHitValue) (last : List Item) → AllByRecursion (λ (found : ReleaseHitValue). found.hit.row.number < 2 ^ 64) hits
      → AllByRecursion (λ item. IsText (item_text end item) (item_value value item)) last
      → AllByRecursion (λ item. IsText (item_text end item) (item_value value item)) (hit_items hits ++ last)
  each_item [] last small rest = rest
  each_item (found ∷ more) last small rest = (reads found small.0, each_item more last small.1 rest)

  flat_last : (none : Bool) (n : ℕ) (b : Bool) → AllByRecursion (λ item. depth (item_value value item) ≤ 1) (last_items none n b)
  flat_last true n b = tt
  flat_last false n true = (lit≤ tt, tt)
  flat_last false n false = (lit≤ tt, tt)

  flat_items : (hits : List ReleaseHitValue) (last : List Item) → AllByRecursion (λ item. depth (item_value value item) ≤ 1) last
      → AllByRecursion (λ item. depth (item_value value item) ≤ 1) (hit_items hits ++ last)
  flat_items [] last rest = rest
  flat_items (found ∷ more) last rest = (flat found, flat_items more last rest)

  each_of : (tally : TallyValue) → All (λ (found : ReleaseHitValue). found.hit.row.number < 2 ^ 64) tally.top → tally.count < 2 ^ 64
      → AllByRecursion (λ item. IsText (item_text end item) (item_value value item)) (items_in tally)
  each_of tally small counts =
      let fits : left_out tally < 2 ^ 64 = omega arith in
      each_item tally.top (last_items (shows_all tally) (left_out tally) tally.is_whole)
      (recursion_from_All (λ (found : ReleaseHitValue). found.hit.row.number < 2 ^ 64) tally.top small)
      (each_last (shows_all tally) (left_out tally) tally.is_whole fits)

  flat_of : (tally : TallyValue) → AllByRecursion (λ item. depth (item_value value item) ≤ 1) (items_in tally)
  flat_of tally =
      flat_items tally.top (last_items (shows_all tally) (left_out tally) tally.is_whole) (flat_last (shows_all tally) (left_out tally) tally.is_whole)

  -- the list in another text
  pub list_is : (tally : TallyValue) → All (λ (found : ReleaseHitValue). found.hit.row.number < 2 ^ 64) tally.top → tally.count < 2 ^ 64
      → IsText (list_json end tally) (array (items_of (values_with value tally)))
  list_is tally small counts =
      subst (λ (t : List ℕ). IsText t (array (items_of (values_with value tally)))) (text_is tally)
      (subst (λ (vs : List Json). IsText (json_list (item_text end) (items_in tally)) (array (items_of vs)))
      (values_of tally.top (shows_all tally) (left_out tally) tally.is_whole)
      (list_in (item_text end) (item_value value) (items_in tally) (each_of tally small counts)))

  -- and it is as deep as an object
  pub list_flat : (tally : TallyValue) → items_depth (items_of (values_with value tally)) ≤ 1
  list_flat tally =
      subst (λ (vs : List Json). items_depth (items_of vs) ≤ 1) (values_of tally.top (shows_all tally) (left_out tally) tally.is_whole)
      (items_shallow (item_value value) (items_in tally) (flat_of tally))

  pub document_read : (tally : TallyValue) → All (λ (found : ReleaseHitValue). found.hit.row.number < 2 ^ 64) tally.top → tally.count < 2 ^ 64
      → document (list_json end tally) ≡ Some (array (items_of (values_with value tally)))
  document_read tally small counts =
      ap document (sym (text_is tally))
      ∙ list_read (item_text end) (item_value value) (items_in tally) (each_of tally small counts) (flat_of tally)
      ∙ ap (λ vs. Some (array (items_of vs))) (values_of tally.top (shows_all tally) (left_out tally) tally.is_whole)

-- the hits, and the titles whose date is covered
hit_flat : (found : ReleaseHitValue) → depth (hit_value found) ≤ 1
hit_flat found = lit≤ tt

also_flat : (found : ReleaseHitValue) → depth (also_value found) ≤ 1
also_flat found = lit≤ tt

pub hits_in : (tally : TallyValue) → All (λ (found : ReleaseHitValue). found.hit.row.number < 2 ^ 64) tally.top → tally.count < 2 ^ 64
    → IsText (hits_json tally) (array (items_of (item_values tally)))
hits_in tally small counts = list_is (codes "}") hit_value hit_reads hit_flat tally small counts

pub hits_flat : (tally : TallyValue) → items_depth (items_of (item_values tally)) ≤ 1
hits_flat tally = list_flat (codes "}") hit_value hit_reads hit_flat tally

pub also_in : (also : TallyValue) → All (λ (found : ReleaseHitValue). found.hit.row.number < 2 ^ 64) also.top → also.count < 2 ^ 64
    → IsText (also_json also) (array (items_of (values_with also_value also)))
also_in also small counts = list_is (codes ",\"why\":\"volume\"}") also_value also_reads also_flat also small counts

pub also_shallow : (also : TallyValue) → items_depth (items_of (values_with also_value also)) ≤ 1
also_shallow also = list_flat (codes ",\"why\":\"volume\"}") also_value also_reads also_flat also

pub hits_read : HitsAreJson
hits_read tally small counts = document_read (codes "}") hit_value hit_reads hit_flat tally small counts
