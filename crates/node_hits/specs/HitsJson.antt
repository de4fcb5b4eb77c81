-- The hits of a query as JSON.
use Rattle.std.specs.Prelude.{ℕ, Bool, true, false, if◌then◌else◌, List, [], ◌∷◌, ◌++◌, length, map, codes}
use Rattle.std.specs.Fmt.{decimal}
use Rattle.json.specs.Json.{Json, object, string, number, Members, member, no_members}
use Rattle.feed_names.specs.ReleaseName.{Name}
use Rattle.feed_answer.specs.declared.availability.Availability.{Availability}
use Rattle.feed_answer.specs.declared.availability.Availability.TheVariants.{Available, Partly, NotCompared, Embargoed}
use Rattle.feed_kbart.specs.RowValue.{RowValue}
use Rattle.feed_answer.specs.Grades.{grade_text}
use Rattle.node_response.specs.JsonStrings.{json_string}
use Rattle.node_response.specs.JsonLists.{comma_before, items_from}
use Rattle.node_response.specs.Fragments.{joined}
use Rattle.node_site.specs.Hosts.{shown_host}
use Rattle.node_hits.specs.Coverages.{day_text, days_words, volume_text, volumes_words}
use Rattle.node_hits.specs.EmbargoWords.{embargo_words}
use Rattle.node_hits.specs.Hits.{ReleaseHitValue, article_text, name_text, page_text}
use Rattle.node_hits.specs.Tallies.{TallyValue, left_out, shows_all}

-- the beginning of an object: the members that identify a release
unfoldable pub release_members : Name → List ℕ
release_members name = joined (codes "{\"package\":" ∷ json_string name.package_name ∷ codes ",\"release\":" ∷ json_string (name_text name) ∷ [])

-- the members for its row, with this link
unfoldable pub title_members : RowValue → List ℕ → List ℕ
title_members row link = joined (
    codes ",\"title\":" ∷ json_string row.title
    ∷ codes ",\"url\":" ∷ json_string link
    ∷ codes ",\"title_id\":" ∷ json_string row.title_id
    ∷ codes ",\"depth\":" ∷ json_string row.depth ∷ [])

-- those for its URL without a proxy, and for the host to which it leads
unfoldable pub target_members : RowValue → List ℕ
target_members row = joined (codes ",\"target\":" ∷ json_string row.url ∷ codes ",\"host\":" ∷ json_string (shown_host row.url) ∷ [])

-- those for its days and for its volumes, also in words
unfoldable pub days_members : RowValue → List ℕ
days_members row = joined (
    codes ",\"first_day\":" ∷ json_string (day_text row.first_day)
    ∷ codes ",\"last_day\":" ∷ json_string (day_text row.last_day)
    ∷ codes ",\"days_words\":" ∷ json_string (days_words row) ∷ [])

unfoldable pub volumes_members : RowValue → List ℕ
volumes_members row = joined (
    codes ",\"first_volume\":" ∷ json_string (volume_text row.first_volume)
    ∷ codes ",\"last_volume\":" ∷ json_string (volume_text row.last_volume)
    ∷ codes ",\"volumes_words\":" ∷ json_string (volumes_words row) ∷ [])

-- all members of a row
unfoldable pub row_members : RowValue → List ℕ → List ℕ
row_members row link = title_members row link ++ (target_members row ++ (days_members row ++ volumes_members row))

-- those for its embargo, also in words, its access, the link to the article and the note, before the end of an object
unfoldable pub access_members : RowValue → List ℕ → List ℕ → List ℕ → List ℕ → List ℕ
access_members row words article note end = joined (
    codes ",\"embargo\":" ∷ json_string row.embargo
    ∷ codes ",\"embargo_words\":" ∷ json_string words
    ∷ codes ",\"access\":" ∷ json_string row.access
    ∷ codes ",\"article\":" ∷ json_string article
    ∷ codes ",\"note\":" ∷ json_string note
    ∷ end ∷ [])

-- the name of an availability
abbrev pub availability_text : Availability → List ℕ
availability_text Available = codes "available"
availability_text Partly = codes "partly"
availability_text NotCompared = codes "not compared"
availability_text Embargoed = codes "embargoed"

-- the members for its record, its grade and its availability
unfoldable pub grade_members : ReleaseHitValue → List ℕ
grade_members found = joined (
    codes ",\"record\":" ∷ decimal found.hit.row.number
    ∷ codes ",\"grade\":" ∷ json_string (grade_text found.hit.grade)
    ∷ codes ",\"availability\":" ∷ json_string (availability_text found.availability) ∷ [])

-- a hit as a JSON object with this end
unfoldable pub hit_object : List ℕ → ReleaseHitValue → List ℕ
hit_object end found =
    release_members found.name
    ++ (grade_members found ++ (row_members found.hit.row (page_text found)
    ++ access_members found.hit.row (embargo_words found.hit.row.embargo) (article_text found) found.note end))

-- the beginning of the object that counts the hits that are left out: whether there may be still more
abbrev pub more_start : Bool → List ℕ
more_start true = codes "{\"more\":"
more_start false = codes "{\"more_at_least\":"

-- this object
unfoldable pub more_object : ℕ → Bool → List ℕ
more_object n is_whole = joined (more_start is_whole ∷ decimal n ∷ codes "}" ∷ [])

-- this object as the last item, unless all hits are shown
abbrev pub more_items : TallyValue → List ℕ
more_items tally =
    if shows_all tally then [] else comma_before (length tally.top) ++ more_object (left_out tally) tally.is_whole

-- the hits that are shown, as a JSON list of objects with this end
unfoldable pub list_json : List ℕ → TallyValue → List ℕ
list_json end tally = codes "[" ++ (items_from (hit_object end) 0 tally.top ++ (more_items tally ++ codes "\n]\n"))

-- the list of hits, and that of titles whose date is covered, each with the reason why it is not a hit
abbrev pub hits_json : TallyValue → List ℕ
hits_json tally = list_json (codes "}") tally

abbrev pub also_json : TallyValue → List ℕ
also_json also = list_json (codes ",\"why\":\"volume\"}") also

-- a member of an object whose value is a string, in front of others
abbrev pub text_member : List ℕ → List ℕ → Members → Members
text_member key text others = member key (string text) others

-- the object that states a hit, with these members behind its own
abbrev pub value_with : Members → ReleaseHitValue → Json
value_with others found = object (
    text_member (codes "package") found.name.package_name
    (text_member (codes "release") (name_text found.name)
    (member (codes "record") (number (decimal found.hit.row.number))
    (text_member (codes "grade") (grade_text found.hit.grade)
    (text_member (codes "availability") (availability_text found.availability)
    (text_member (codes "title") found.hit.row.title
    (text_member (codes "url") (page_text found)
    (text_member (codes "title_id") found.hit.row.title_id
    (text_member (codes "depth") found.hit.row.depth
    (text_member (codes "target") found.hit.row.url
    (text_member (codes "host") (shown_host found.hit.row.url)
    (text_member (codes "first_day") (day_text found.hit.row.first_day)
    (text_member (codes "last_day") (day_text found.hit.row.last_day)
    (text_member (codes "days_words") (days_words found.hit.row)
    (text_member (codes "first_volume") (volume_text found.hit.row.first_volume)
    (text_member (codes "last_volume") (volume_text found.hit.row.last_volume)
    (text_member (codes "volumes_words") (volumes_words found.hit.row)
    (text_member (codes "embargo") found.hit.row.embargo
    (text_member (codes "embargo_words") (embargo_words found.hit.row.embargo)
    (text_member (codes "access") found.hit.row.access
    (text_member (codes "article") (article_text found)
    (text_member (codes "note") found.note others))))))))))))))))))))))

abbrev pub hit_value : ReleaseHitValue → Json
hit_value found = value_with no_members found

-- the same with why it is not a hit
abbrev pub also_value : ReleaseHitValue → Json
also_value found = value_with (text_member (codes "why") (codes "volume") no_members) found

-- the object that states how many hits are left out
abbrev pub more_value : ℕ → Bool → Json
more_value n true = object (member (codes "more") (number (decimal n)) no_members)
more_value n false = object (member (codes "more_at_least") (number (decimal n)) no_members)

-- the values of the items: the hits that are shown, and the object unless these are all
abbrev pub values_with : (ReleaseHitValue → Json) → TallyValue → List Json
values_with value tally =
    map value tally.top ++ (if shows_all tally then [] else more_value (left_out tally) tally.is_whole ∷ [])

abbrev pub item_values : TallyValue → List Json
item_values tally = values_with hit_value tally
