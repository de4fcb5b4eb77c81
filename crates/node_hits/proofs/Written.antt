-- Writing in steps writes the whole.
use Rattle.std.proofs.Common.{◌≡◌, ℕ, List, [], ◌∷◌, ◌++◌, codes, ap, ◌∙◌}
use Rattle.feed_names.specs.ReleaseName.{Name}
use Rattle.feed_kbart.specs.RowValue.{RowValue}
use Rattle.node_response.specs.JsonStrings.{json_string}
use Rattle.node_response.specs.Fragments.{joined}
use Rattle.node_response.proofs.Written.{in_four}
use Rattle.node_hits.specs.EmbargoWords.{embargo_words}
use Rattle.node_hits.specs.Hits.{ReleaseHitValue, article_text, name_text, page_text}
use Rattle.node_hits.specs.HitsJson.{release_members, grade_members, row_members, days_members, volumes_members, access_members, hit_object}
use Rattle.node_hits.specs.Coverages.{day_text, days_words, volume_text, volumes_words}

-- the members that identify a release
pub release_named : (old new key text : List ℕ) (name : Name) → key ≡ name.package_name → text ≡ name_text name
    → new ≡ old ++ joined (codes "{\"package\":" ∷ json_string key ∷ codes ",\"release\":" ∷ json_string text ∷ []) → new ≡ old ++ release_members name
unfolding release_members
release_named old new key text name package_name reads is = is
    ∙ ap (λ k. old ++ joined (codes "{\"package\":" ∷ json_string k ∷ codes ",\"release\":" ∷ json_string text ∷ [])) package_name
    ∙ ap (λ n. old ++ joined (codes "{\"package\":" ∷ json_string name.package_name ∷ codes ",\"release\":" ∷ json_string n ∷ [])) reads

-- the members for the embargo and the access of a row
abbrev pub access_of : List ℕ → List ℕ → List ℕ → List ℕ → List ℕ → List ℕ → List ℕ
access_of embargo words access article note end = joined (
    codes ",\"embargo\":" ∷ json_string embargo ∷ codes ",\"embargo_words\":" ∷ json_string words ∷ codes ",\"access\":" ∷ json_string access
    ∷ codes ",\"article\":" ∷ json_string article ∷ codes ",\"note\":" ∷ json_string note ∷ end ∷ [])

pub access_written : (old new embargo access : List ℕ) (row : RowValue) (words article note end : List ℕ) → embargo ≡ row.embargo → access ≡ row.access
    → new ≡ old ++ access_of embargo words access article note end → new ≡ old ++ access_members row words article note end
unfolding access_members
access_written old new embargo access row words article note end same also is = is
    ∙ ap (λ (e : List ℕ). old ++ access_of e words access article note end) same
    ∙ ap (λ (a : List ℕ). old ++ access_of row.embargo words a article note end) also

-- the members for the days of a row
pub days_written : (old new first last words : List ℕ) (row : RowValue) → first ≡ day_text row.first_day → last ≡ day_text row.last_day → words ≡ days_words row
    → new ≡ old ++ joined (codes ",\"first_day\":" ∷ json_string first ∷ codes ",\"last_day\":" ∷ json_string last ∷ codes ",\"days_words\":" ∷ json_string words ∷ [])
    → new ≡ old ++ days_members row
unfolding days_members
days_written old new first last words row one two three is = is
    ∙ ap (λ (t : List ℕ). old ++ joined (codes ",\"first_day\":" ∷ json_string t ∷ codes ",\"last_day\":" ∷ json_string last ∷ codes ",\"days_words\":" ∷ json_string words ∷ [])) one
    ∙ ap (λ (t : List ℕ). old ++ joined (codes ",\"first_day\":" ∷ json_string (day_text row.first_day) ∷ codes ",\"last_day\":" ∷ json_string t
    ∷ codes ",\"days_words\":" ∷ json_string words ∷ [])) two
    ∙ ap (λ (t : List ℕ). old ++ joined (codes ",\"first_day\":" ∷ json_string (day_text row.first_day) ∷ codes ",\"last_day\":" ∷ json_string (day_text row.last_day)
    ∷ codes ",\"days_words\":" ∷ json_string t ∷ [])) three

-- the members for the volumes of a row
pub volumes_written : (old new first last words : List ℕ) (row : RowValue) → first ≡ volume_text row.first_volume → last ≡ volume_text row.last_volume → words ≡ volumes_words row
    → new ≡ old ++ joined (codes ",\"first_volume\":" ∷ json_string first ∷ codes ",\"last_volume\":" ∷ json_string last ∷ codes ",\"volumes_words\":" ∷ json_string words ∷ [])
    → new ≡ old ++ volumes_members row
unfolding volumes_members
volumes_written old new first last words row one two three is = is
    ∙ ap (λ (t : List ℕ). old ++ joined (codes ",\"first_volume\":" ∷ json_string t ∷ codes ",\"last_volume\":" ∷ json_string last
    ∷ codes ",\"volumes_words\":" ∷ json_string words ∷ [])) one
    ∙ ap (λ (t : List ℕ). old ++ joined (codes ",\"first_volume\":" ∷ json_string (volume_text row.first_volume) ∷ codes ",\"last_volume\":" ∷ json_string t
    ∷ codes ",\"volumes_words\":" ∷ json_string words ∷ [])) two
    ∙ ap (λ (t : List ℕ). old ++ joined (codes ",\"first_volume\":" ∷ json_string (volume_text row.first_volume) ∷ codes ",\"last_volume\":" ∷ json_string (volume_text row.last_volume)
    ∷ codes ",\"volumes_words\":" ∷ json_string t ∷ [])) three

-- the object of a hit
pub object_written : (old one two three new : List ℕ) (row : RowValue) (link words article note end : List ℕ) (found : ReleaseHitValue)
    → row ≡ found.hit.row → link ≡ page_text found → words ≡ embargo_words row.embargo → article ≡ article_text found → note ≡ found.note
    → one ≡ old ++ release_members found.name → two ≡ one ++ grade_members found → three ≡ two ++ row_members row link
    → new ≡ three ++ access_members row words article note end → new ≡ old ++ hit_object end found
unfolding hit_object
object_written old one two three new row link words article note end found same linked worded is_article noted first second third fourth =
    in_four old one two three new (release_members found.name) (grade_members found) (row_members found.hit.row (page_text found))
    (access_members found.hit.row (embargo_words found.hit.row.embargo) (article_text found) found.note end) first second
    (third ∙ ap (λ l. two ++ row_members row l) linked ∙ ap (λ (r : RowValue). two ++ row_members r (page_text found)) same)
    (fourth ∙ ap (λ w. three ++ access_members row w article note end) worded
    ∙ ap (λ (a : List ℕ). three ++ access_members row (embargo_words row.embargo) a note end) is_article
    ∙ ap (λ (n : List ℕ). three ++ access_members row (embargo_words row.embargo) (article_text found) n end) noted
    ∙ ap (λ (r : RowValue). three ++ access_members r (embargo_words r.embargo) (article_text found) found.note end) same)
