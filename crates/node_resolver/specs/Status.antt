-- The active releases as text, as JSON and as an HTML page.
use Rattle.std.specs.Prelude.{ℕ, ◌<◌, ◌^◌, List, [], ◌∷◌, ◌++◌, codes, length}
use Rattle.std.specs.Fmt.{decimal}
use Rattle.std.specs.List.{flat_map}
use Rattle.json.specs.Json as json
use Rattle.json.specs.Json.{member, no_members, number, object}
use Rattle.feed_kbart.specs.HoldingsValue.{HoldingsValue}
use Rattle.feed_releases.specs.Actives.{ActiveValue}
use Rattle.node_request.specs.declared.representation.Representation.{Representation}
use Rattle.node_request.specs.declared.representation.Representation.TheVariants.{Text, Json, Html, Fragment, Sfx}
use Rattle.node_response.specs.JsonLists.{json_list}
use Rattle.node_response.specs.Fragments.{joined}
use Rattle.node_pages.specs.HomePage.{status_page}
use Rattle.node_site.specs.Site as site_file
use Rattle.node_hits.specs.Hits.{name_text}
use Rattle.node_hits.specs.HitsJson.{release_members, text_member}

-- the active releases, a line for the name of each
unfoldable pub active_line : ActiveValue → List ℕ
active_line active = name_text active.name ++ codes "\n"

-- the members for the rows and the skipped records of a list, and the end of the object
unfoldable pub counts_end : HoldingsValue → List ℕ
counts_end holdings = joined (
    codes ",\"rows\":" ∷ decimal (length holdings.rows) ∷ codes ",\"skipped\":" ∷ decimal (length holdings.aside) ∷ codes "}" ∷ [])

-- an active release as a JSON object
unfoldable pub active_object : ActiveValue → List ℕ
active_object active = release_members active.name ++ counts_end active.holdings

-- the active releases; as a page, behind the form; no query names the last two for them
unfoldable pub status_body : site_file.SiteValue → Representation → List ActiveValue → List ℕ
status_body site Text actives = flat_map active_line actives
status_body site Json actives = json_list active_object actives
status_body site Html actives = status_page site actives
status_body site Fragment actives = status_page site actives
status_body site Sfx actives = flat_map active_line actives

-- the object that states an active release
abbrev pub active_value : ActiveValue → json.Json
active_value active = object (
    text_member (codes "package") active.name.package_name
    (text_member (codes "release") (name_text active.name)
    (member (codes "rows") (number (decimal (length active.holdings.rows)))
    (member (codes "skipped") (number (decimal (length active.holdings.aside))) no_members))))

-- a list with fewer than 2^64 rows and skipped records, as every list in memory is
abbrev pub IsCountable : ActiveValue → Type 0
IsCountable active = (length active.holdings.rows < 2 ^ 64) × (length active.holdings.aside < 2 ^ 64)
