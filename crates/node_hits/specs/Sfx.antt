-- The reply of SFX to a query: a target for each hit that is shown and has a safe link, and for each link of the library,
-- and the packages that may have more hits.
use Rattle.std.specs.Prelude.{ℕ, ◌-◌, ◌==◌, ◌&&◌, ◌||◌, not, Bool, if◌then◌else◌, List, [], ◌++◌, Option, Some, None, codes, filter, length, map, take}
use Rattle.std.specs.List.{flat_map}
use Rattle.feed_answer.specs.Pairs.{is_empty}
use Rattle.feed_kbart.specs.RowValue.{RowValue}
use Rattle.feed_names.specs.ReleaseName.{Name}
use Rattle.feed_xml.specs.Elements.{leaf, number_leaf}
use Rattle.feed_xml.specs.Marks.{Mark, element, xml_text}
use Rattle.feed_xml.specs.declared.tags.TheConstants.{DECLARATION}
use Rattle.node_request.specs.declared.sfx_query.SfxOptions.{SfxOptions}
use Rattle.node_site.specs.Hosts.{is_link}
use Rattle.node_links.specs.LibraryLinks.{LibraryLinkValue, library_links}
use Rattle.node_site.specs.Packages.{shown_package}
use Rattle.node_links.specs.Requests.{CitedTitleValue}
use Rattle.node_site.specs.Site as site_file
use Rattle.node_site.specs.declared.occasion.LinkUse.TheVariants.{Shown}
use Rattle.node_hits.specs.Coverages.{days_words, volumes_words}
use Rattle.node_hits.specs.EmbargoWords.{embargo_words}
use Rattle.node_hits.specs.Hits.{ReleaseHitValue, is_abstracts, is_open, link_text}
use Rattle.node_hits.specs.Tallies.{TallyValue, named_limit, outcome_of}
use Rattle.node_hits.specs.declared.sfx_names.TheConstants.{CTX_OBJ_SET, CTX_OBJ, CTX_OBJ_ATTRIBUTES, CTX_OBJ_TARGETS, TARGET}
use Rattle.node_hits.specs.declared.sfx_names.TheConstants.{TARGET_NAME, TARGET_PUBLIC_NAME, TARGET_SERVICE_ID, SERVICE_TYPE, TARGET_URL, PARSER, DISPLAYER, IS_RELATED, NO, NOTE}
use Rattle.node_hits.specs.declared.sfx_names.TheConstants.{COVERAGE, COVERAGE_TEXT, THRESHOLD_TEXT, COVERAGE_STATEMENT, EMBARGO_TEXT, EMBARGO_STATEMENT}
use Rattle.node_hits.specs.declared.sfx_names.TheConstants.{MORE_IN, PACKAGE, OTHERS}
use Rattle.node_hits.specs.declared.sfx_names.TheConstants.{FULL_TEXT, ABSTRACT, WEB_SERVICE}

-- the service of a target: its name, the one that readers see, a number, the type of its service, its address and a note
pub record ServiceValue : Type 0 where
  pub name : List ℕ
  pub public_name : List ℕ
  pub number : ℕ
  pub service_type : List ℕ
  pub url : List ℕ
  pub note : List ℕ

-- a target, with the row whose coverage it states, if it does
pub record TargetValue : Type 0 where
  pub service : ServiceValue
  pub coverage : Option RowValue

-- ---- the targets of a query

-- the service of a row
abbrev pub service_of : RowValue → List ℕ
service_of row = if is_abstracts row then ABSTRACT.now else FULL_TEXT.now

-- the service of a hit, with this link
abbrev pub hit_service : site_file.SiteValue → ReleaseHitValue → List ℕ → ServiceValue
hit_service site found link = record {
  name = found.name.package_name;
  public_name = shown_package site found.name.package_name;
  number = found.hit.row.number;
  service_type = service_of found.hit.row;
  url = link;
  note = found.note;
}

-- the coverage of a row, if it is stated
abbrev pub if_detailed : Bool → RowValue → Option RowValue
if_detailed is_detailed row = if is_detailed then Some row else None

-- a target with this coverage
abbrev pub target_with : Option RowValue → ServiceValue → TargetValue
target_with coverage service = record { service = service; coverage = coverage }

-- the target of a hit: its link leads to the article, or else to its page
abbrev pub hit_target : SfxOptions → site_file.SiteValue → ReleaseHitValue → TargetValue
hit_target options site found =
    target_with (if_detailed options.is_detailed found.hit.row) (hit_service site found (link_text found))

-- a hit is asked for; if full texts alone are, it has to be open to readers: not abstracts, and not under an embargo
abbrev pub is_asked : SfxOptions → ReleaseHitValue → Bool
is_asked options found = not options.full_texts_only || is_open found

-- a hit is a target if it is asked for and its link is safe
abbrev pub is_target : SfxOptions → ReleaseHitValue → Bool
is_target options found = is_asked options found && is_link (link_text found)

abbrev pub hit_targets : SfxOptions → site_file.SiteValue → List ReleaseHitValue → List TargetValue
hit_targets options site hits = map (hit_target options site) (filter (is_target options) hits)

-- the service of a link of the library, and its target
abbrev pub link_service : LibraryLinkValue → ServiceValue
link_service link = record {
  name = link.label;
  public_name = link.label;
  number = 0;
  service_type = WEB_SERVICE.now;
  url = link.address;
  note = [];
}

abbrev pub link_target : LibraryLinkValue → TargetValue
link_target link = target_with None (link_service link)

-- those of the links, unless full texts alone are asked for
abbrev pub link_targets : SfxOptions → List LibraryLinkValue → List TargetValue
link_targets options links = if options.full_texts_only then [] else map link_target links

-- the targets of a query: those of the hits that are shown, in the order of their ranks, and those of the library's links
abbrev pub targets_of : SfxOptions → site_file.SiteValue → TallyValue → CitedTitleValue → List TargetValue
targets_of options site tally cited =
    hit_targets options site tally.top ++ link_targets options (library_links site Shown (outcome_of tally) cited)

-- the names that readers see of the packages that may have more hits
abbrev pub more_of : site_file.SiteValue → List Name → List (List ℕ)
more_of site names = map (λ (name : Name). shown_package site name.package_name) names

-- ---- the document

-- what a row covers in words, with its days before its volumes
abbrev pub both_words : List ℕ → List ℕ → List ℕ
both_words days volumes =
    if is_empty days then volumes else (if is_empty volumes then days else days ++ (codes ", " ++ volumes))

abbrev pub coverage_words : RowValue → List ℕ
coverage_words row = both_words (days_words row) (volumes_words row)

-- an embargo in words, if there are any
abbrev pub embargo_marks : List ℕ → List Mark
embargo_marks words =
    if is_empty words then [] else element EMBARGO_TEXT.now EMBARGO_TEXT.now (leaf EMBARGO_STATEMENT.now words)

-- a coverage and an embargo in words
abbrev pub statement_marks : List ℕ → List ℕ → List Mark
statement_marks covered embargo =
    element THRESHOLD_TEXT.now THRESHOLD_TEXT.now (leaf COVERAGE_STATEMENT.now covered) ++ embargo_marks embargo

unfoldable pub words_marks : List ℕ → List ℕ → List Mark
words_marks covered embargo = element COVERAGE_TEXT.now COVERAGE_TEXT.now (statement_marks covered embargo)

unfoldable pub stated_marks : List ℕ → List ℕ → List Mark
stated_marks covered embargo = element COVERAGE.now COVERAGE.now (words_marks covered embargo)

-- those of a row, if they are stated
abbrev pub coverage_marks : Option RowValue → List Mark
coverage_marks None = []
coverage_marks (Some row) = stated_marks (coverage_words row) (embargo_words row.embargo)

-- the names of a service, and its type
unfoldable pub names_marks : ServiceValue → List Mark
names_marks service =
    leaf TARGET_NAME.now service.name
    ++ (leaf TARGET_PUBLIC_NAME.now service.public_name
    ++ (number_leaf TARGET_SERVICE_ID.now service.number
    ++ leaf SERVICE_TYPE.now service.service_type))

-- its address and its note
unfoldable pub place_marks : ServiceValue → List Mark
place_marks service =
    leaf TARGET_URL.now service.url
    ++ (leaf PARSER.now []
    ++ (leaf IS_RELATED.now NO.now
    ++ (leaf DISPLAYER.now [] ++ leaf NOTE.now service.note)))

-- a target
unfoldable pub target_marks : TargetValue → List Mark
target_marks target =
    element TARGET.now TARGET.now (names_marks target.service ++ (place_marks target.service ++ coverage_marks target.coverage))

-- the name of a package that may have more hits, and how many are not named, if any are
abbrev pub package_marks : List ℕ → List Mark
package_marks name = leaf PACKAGE.now name

abbrev pub others_marks : ℕ → List Mark
others_marks count = if count == 0 then [] else number_leaf OTHERS.now count

-- the first packages that may have more, and how many others there are
abbrev pub named_marks : List (List ℕ) → List Mark
named_marks more = flat_map package_marks (take named_limit more) ++ others_marks (length more - named_limit)

-- the same as an element, if there are any
unfoldable pub more_marks : List (List ℕ) → List Mark
more_marks more = if is_empty more then [] else element MORE_IN.now MORE_IN.now (named_marks more)

-- the request with its targets, and behind them the packages that may have more
abbrev pub request_marks : List TargetValue → List (List ℕ) → List Mark
request_marks targets more =
    leaf CTX_OBJ_ATTRIBUTES.now []
    ++ (element CTX_OBJ_TARGETS.now CTX_OBJ_TARGETS.now (flat_map target_marks targets) ++ more_marks more)

-- the root element
abbrev pub reply_marks : List TargetValue → List (List ℕ) → List Mark
reply_marks targets more =
    element CTX_OBJ_SET.now CTX_OBJ_SET.now (element CTX_OBJ.now CTX_OBJ.now (request_marks targets more))

-- the document: a declaration, the root element, and the end of a line
abbrev pub reply_text : List TargetValue → List (List ℕ) → List ℕ
reply_text targets more = DECLARATION.now ++ (xml_text (reply_marks targets more) ++ codes "\n")

-- the reply to a query, and the one without a target
unfoldable pub sfx_reply : SfxOptions → site_file.SiteValue → TallyValue → CitedTitleValue → List ℕ
sfx_reply options site tally cited = reply_text (targets_of options site tally cited) (more_of site tally.partial)

unfoldable pub no_targets : List ℕ
no_targets = reply_text [] []
