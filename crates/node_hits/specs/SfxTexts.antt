-- The reply of SFX in the steps in which it is written.
use Rattle.std.specs.Prelude.{ℕ, if◌then◌else◌, List, [], ◌++◌, codes}
use Rattle.std.specs.List.{flat_map}
use Rattle.feed_names.specs.ReleaseName.{Name}
use Rattle.feed_xml.specs.Elements.{leaf}
use Rattle.feed_xml.specs.Marks.{closed, mark_text, opened, xml_text}
use Rattle.feed_xml.specs.declared.tags.TheConstants.{DECLARATION}
use Rattle.node_request.specs.declared.sfx_query.SfxOptions.{SfxOptions}
use Rattle.node_site.specs.Hosts.{is_link}
use Rattle.node_links.specs.LibraryLinks.{LibraryLinkValue}
use Rattle.node_site.specs.Packages.{shown_package}
use Rattle.node_site.specs.Site as site_file
use Rattle.node_hits.specs.Hits.{ReleaseHitValue, link_text}
use Rattle.node_hits.specs.Sfx.{hit_service, if_detailed, is_asked, link_target, more_marks, package_marks, target_marks, target_with}
use Rattle.node_hits.specs.declared.sfx_names.TheConstants.{CTX_OBJ_SET, CTX_OBJ, CTX_OBJ_ATTRIBUTES, CTX_OBJ_TARGETS}

-- the text of a hit with this link, if the link is safe
unfoldable pub linked_text : SfxOptions → site_file.SiteValue → ReleaseHitValue → List ℕ → List ℕ
linked_text options site found link =
    if is_link link
    then xml_text (target_marks (target_with (if_detailed options.is_detailed found.hit.row) (hit_service site found link)))
    else []

-- the text of a hit, if it is a target
unfoldable pub hit_text : SfxOptions → site_file.SiteValue → ReleaseHitValue → List ℕ
hit_text options site found = if is_asked options found then linked_text options site found (link_text found) else []

-- the text of a link of the library, and of all of them
unfoldable pub way_text : LibraryLinkValue → List ℕ
way_text link = xml_text (target_marks (link_target link))

abbrev pub ways_text : SfxOptions → List LibraryLinkValue → List ℕ
ways_text options links = if options.full_texts_only then [] else flat_map way_text links

-- the text of a package that may have more hits
abbrev pub package_text : site_file.SiteValue → Name → List ℕ
package_text site name = xml_text (package_marks (shown_package site name.package_name))

-- what is before the targets, the end of the document, and all that is behind the targets
unfoldable pub start_text : List ℕ
start_text =
    DECLARATION.now
    ++ (mark_text (opened CTX_OBJ_SET.now)
    ++ (mark_text (opened CTX_OBJ.now) ++ (xml_text (leaf CTX_OBJ_ATTRIBUTES.now []) ++ mark_text (opened CTX_OBJ_TARGETS.now))))

unfoldable pub end_text : List ℕ
end_text = mark_text (closed CTX_OBJ.now) ++ (mark_text (closed CTX_OBJ_SET.now) ++ codes "\n")

unfoldable pub behind_text : List (List ℕ) → List ℕ
behind_text more = mark_text (closed CTX_OBJ_TARGETS.now) ++ (xml_text (more_marks more) ++ end_text)
