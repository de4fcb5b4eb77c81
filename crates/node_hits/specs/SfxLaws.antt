-- Laws of the reply of SFX.
use Rattle.std.specs.Prelude.{◌≡◌, ℕ, ◌-◌, ◌==◌, true, if◌then◌else◌, List, [], ◌∷◌, Some, All, ◌++◌, codes, filter, length, map, take}
use Rattle.std.specs.Fmt.{decimal}
use Rattle.feed_xml.specs.Characters.{allowed}
use Rattle.feed_xml.specs.Marks.{xml_text}
use Rattle.feed_xml.specs.Reading.{is_balanced, leaf_texts, xml_marks}
use Rattle.node_request.specs.declared.sfx_query.SfxOptions.{SfxOptions}
use Rattle.node_site.specs.Hosts.{is_link}
use Rattle.node_links.specs.LibraryLinks.{LibraryLinkValue, library_links}
use Rattle.node_links.specs.Requests.{CitedTitleValue}
use Rattle.node_site.specs.Site as site_file
use Rattle.node_site.specs.declared.occasion.LinkUse.TheVariants.{Shown}
use Rattle.node_hits.specs.Hits.{link_text}
use Rattle.node_hits.specs.Sfx.{TargetValue, is_target, reply_marks, targets_of}
use Rattle.node_hits.specs.Tallies.{TallyValue, outcome_of}

-- a reader of XML gets the tags and the characters of a reply back from the text after the declaration, so no text in it is
-- read as a tag or a reference
abbrev pub SfxReadsBack : Type 0
SfxReadsBack = (targets : List TargetValue) (more : List (List ℕ))
    → xml_marks (xml_text (reply_marks targets more)) ≡ Some (reply_marks targets more)

-- each end tag of a reply closes the innermost element
abbrev pub SfxIsBalanced : Type 0
SfxIsBalanced = (targets : List TargetValue) (more : List (List ℕ)) → is_balanced (reply_marks targets more) ≡ true

-- a text of each target
abbrev pub texts_of : (TargetValue → List ℕ) → List TargetValue → List (List ℕ)
texts_of text targets = map (λ target. allowed (text target)) targets

-- a reader finds the address, the type and the public name of each target, in their order, and no others, whatever packages
-- may have more
pub record HasTargets (targets : List TargetValue) (more : List (List ℕ)) : Type 0 where
  pub urls : leaf_texts (codes "target_url") (reply_marks targets more) ≡ texts_of (λ target. target.service.url) targets
  pub types : leaf_texts (codes "service_type") (reply_marks targets more) ≡ texts_of (λ target. target.service.service_type) targets
  pub names : leaf_texts (codes "target_public_name") (reply_marks targets more) ≡ texts_of (λ target. target.service.public_name) targets

abbrev pub ReplyHasTargets : Type 0
ReplyHasTargets = (targets : List TargetValue) (more : List (List ℕ)) → HasTargets targets more

-- a number, if it is not zero
abbrev pub if_any : ℕ → List (List ℕ)
if_any count = if count == 0 then [] else decimal count ∷ []

-- a reader finds the names of the first five packages that may have more, in their order and no others, and how many more
-- there are
pub record NamesMore (targets : List TargetValue) (more : List (List ℕ)) : Type 0 where
  pub packages : leaf_texts (codes "package") (reply_marks targets more) ≡ map allowed (take 5 more)
  pub others : leaf_texts (codes "others") (reply_marks targets more) ≡ if_any (length more - 5)

abbrev pub ReplyNamesMore : Type 0
ReplyNamesMore = (targets : List TargetValue) (more : List (List ℕ)) → NamesMore targets more

-- the addresses of the links, unless full texts alone are asked for
abbrev pub unless_full_texts : SfxOptions → List LibraryLinkValue → List (List ℕ)
unless_full_texts options links = map (λ (link : LibraryLinkValue). link.address) (if options.full_texts_only then [] else links)

-- the targets are the hits that are shown and may be linked to, in the order of their ranks, and then the links of the library
abbrev pub TargetsAreHitsAndLinks : Type 0
TargetsAreHitsAndLinks = (options : SfxOptions) (site : site_file.SiteValue) (tally : TallyValue) (cited : CitedTitleValue)
    → map (λ target. target.service.url) (targets_of options site tally cited)
    ≡ map link_text (filter (is_target options) tally.top)
    ++ unless_full_texts options (library_links site Shown (outcome_of tally) cited)

-- the address of each target is safe in a page
abbrev pub TargetsAreLinks : Type 0
TargetsAreLinks = (options : SfxOptions) (site : site_file.SiteValue) (tally : TallyValue) (cited : CitedTitleValue)
    → All (λ target. is_link target.service.url ≡ true) (targets_of options site tally cited)

-- if full texts alone are asked for, each target is one
abbrev pub FullTextsAreAlone : Type 0
FullTextsAreAlone = (options : SfxOptions) (site : site_file.SiteValue) (tally : TallyValue) (cited : CitedTitleValue)
    → options.full_texts_only ≡ true
    → All (λ target. target.service.service_type ≡ codes "getFullTxt") (targets_of options site tally cited)
