-- The fragments of an item.
use Rattle.std.specs.Prelude.{ℕ, List, [], ◌∷◌, Option, Some, None}
use Rattle.feed_xml.specs.Characters.{text_marks}
use Rattle.feed_xml.specs.Elements.{leaf}
use Rattle.cmd_scholar.specs.Elements.{day_marks}
use Rattle.cmd_scholar.specs.Embargoes.{embargo_marks}
use Rattle.feed_xml.specs.Marks.{Mark, opened, closed, xml_text}
use Rattle.cmd_scholar.specs.declared.names.TheConstants.{ISSN}
use Rattle.cmd_scholar.specs.declared.fragment.ScholarFragment.{ScholarFragment}
use Rattle.cmd_scholar.specs.declared.fragment.ScholarFragment.TheVariants as of

-- an element with an ISSN, if there is one
abbrev pub issn_marks : Option (List ℕ) → List Mark
issn_marks None = []
issn_marks (Some issn) = leaf ISSN.now issn

-- the tags and the character data of a fragment
abbrev pub fragment_marks : ScholarFragment → List Mark
fragment_marks (of.Opened tag) = opened tag.now ∷ []
fragment_marks (of.Closed name) = closed name.now ∷ []
fragment_marks (of.Text text) = text_marks text.now
fragment_marks (of.Leaf name text) = leaf name.now text.now
fragment_marks (of.Issn issn) = issn_marks issn
fragment_marks (of.Day name day) = day_marks name.now day
fragment_marks (of.Embargo embargo) = embargo_marks embargo

-- the text of a fragment
abbrev pub fragment_text : ScholarFragment → List ℕ
fragment_text piece = xml_text (fragment_marks piece)
