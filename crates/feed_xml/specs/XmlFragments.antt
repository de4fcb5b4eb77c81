-- The fragments of a document.
use Rattle.std.specs.Prelude.{ℕ, List, [], ◌∷◌}
use Rattle.feed_xml.specs.Characters.{text_marks}
use Rattle.feed_xml.specs.Elements.{leaf}
use Rattle.feed_xml.specs.Marks.{Mark, opened, closed, xml_text}
use Rattle.feed_xml.specs.declared.fragment.XmlFragment.{XmlFragment}
use Rattle.feed_xml.specs.declared.fragment.XmlFragment.TheVariants as of

-- the tags and the character data of a fragment
abbrev pub fragment_marks : XmlFragment → List Mark
fragment_marks (of.Opened tag) = opened tag.now ∷ []
fragment_marks (of.Closed name) = closed name.now ∷ []
fragment_marks (of.Text text) = text_marks text.now
fragment_marks (of.Leaf name text) = leaf name.now text.now

-- the text of a fragment
abbrev pub fragment_text : XmlFragment → List ℕ
fragment_text piece = xml_text (fragment_marks piece)
