-- Laws of documents of XML.
use Rattle.std.specs.Prelude.{◌≡◌, ℕ, List, All, Some, true, false}
use Rattle.std.specs.List.{list_all}
use Rattle.feed_xml.specs.Characters.{allowed, is_control}
use Rattle.feed_xml.specs.Marks.{Mark, xml_text}
use Rattle.feed_xml.specs.Reading.{is_proper, xml_marks}

-- a reader of XML gets the tags and the characters of a document back from its text, so no text in it is read as a tag or a
-- reference
abbrev pub MarksReadBack : Type 0
MarksReadBack = (marks : List Mark) → list_all is_proper marks ≡ true → xml_marks (xml_text marks) ≡ Some marks

-- a text has no control character that XML does not have
abbrev pub HasNoControls : Type 0
HasNoControls = (text : List ℕ) → All (λ b. is_control b ≡ false) (allowed text)

-- a text of the characters that XML has is not changed again
abbrev pub AllowedIsItself : Type 0
AllowedIsItself = (text : List ℕ) → allowed (allowed text) ≡ allowed text
