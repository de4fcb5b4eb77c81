-- Elements that have a text or a number alone.
use Rattle.std.specs.Prelude.{ℕ, List}
use Rattle.std.specs.Fmt.{decimal}
use Rattle.feed_xml.specs.Marks.{Mark, element}
use Rattle.feed_xml.specs.Characters.{bytes_marks, text_marks}

-- an element with a text alone
abbrev pub leaf : List ℕ → List ℕ → List Mark
leaf name text = element name name (text_marks text)

-- an element with a number alone
abbrev pub number_leaf : List ℕ → ℕ → List Mark
number_leaf name n = element name name (bytes_marks (decimal n))
