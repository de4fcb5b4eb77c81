-- Laws of entity tags.
use Rattle.std.specs.Prelude.{◌≡◌}
use Rattle.httparse.specs.Grammar.{AllPass, is_uri_byte}
use Rattle.node_response.specs.Tags.{TagInputs, entity_tag}

-- equal inputs have equal tags
abbrev pub SameInputsSameTag : Type 0
SameInputsSameTag = (one other : TagInputs) → one ≡ other → entity_tag one ≡ entity_tag other

-- a tag has no space and no control byte
abbrev pub TagIsVisible : Type 0
TagIsVisible = (inputs : TagInputs) → AllPass is_uri_byte (entity_tag inputs)
