-- The model values of parts, without their addresses in memory.
use Rattle.std.specs.Prelude.{List, map}
use Rattle.feed_model.specs.Content.{Part}
use Rattle.feed_parts.specs.declared.part.Part as code_part

-- the model value of a part
abbrev pub shown_part : code_part.Part → Part
shown_part p = record { first = p.first; bytes = p.bytes.items }

-- the model values of a list of parts
abbrev pub shown_parts : List code_part.Part → List Part
shown_parts ps = map shown_part ps
