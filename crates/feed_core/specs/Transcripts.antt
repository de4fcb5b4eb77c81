-- The model of a transcript.
use Rattle.std.specs.Prelude.{List}
use Rattle.feed_world.specs.declared.line.Line as code_line
use Rattle.feed_core.specs.declared.transcript.Transcript.{Transcript}

-- its lines
abbrev pub lines_of : {K : Type 0} → Transcript K → List code_line.Line
lines_of transcript = transcript.lines.items

-- the keepers of its nodes
abbrev pub keepers_of : {K : Type 0} → Transcript K → List K
keepers_of transcript = transcript.keepers.items
