-- The printed form of a line of a transcript.
use Rattle.std.specs.Prelude.{ℕ, List}
use Rattle.feed_world.specs.declared.line.Line as code_line
use Rattle.feed_world.specs.Shown.{shown_line}
use Rattle.feed_world.specs.LineText.{line_text}

-- the text of a line of the code
abbrev pub text_of_line : code_line.Line → List ℕ
text_of_line line = line_text (shown_line line)
