use Rattle.std.proofs.Common.{take}
use Rattle.std.specs.List.{flat_map}
use Rattle.std.specs.Io.KnownBytes.{Appends}
use Rattle.feed_core.specs.Printed.{text_of_line}
use Rattle.feed_core.proofs.transcript.Transcript.write.Given as goal

-- the lines so far are written
abbrev pub invariant-loop-line : goal.invariant-loop-line
invariant-loop-line g l = Appends (g.W.Write.contents l.fn.writer) (g.W.Write.contents l.writer) (flat_map text_of_line (take l.line-index l.line-items))
