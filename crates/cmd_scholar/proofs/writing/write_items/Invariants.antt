use Rattle.std.proofs.Common.{take}
use Rattle.std.specs.List.{flat_map}
use Rattle.std.specs.Io.KnownBytes.{Appends}
use Rattle.cmd_scholar.specs.Items.{item_text}
use Rattle.cmd_scholar.proofs.writing.write_items.Given as goal

-- the items so far are written
abbrev pub invariant-loop-row : goal.invariant-loop-row
invariant-loop-row g l = Appends (g.W.Write.contents l.fn.out) (g.W.Write.contents l.out) (flat_map item_text (take l.row-index l.rows))
