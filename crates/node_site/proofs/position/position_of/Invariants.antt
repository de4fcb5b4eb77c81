use Rattle.std.proofs.Common.{◌≡◌, ◌≤◌, ◌+◌, fold, take}
use Rattle.node_site.specs.Positions.{first_position, position_after}
use Rattle.node_site.proofs.position.position_of.Given as goal

abbrev pub invariant-loop-byte : goal.invariant-loop-byte
invariant-loop-byte l = record {
  value : l.at ≡ fold position_after first_position (take l.byte-index l.before);
  line : l.at.line ≤ l.byte-index + 1;
  column : l.at.column ≤ l.byte-index + 1;
}
