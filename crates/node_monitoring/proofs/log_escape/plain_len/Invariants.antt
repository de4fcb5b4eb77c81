use Rattle.std.proofs.Common.{◌≡◌, take}
use Rattle.node_monitoring.specs.LogEscapes.{escaped}
use Rattle.node_monitoring.proofs.log_escape.plain_len.Given as goal

abbrev pub invariant-loop-byte : goal.invariant-loop-byte
invariant-loop-byte l = (l.count ≡ l.byte-index) × (escaped (take l.byte-index l.text) ≡ take l.byte-index l.text)
