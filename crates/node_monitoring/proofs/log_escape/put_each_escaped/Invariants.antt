use Rattle.std.proofs.Common.{◌≡◌, ◌++◌, take}
use Rattle.node_monitoring.specs.LogEscapes.{escaped}
use Rattle.node_monitoring.proofs.log_escape.put_each_escaped.Given as goal

abbrev pub invariant-loop-byte : goal.invariant-loop-byte
invariant-loop-byte l = l.out.items ≡ l.fn.out.items ++ escaped (take l.byte-index l.text)
