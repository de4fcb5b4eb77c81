use Rattle.std.proofs.Common.{◌≡◌, ◌++◌, take}
use Rattle.node_response.specs.Escapes.{escaped_bytes}
use Rattle.node_response.proofs.escape.put_escaped_bytes.Given as goal

abbrev pub invariant-loop-byte : goal.invariant-loop-byte
invariant-loop-byte l = l.out.items ≡ l.fn.out.items ++ escaped_bytes (take l.byte-index l.text)
