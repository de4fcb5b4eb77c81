use Rattle.std.proofs.Common.{◌≡◌, fold, take}
use Rattle.node_site.specs.HoldingsEntries.{hash_step}
use Rattle.node_site.proofs.entry.hash_after.Given as goal

abbrev pub invariant-loop-byte : goal.invariant-loop-byte
invariant-loop-byte l = l.after ≡ fold hash_step l.fn.hash (take l.byte-index l.bytes)
