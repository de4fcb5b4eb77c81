use Rattle.std.proofs.Common.{◌≡◌, take}
use Rattle.node_service.specs.Wanted.{missing_text}
use Rattle.node_service.proofs.wanted.missing_text.Given as goal

abbrev pub invariant-loop-awaited : goal.invariant-loop-awaited
invariant-loop-awaited l = l.text.items ≡ missing_text l.actives (take l.awaited-index l.wanted)
