use Rattle.node_table.proofs.Places.{HasPlacesBelow}
use Rattle.node_table.proofs.table.Table.places.Given as goal

abbrev pub invariant-loop-key : goal.invariant-loop-key
invariant-loop-key g l = HasPlacesBelow l.self l.most l.key l.count
