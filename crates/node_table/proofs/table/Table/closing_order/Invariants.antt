use Rattle.std.specs.BinaryHeap.{IsHeap, heap_items}
use Rattle.node_table.specs.Places.{compare_entries, IsOrderBelow}
use Rattle.node_table.proofs.table.Table.closing_order.Given as goal

abbrev pub invariant-loop-key : goal.invariant-loop-key
invariant-loop-key g l = IsHeap compare_entries (heap_items l.order) × IsOrderBelow l.self l.key (heap_items l.order)
