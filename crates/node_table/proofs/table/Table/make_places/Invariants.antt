use Rattle.std.specs.BinaryHeap.{heap_items, heap_len}
use Rattle.node_table.proofs.Places.{IsMaking}
use Rattle.node_table.proofs.table.Table.make_places.Given as goal

abbrev pub invariant-loop-done : goal.invariant-loop-done
invariant-loop-done g l =
    IsMaking g.L.Log.records l.count l.now l.total l._done l.fn.self l.self l.fn.log l.log (heap_items l.order) (heap_len l.order)
