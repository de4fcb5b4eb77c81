use Rattle.std.proofs.Common.{◌≡◌, length, heap_items, arith, inr}
use Rattle.std.specs.BinaryHeap.{heap_len}
use Rattle.node_table.proofs.Places.{making_begins, making_continues, none_in_order}
use Rattle.node_table.proofs.table.Table.make_places.Goals as goal

pub loop-done-init : goal.loop-done-init
loop-done-init g c =
    making_begins g.L.Log.records c.args.count c.args.now c.len-total.result c.args.self.now c.args.log.now _ _ c.len-total.ensures
    c.in_ok-order.ensures.heap c.in_ok-order.ensures.order

pub loop-done-preserved : goal.loop-done-preserved
loop-done-preserved g c =
    making_continues g.L.Log.records c.args.count c.args.now c.len-total.result c.loop-done._done c.free_places-in-loop-done.result c.args.self.now
    c.loop-done.self c.evict_next.new.self c.args.log.now c.loop-done.log c.evict_next.new.log _ _ _ _ c.loop-done.invariant
    c.free_places-in-loop-done.ensures c.if-count-free_places-2.false
    (c.evict_next.ensures.less (omega (arith, c.loop-done.invariant.rest, c.loop-done-test.true))) c.evict_next.ensures.heap c.evict_next.ensures.order
    c.evict_next.ensures.evicted

pub returns-clause-enough : goal.returns-clause-enough
returns-clause-enough g c =
    let long : heap_len c.loop-done.order ≡ length (heap_items c.loop-done.order) = (cc) in
    inr (none_in_order c.loop-done.self (heap_items c.loop-done.order) (omega (arith, long, c.loop-done.invariant.rest, c.loop-done-test.false))
    c.loop-done.invariant.order)
