use Rattle.std.proofs.Common.{◌+◌, subst, sym}
use Rattle.node_table.proofs.Places.{places_add, places_skip, HasPlacesBelow}
use Rattle.node_table.proofs.table.Table.places.Goals.{then-is_closable, else-is_closable}
use Rattle.node_table.proofs.table.Table.places.Goals as goal

pub loop-key-preserved : goal.loop-key-preserved
loop-key-preserved g c = elim c.if-is_closable.branch [
  | then-is_closable w ↦
      subst (λ n. HasPlacesBelow c.args.self.now c.args.most (c.loop-key.key + 1) n) (sym w.count-is)
      (places_add c.args.self.now c.args.most c.loop-key.key c.loop-key.count (c.is_closable.ensures.some w.if-is_closable.true)
      c.if-count-most.false c.loop-key.invariant)
  | else-is_closable w ↦
      subst (λ n. HasPlacesBelow c.args.self.now c.args.most (c.loop-key.key + 1) n) (sym w.count-is)
      (places_skip c.args.self.now c.args.most c.loop-key.key c.loop-key.count (c.is_closable.ensures.none w.if-is_closable.false) c.loop-key.invariant)
]
