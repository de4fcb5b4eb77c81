use Rattle.std.proofs.Common.{◌≡◌, IsSome, arith, refl, sym, subst, sum_by}
use Rattle.node_table.specs.Peers.{held_in}
use Rattle.node_table.proofs.Held.{within_after_removal}
use Rattle.node_table.proofs.Slots.{sum_of_none}
use Rattle.node_table.proofs.table.Table.free_memory.Goals as goal

pub returns-in_default-clause-within : goal.returns-in_default-clause-within
returns-in_default-clause-within g c = omega (arith, sum_of_none held_in refl c.args.self.now.peers.slots c.in_default.ensures.none)

pub returns-in_default-clause-removed : goal.returns-in_default-clause-removed
returns-in_default-clause-removed g c = λ over.
    let empty : sum_by held_in c.args.self.now.peers.slots ≡ 0 = sum_of_none held_in refl c.args.self.now.peers.slots c.in_default.ensures.none in
    absurd (omega (arith, empty, over))

pub returns-clause-within : goal.returns-clause-within
returns-clause-within g c =
    let first = c.in-Some.ensures.first in
    within_after_removal c.args.self.now c.remove.new.self c.in-Some.key first (c.remove.ensures.removed (subst (λ slot. IsSome slot) (sym first.there) refl)).held
