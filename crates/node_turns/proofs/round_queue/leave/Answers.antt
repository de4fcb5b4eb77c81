use Rattle.std.proofs.Common.{◌∙◌, sym, arith}
use Rattle.node_turns.proofs.Homes.{left_none, left_some}
use Rattle.node_turns.proofs.round_queue.leave.Goals as goal

pub returns-then-len-eq0-clause-ring : goal.returns-then-len-eq0-clause-ring
returns-then-len-eq0-clause-ring c = c.remove.ensures.removed ∙ sym (left_none c.args.slot c.args.len c.args.ring.now.keys.items c.if-len-eq0.true)

pub returns-else-len-eq0-clause-ring : goal.returns-else-len-eq0-clause-ring
returns-else-len-eq0-clause-ring c = sym (left_some c.args.slot c.args.len c.args.ring.now.keys.items (omega (arith, c.if-len-eq0.false)))
