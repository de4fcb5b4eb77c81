use Rattle.std.proofs.Common.{rules}
use Rattle.node_machine.proofs.Later.{later_after}
use Rattle.node_service.proofs.starting.Starting.open.Goals as goal

pub returns-in-Err-turn_if_due-clause-later : goal.returns-in-Err-turn_if_due-clause-later
returns-in-Err-turn_if_due-clause-later g c = later_after c.args.node.now c.loop.node c.turn_if_due.new.node c.loop.invariant.2 c.turn_if_due.ensures

pub loop-preserved : goal.loop-preserved
loop-preserved g c = (search rules, search rules, later_after c.args.node.now c.loop.node c.turn_if_due.new.node c.loop.invariant.2 c.turn_if_due.ensures)
