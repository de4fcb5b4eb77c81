use Rattle.std.proofs.Common.{subst}
use Rattle.node_machine.proofs.Later.{later_after}
use Rattle.node_service.specs.Runs.{IsLaterNode}
use Rattle.node_service.proofs.node_loop.RunningNode.turn.Goals as goal

pub returns-in-Err : goal.returns-in-Err
returns-in-Err g c = later_after c.args.node.now c.begin_day.new.node c.turn.new.node c.begin_day.ensures c.turn.ensures.later

pub returns-then-catch_up : goal.returns-then-catch_up
returns-then-catch_up g c =
    later_after c.args.node.now c.turn.new.node c.catch_up.new.self
    (later_after c.args.node.now c.begin_day.new.node c.turn.new.node c.begin_day.ensures c.turn.ensures.later)
    (later_after c.turn.new.node c.advance.new.node c.catch_up.new.self c.advance.ensures c.catch_up.ensures.later)

pub returns-then-not-advance : goal.returns-then-not-advance
returns-then-not-advance g c =
    later_after c.args.node.now c.advance.new.node c.advance-2.new.node
    (later_after c.args.node.now c.turn.new.node c.advance.new.node
    (later_after c.args.node.now c.begin_day.new.node c.turn.new.node c.begin_day.ensures c.turn.ensures.later) c.advance.ensures)
    (later_after c.advance.new.node c.catch_up.new.self c.advance-2.new.node c.catch_up.ensures.later c.advance-2.ensures)

pub returns : goal.returns
returns g c =
    later_after c.args.node.now c.catch_up.new.self c.begin.new.node
    (later_after c.args.node.now c.advance.new.node c.catch_up.new.self
    (later_after c.args.node.now c.turn.new.node c.advance.new.node
    (later_after c.args.node.now c.begin_day.new.node c.turn.new.node c.begin_day.ensures c.turn.ensures.later) c.advance.ensures) c.catch_up.ensures.later)
    (later_after c.catch_up.new.self c.advance-2.new.node c.begin.new.node c.advance-2.ensures
    (later_after c.advance-2.new.node c.cancel.new.node c.begin.new.node c.cancel.ensures
    (subst (λ node. IsLaterNode node c.begin.new.node) c.note_end.ensures c.begin.ensures)))
