use Rattle.node_machine.proofs.Later.{later_after, later_same}
use Rattle.node_server.proofs.server.Server.run_turn.Goals as goal

pub loop-event-init : goal.loop-event-init
loop-event-init g c = later_same c.args.node.now

pub loop-event-preserved : goal.loop-event-preserved
loop-event-preserved g c = later_after c.args.node.now c.loop-event.node c.on_event.new.node c.loop-event.invariant c.on_event.ensures

pub returns-in_err-serve_ready : goal.returns-in_err-serve_ready
returns-in_err-serve_ready g c =
    later_after c.args.node.now c.accept_waiting.new.node c.serve_ready.new.node
    (later_after c.args.node.now c.loop-event.node c.accept_waiting.new.node c.loop-event.invariant c.accept_waiting.ensures) c.serve_ready.ensures

pub returns : goal.returns
returns g c =
    later_after c.args.node.now c.accept_waiting-has_more_work.new.node c.end_turn.new.node
    (later_after c.args.node.now c.serve_ready.new.node c.accept_waiting-has_more_work.new.node
    (later_after c.args.node.now c.accept_waiting.new.node c.serve_ready.new.node
    (later_after c.args.node.now c.loop-event.node c.accept_waiting.new.node c.loop-event.invariant c.accept_waiting.ensures) c.serve_ready.ensures)
    c.accept_waiting-has_more_work.ensures)
    c.end_turn.ensures
