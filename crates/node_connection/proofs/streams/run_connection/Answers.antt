use Rattle.std.proofs.Common.{◌++◌, rules}
use Rattle.node_connection.proofs.Steps.{further, nothing}
use Rattle.node_connection.proofs.streams.run_connection.Goals as goal

pub loop-init : goal.loop-init
loop-init g c = (
  λ history state. nothing (g.S.Respond.wanted c.args.responder.now, g.S.Respond.responses c.args.responder.now) c.args.share.now c.args.connection.now history _ _ state,
  c.requires.may_read,
  c.requires.may_write,
)

pub step-progress-requires-clause-may_read : goal.step-progress-requires-clause-may_read
step-progress-requires-clause-may_read g c = c.loop.invariant.1

pub step-progress-requires-clause-may_write : goal.step-progress-requires-clause-may_write
step-progress-requires-clause-may_write g c = c.loop.invariant.2

pub returns-then-ne-clause-advanced : goal.returns-then-ne-clause-advanced
returns-then-ne-clause-advanced g c = λ history state.
    let before = c.loop.invariant.0 history state in
    further (g.S.Respond.wanted c.args.responder.now, g.S.Respond.responses c.args.responder.now) c.args.share.now c.loop.share c.step-progress.new.share
    c.loop.connection c.step-progress.new.connection history
    _ _ _ _ _ _ before (c.step-progress.ensures.advanced (before.more ++ history) before.state)

pub loop-preserved : goal.loop-preserved
loop-preserved g c = (
  λ history state.
      let before = c.loop.invariant.0 history state in
      further (g.S.Respond.wanted c.args.responder.now, g.S.Respond.responses c.args.responder.now) c.args.share.now c.loop.share c.step-progress.new.share
      c.loop.connection c.step-progress.new.connection history
      _ _ _ _ _ _ before (c.step-progress.ensures.advanced (before.more ++ history) before.state),
  c.step-progress.ensures.may_read (search rules),
  c.step-progress.ensures.may_write (search rules),
)
