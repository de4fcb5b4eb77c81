use Rattle.node_machine.specs.Nodes.{IsLater}
use Rattle.node_server.proofs.server.Server.run_turn.Given as goal

abbrev pub invariant-loop-event : goal.invariant-loop-event
invariant-loop-event g l = IsLater g.S.FeedRespond.wanted g.S.FeedRespond.responses g.S.FeedRespond.sites l.fn.node l.node
