use Rattle.node_machine.specs.Nodes.{IsLater}
use Rattle.node_server.proofs.server.Server.close_all.Given as goal

abbrev pub invariant-loop : goal.invariant-loop
invariant-loop g l = IsLater g.S.FeedRespond.wanted g.S.FeedRespond.responses g.S.FeedRespond.sites l.fn.node l.node
