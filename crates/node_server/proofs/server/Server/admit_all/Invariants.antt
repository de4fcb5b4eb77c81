use Rattle.node_machine.specs.Nodes.{IsLater}
use Rattle.node_server.proofs.server.Server.admit_all.Given as goal

abbrev pub invariant-loop-socket : goal.invariant-loop-socket
invariant-loop-socket g l = IsLater g.S.FeedRespond.wanted g.S.FeedRespond.responses g.S.FeedRespond.sites l.fn.node l.node
