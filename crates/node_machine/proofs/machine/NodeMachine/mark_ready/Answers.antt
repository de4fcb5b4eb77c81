use Rattle.std.proofs.Common.{refl}
use Rattle.node_machine.proofs.Connections.{keeps_all}
use Rattle.node_machine.proofs.Later.{later_kept}
use Rattle.node_machine.proofs.Tabled.{tabled}
use Rattle.node_machine.proofs.machine.NodeMachine.mark_ready.Goals as goal

pub returns-clause-history : goal.returns-clause-history
returns-clause-history g c =
    tabled g.S.FeedRespond.wanted g.S.FeedRespond.responses g.S.FeedRespond.sites c.args.self.now c.mark_ready.new.self
    (keeps_all c.args.self.now.table c.mark_ready.new.self c.mark_ready.ensures.peers)

pub returns-clause-later : goal.returns-clause-later
returns-clause-later g c = later_kept g.S.FeedRespond.wanted g.S.FeedRespond.responses g.S.FeedRespond.sites _ _ refl (returns-clause-history g c)
