use Rattle.std.proofs.Common.{refl}
use Rattle.node_machine.proofs.Later.{later_kept}
use Rattle.node_machine.proofs.Tabled.{tabled}
use Rattle.node_machine.proofs.machine.NodeMachine.mark_for_client.Goals as goal

pub returns-clause-later : goal.returns-clause-later
returns-clause-later g c =
    later_kept g.S.FeedRespond.wanted g.S.FeedRespond.responses g.S.FeedRespond.sites _ _ refl
    (tabled g.S.FeedRespond.wanted g.S.FeedRespond.responses g.S.FeedRespond.sites c.args.self.now c.mark_for_client.new.self
    c.mark_for_client.ensures.connections)
