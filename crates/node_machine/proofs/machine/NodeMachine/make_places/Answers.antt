use Rattle.std.proofs.Common.{refl}
use Rattle.node_machine.proofs.Later.{later_kept}
use Rattle.node_machine.proofs.Tabled.{tabled}
use Rattle.node_machine.proofs.machine.NodeMachine.make_places.Goals as goal

pub returns-clause-history : goal.returns-clause-history
returns-clause-history g c =
    tabled g.S.FeedRespond.wanted g.S.FeedRespond.responses g.S.FeedRespond.sites c.args.self.now c.make_places.new.self c.make_places.ensures.connections

pub returns-clause-later : goal.returns-clause-later
returns-clause-later g c = later_kept g.S.FeedRespond.wanted g.S.FeedRespond.responses g.S.FeedRespond.sites _ _ refl (returns-clause-history g c)
