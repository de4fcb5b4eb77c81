use Rattle.std.proofs.Common.{refl}
use Rattle.node_machine.proofs.Connections.{keeps_room}
use Rattle.node_machine.proofs.Later.{later_kept}
use Rattle.node_machine.proofs.Tabled.{tabled}
use Rattle.node_machine.proofs.machine.NodeMachine.make_room.Goals as goal

pub returns-clause-history : goal.returns-clause-history
returns-clause-history g c =
    tabled g.S.FeedRespond.wanted g.S.FeedRespond.responses g.S.FeedRespond.sites c.args.self.now c.make_room.new.self
    (keeps_room c.args.self.now.table c.make_room.new.self
    (λ some. (let gone = c.make_room.ensures.removed some in (gone.0, gone.2.others, gone.2.gone)))
    (λ none. (c.make_room.ensures.empty none).0))

pub returns-clause-later : goal.returns-clause-later
returns-clause-later g c = later_kept g.S.FeedRespond.wanted g.S.FeedRespond.responses g.S.FeedRespond.sites _ _ refl (returns-clause-history g c)
