use Rattle.std.proofs.Common.{refl}
use Rattle.node_machine.proofs.Connections.{keeps_memory}
use Rattle.node_machine.proofs.Later.{later_kept}
use Rattle.node_machine.proofs.Tabled.{tabled}
use Rattle.node_machine.proofs.machine.NodeMachine.free_memory.Goals as goal

pub returns-clause-history : goal.returns-clause-history
returns-clause-history g c =
    tabled g.S.FeedRespond.wanted g.S.FeedRespond.responses g.S.FeedRespond.sites c.args.self.now c.free_memory.new.self
    (keeps_memory c.args.self.now.table c.free_memory.new.self
    (λ over. (let gone = c.free_memory.ensures.removed over in (gone.0, gone.2.others, gone.2.gone)))
    (λ within. (c.free_memory.ensures.kept within).0))

pub returns-clause-later : goal.returns-clause-later
returns-clause-later g c = later_kept g.S.FeedRespond.wanted g.S.FeedRespond.responses g.S.FeedRespond.sites _ _ refl (returns-clause-history g c)
