use Rattle.std.proofs.Common.{refl}
use Rattle.std.specs.Prelude.{option_copied}
use Rattle.node_machine.specs.Nodes.{rules_of}
use Rattle.node_machine.proofs.Later.{later_served}
use Rattle.node_machine.proofs.Shares.{settle_moves}
use Rattle.node_machine.proofs.Tabled.{moved}
use Rattle.node_machine.proofs.machine.NodeMachine.settle.Goals as goal

pub returns-clause-history : goal.returns-clause-history
returns-clause-history g c = λ history has.
    moved g.S.FeedRespond.wanted g.S.FeedRespond.responses g.S.FeedRespond.sites c.args.self.now c.settle.new.self c.args.key history
    (settle_moves g.L.Log.records (rules_of g.S.FeedRespond.wanted g.S.FeedRespond.responses g.S.FeedRespond.sites c.args.self.now) (option_copied c.args.self.now.token)
    c.args.self.now.today (g.S.FeedRespond.sites c.args.self.now.responder) c.args.key c.args.progress c.args.now
    c.settle.result c.args.self.now.table c.settle.new.self c.args.log.now c.settle.new.log history c.settle.ensures.settled.followed
    c.settle.ensures.settled.others c.settle.ensures.absent has.connections has.today has.sites_had) has

pub returns-clause-later : goal.returns-clause-later
returns-clause-later g c = later_served g.S.FeedRespond.wanted g.S.FeedRespond.responses g.S.FeedRespond.sites c.args.key _ _ refl (returns-clause-history g c)
