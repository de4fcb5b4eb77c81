use Rattle.std.proofs.Common.{refl, rules, ◌≡◌, None, Some}
use Rattle.node_machine.proofs.Busy.{finished_on}
use Rattle.node_machine.proofs.Later.{later_finished}
use Rattle.node_machine.proofs.machine.NodeMachine.end_fetch.Goals as goal

pub returns-clause-finished : goal.returns-clause-finished
returns-clause-finished g c = λ fetching history is has.
    (let gone : c.take.new.self ≡ None = search rules in
    finished_on g.S.FeedRespond.wanted g.S.FeedRespond.responses g.S.FeedRespond.sites c.args.self.now fetching c.take.new.self history is gone has)

pub returns-clause-later : goal.returns-clause-later
returns-clause-later g c =
    let is : c.args.self.now.fetching ≡ Some c.in_ok-fetching.fetching = search rules in
    later_finished g.S.FeedRespond.wanted g.S.FeedRespond.responses g.S.FeedRespond.sites c.in_ok-fetching.fetching _ _ is refl (returns-clause-finished g c)
