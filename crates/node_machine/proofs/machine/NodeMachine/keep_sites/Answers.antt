use Rattle.std.proofs.Common.{refl, rules, ◌≡◌, None}
use Rattle.node_machine.proofs.Reloads.{kept_later, kept_sites}
use Rattle.node_machine.proofs.machine.NodeMachine.keep_sites.Goals as goal

pub returns-clause-ended : goal.returns-clause-ended
returns-clause-ended g c = λ asked history is has.
    (let gone : c.take.new.self ≡ None = search rules in
    kept_sites g.S.FeedRespond.wanted g.S.FeedRespond.responses g.S.FeedRespond.sites c.args.self.now asked c.take.new.self history is gone has)

pub returns-clause-kept : goal.returns-clause-kept
returns-clause-kept g c = search rules

pub returns-clause-later : goal.returns-clause-later
returns-clause-later g c =
    kept_later g.S.FeedRespond.wanted g.S.FeedRespond.responses g.S.FeedRespond.sites c.args.self.now _ (returns-clause-kept g c) refl (returns-clause-ended g c)
