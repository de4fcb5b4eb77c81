use Rattle.std.proofs.Common.{refl, rules, ◌≡◌, ◌∷◌, Option, Some, true, sym, subst}
use Rattle.node_machine.specs.declared.fetching.Fetching.{Fetching}
use Rattle.node_machine.specs.Exchanges.{Ended, IsExchangeOf, is_arriving}
use Rattle.node_machine.specs.NodeEvents.{exchange_in, given_in}
use Rattle.node_machine.specs.Nodes.{exchange_of}
use Rattle.node_machine.proofs.Exchanged.{exchanged_on, later_either}
use Rattle.node_machine.proofs.machine.NodeMachine.end_connection.Goals as goal

pub returns-in-Some-clause-ended : goal.returns-in-Some-clause-ended
returns-in-Some-clause-ended g c arriving history has =
    let was = c.in-Some.fetching in
    let next = c.end.result in
    let is : c.args.self.now.fetching ≡ Some was = search rules in
    let so : is_arriving was.exchange ≡ true = subst (λ (f : Option Fetching). is_arriving (exchange_of f) ≡ true) is arriving in
    let name : next.name ≡ was.name = c.end.ensures.name in
    exchanged_on g.S.FeedRespond.wanted g.S.FeedRespond.responses g.S.FeedRespond.sites (Ended c.args.end) c.args.self.now was next history is name
    (subst (λ n. IsExchangeOf next.exchange n (Ended c.args.end ∷ exchange_in history) (given_in history)) (sym name)
    (c.end.ensures.ended so (exchange_in history) (given_in history) (has.fetching was is).1)) tt tt has

pub returns-in-Some-clause-kept : goal.returns-in-Some-clause-kept
returns-in-Some-clause-kept g c = search rules

pub returns-in-Some-clause-later : goal.returns-in-Some-clause-later
returns-in-Some-clause-later g c =
    later_either g.S.FeedRespond.wanted g.S.FeedRespond.responses g.S.FeedRespond.sites (Ended c.args.end) _ _ (returns-in-Some-clause-ended g c) (returns-in-Some-clause-kept g c) refl
