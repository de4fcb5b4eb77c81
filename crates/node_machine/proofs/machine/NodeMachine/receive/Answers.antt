use Rattle.std.proofs.Common.{refl, rules, ◌≡◌, ◌∷◌, Option, Some, true, sym, subst}
use Rattle.node_machine.specs.declared.fetching.Fetching.{Fetching}
use Rattle.node_machine.specs.Exchanges.{Received, IsExchangeOf, is_arriving}
use Rattle.node_machine.specs.NodeEvents.{exchange_in, given_in}
use Rattle.node_machine.specs.Nodes.{exchange_of}
use Rattle.node_machine.proofs.Exchanged.{exchanged_on, later_either}
use Rattle.node_machine.proofs.machine.NodeMachine.receive.Goals as goal

pub returns-in-Some-clause-received : goal.returns-in-Some-clause-received
returns-in-Some-clause-received g c arriving history has =
    let was = c.in-Some.fetching in
    let next = c.receive.result in
    let is : c.args.self.now.fetching ≡ Some was = search rules in
    let so : is_arriving was.exchange ≡ true = subst (λ (f : Option Fetching). is_arriving (exchange_of f) ≡ true) is arriving in
    let name : next.name ≡ was.name = c.receive.ensures.name in
    exchanged_on g.S.FeedRespond.wanted g.S.FeedRespond.responses g.S.FeedRespond.sites (Received c.args.bytes.now) c.args.self.now was next history is name
    (subst (λ n. IsExchangeOf next.exchange n (Received c.args.bytes.now ∷ exchange_in history) (given_in history)) (sym name)
    (c.receive.ensures.received so (exchange_in history) (given_in history) (has.fetching was is).1)) tt tt has

pub returns-in-Some-clause-kept : goal.returns-in-Some-clause-kept
returns-in-Some-clause-kept g c = search rules

pub returns-in-Some-clause-later : goal.returns-in-Some-clause-later
returns-in-Some-clause-later g c =
    later_either g.S.FeedRespond.wanted g.S.FeedRespond.responses g.S.FeedRespond.sites (Received c.args.bytes.now) _ _ (returns-in-Some-clause-received g c) (returns-in-Some-clause-kept g c) refl
