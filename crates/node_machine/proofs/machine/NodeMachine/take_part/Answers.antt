use Rattle.std.proofs.Common.{rules, ◌≡◌, ℕ, List, None, Option, Some, refl, sym, subst, ◌∙◌, ap}
use Rattle.node_machine.specs.declared.exchange.Exchange.TheVariants.{Arriving}
use Rattle.node_machine.specs.declared.fetching.Fetching.{Fetching}
use Rattle.node_machine.specs.Exchanges.{IsExchangeOf, part_of}
use Rattle.node_machine.specs.Nodes.{exchange_of}
use Rattle.node_machine.proofs.Later.{later_as}
use Rattle.node_machine.proofs.Exchanged.{later_part, part_taken_as, took_part}
use Rattle.node_machine.proofs.machine.NodeMachine.take_part.Goals as goal

pub returns-in-Ok-clause-taken : goal.returns-in-Ok-clause-taken
returns-in-Ok-clause-taken g c history has =
    let wanted = g.S.FeedRespond.wanted in
    let replies = g.S.FeedRespond.responses in
    let was = c.in-Some.fetching in
    let is : c.args.self.now.fetching ≡ Some was = search rules in
    let arriving : was.exchange ≡ Some (Arriving c.in-Ok.arrival) = c.in-Ok.ensures.arriving in
    let e = c.submit_part-arrival.ensures in
    let next : Fetching = record { name = was.name; fetch = c.submit_part-arrival.new.fetch; exchange = Some (Arriving c.submit_part-arrival.result.0) } in
    part_taken_as wanted replies g.S.FeedRespond.sites c.args.self.now _ history was is (λ first size bytes of.
    (let part = sym (ap part_of arriving) ∙ of in
    took_part wanted replies g.S.FeedRespond.sites c.args.self.now c.submit_part-arrival.new.feed was next first size bytes _ history is refl
    (λ events given h. (let now = subst (λ x. IsExchangeOf x was.name events given) arriving h in
    let passed = e.passed first size bytes part events given now.1 in (now.0, (now.0, passed.0), passed.1))) (e.right first size bytes part) has))

pub returns-in-Ok-clause-idle : goal.returns-in-Ok-clause-idle
returns-in-Ok-clause-idle g c = search rules

pub returns-in-Ok-clause-later : goal.returns-in-Ok-clause-later
returns-in-Ok-clause-later g c =
    let is : c.args.self.now.fetching ≡ Some c.in-Some.fetching = search rules in
    later_part g.S.FeedRespond.wanted g.S.FeedRespond.responses g.S.FeedRespond.sites c.args.self.now _ c.in-Some.fetching is (returns-in-Ok-clause-idle g c) (returns-in-Ok-clause-taken g c)
    c.submit_part-arrival.ensures.room

pub returns-in-Err-clause-idle : goal.returns-in-Err-clause-idle
returns-in-Err-clause-idle g c = search rules

pub returns-in-Err-clause-later : goal.returns-in-Err-clause-later
returns-in-Err-clause-later g c =
    let is : c.args.self.now.fetching ≡ Some c.in-Some.fetching = search rules in
    later_as c.args.self.now _
    (returns-in-Err-clause-idle g c
    (subst (λ (f : Option Fetching). ◌≡◌ {A = Option (ℕ × ℕ × List ℕ)} (part_of (exchange_of f)) None) (sym is) c.in-Err.ensures.ended.1))
