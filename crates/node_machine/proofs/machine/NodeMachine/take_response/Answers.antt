use Rattle.std.proofs.Common.{rules, ◌≡◌, None, Option, Result, Some, refl, sym, subst}
use Rattle.std.specs.Prelude.{IfErr}
use Rattle.feed_fetch.specs.Answers.{IsStoppedAt}
use Rattle.node_machine.specs.declared.fetching.Fetching.{Fetching}
use Rattle.feed_http.specs.declared.fetching.got.Got.{Got}
use Rattle.feed_fetch.specs.declared.stop.RequestFault.{RequestFault}
use Rattle.node_machine.specs.Exchanges.{ended_response}
use Rattle.node_machine.specs.Nodes.{exchange_of}
use Rattle.node_machine.proofs.Exchanged.{taken_as, took_reply}
use Rattle.node_machine.proofs.Later.{later_as, later_taken}
use Rattle.node_machine.proofs.machine.NodeMachine.take_response.Goals as goal

pub returns-in-Ok-clause-taken : goal.returns-in-Ok-clause-taken
returns-in-Ok-clause-taken g c history has =
    let wanted = g.S.FeedRespond.wanted in
    let replies = g.S.FeedRespond.responses in
    let was = c.in-Some.fetching in
    let is : c.args.self.now.fetching ≡ Some was = search rules in
    let next : Fetching = record { name = was.name; fetch = c.submit-outcome.new.fetch; exchange = None } in
    taken_as wanted replies g.S.FeedRespond.sites c.args.self.now _ history was c.in-Ok.reply is c.in-Ok.ensures.ended
    (took_reply wanted replies g.S.FeedRespond.sites c.args.self.now c.submit-outcome.new.feed was next c.in-Ok.reply
    (λ k. IfErr c.submit-outcome.result (λ stop. IsStoppedAt was.name stop k)) history is refl refl c.in-Ok.ensures.ended c.submit-outcome.ensures.owed has)

pub returns-in-Ok-clause-later : goal.returns-in-Ok-clause-later
returns-in-Ok-clause-later g c =
    let is : c.args.self.now.fetching ≡ Some c.in-Some.fetching = search rules in
    later_taken g.S.FeedRespond.wanted g.S.FeedRespond.responses g.S.FeedRespond.sites c.in-Some.fetching c.in-Ok.reply _ _ is c.in-Ok.ensures.ended
    c.submit-outcome.ensures.room (returns-in-Ok-clause-taken g c)

pub returns-in-Err-clause-idle : goal.returns-in-Err-clause-idle
returns-in-Err-clause-idle g c = search rules

pub returns-in-Err-clause-later : goal.returns-in-Err-clause-later
returns-in-Err-clause-later g c =
    let is : c.args.self.now.fetching ≡ Some c.in-Some.fetching = search rules in
    later_as c.args.self.now _
    (returns-in-Err-clause-idle g c
    (subst (λ (f : Option Fetching). ◌≡◌ {A = Option (Result Got RequestFault)} (ended_response (exchange_of f)) None) (sym is) c.in-Err.ensures.arriving.1))
