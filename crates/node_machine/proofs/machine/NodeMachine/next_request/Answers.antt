use Rattle.std.proofs.Common.{◌≡◌, ◌∷◌, ◌∙◌, Some, refl, sym, subst}
use Rattle.node_machine.specs.declared.exchange.Exchange.TheVariants.{Arriving}
use Rattle.node_machine.specs.declared.fetching.Fetching.{Fetching}
use Rattle.node_machine.specs.Exchanges.{Requested}
use Rattle.node_machine.specs.NodeEvents.{Exchanged, feed_history}
use Rattle.node_machine.specs.Nodes.{HasHistory}
use Rattle.node_machine.proofs.Exchanged.{exchanged_on}
use Rattle.node_machine.proofs.Later.{later_exchanged, room_as}
use Rattle.node_machine.proofs.machine.NodeMachine.next_request.Goals as goal

requested : goal.returns-clause-requested
requested g c fetching is history has =
    let wanted = g.S.FeedRespond.wanted in
    let replies = g.S.FeedRespond.responses in
    let was = c.in-Some.fetching in
    let request = c.request_for-request.result in
    let same : was ≡ fetching = cc (sym c.in-Some.is ∙ is) in
    let next : Fetching = record { name = was.name; fetch = was.fetch; exchange = Some (Arriving c.new.result) } in
    let event = Requested was.name was.fetch.piece was.fetch.phase c.args.front request in
    let arrives = c.new.ensures was.name was.fetch.piece was.fetch.phase c.args.front request c.method_of.ensures in
    let begun = exchanged_on wanted replies g.S.FeedRespond.sites event c.args.self.now was next history c.in-Some.is refl (refl, arrives) (has.fetching was c.in-Some.is).0
    (c.in-Ask.needed, c.in-Ask.ensures (feed_history history) has.feed, c.request_for-request.ensures) has in
    subst (λ (f : Fetching). HasHistory wanted replies g.S.FeedRespond.sites c.await_response.new.self (Exchanged (Requested f.name f.fetch.piece f.fetch.phase c.args.front request) ∷ history)) same
    (subst (λ node. HasHistory wanted replies g.S.FeedRespond.sites node (Exchanged event ∷ history)) (sym (c.await_response.ensures was c.in-Some.is)) begun)

pub returns-clause-requested : goal.returns-clause-requested
returns-clause-requested g c = requested g c

pub returns-clause-later : goal.returns-clause-later
returns-clause-later g c =
    later_exchanged g.S.FeedRespond.wanted g.S.FeedRespond.responses g.S.FeedRespond.sites
    (Requested c.in-Some.fetching.name c.in-Some.fetching.fetch.piece c.in-Some.fetching.fetch.phase c.args.front c.request_for-request.result) _ _
    (room_as (record c.args.self.now { fetching = Some (record c.in-Some.fetching { exchange = Some (Arriving c.new.result) }) }) c.await_response.new.self
    (c.await_response.ensures c.in-Some.fetching c.in-Some.is))
    (requested g c c.in-Some.fetching c.in-Some.is)
