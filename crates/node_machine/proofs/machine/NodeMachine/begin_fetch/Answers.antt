use Rattle.std.proofs.Common.{rules, ◌≡◌, ◌∷◌, ◌∙◌, None, Some, Ok, Err, Result, refl, sym, subst}
use Rattle.feed_names.specs.ReleaseName.{Name}
use Rattle.feed_names.specs.declared.release_name.NameFault.{NameFault}
use Rattle.node_machine.specs.declared.fetching.Fetching.{Fetching}
use Rattle.node_machine.specs.NodeEvents.{Began}
use Rattle.node_machine.specs.Nodes.{HasHistory}
use Rattle.node_machine.proofs.Busy.{begun_on, refused_on}
use Rattle.node_machine.proofs.Later.{later_begun}
use Rattle.node_machine.proofs.machine.NodeMachine.begin_fetch.Goals as goal

pub returns-in-Ok-clause-begun : goal.returns-in-Ok-clause-begun
returns-in-Ok-clause-begun g c asked history is has =
    let wanted = g.S.FeedRespond.wanted in
    let replies = g.S.FeedRespond.responses in
    let old = c.args.self.now in
    let was : old.requested ≡ Some (Ok c.in-Ok.name) = search rules in
    let next : Fetching = record { name = c.in-Ok.name; fetch = c.new-fetch.result; exchange = None } in
    let gone : c.take.new.self ≡ None = search rules in
    let same : Ok c.in-Ok.name ≡ asked = cc (sym was ∙ is) in
    subst (λ (a : Result Name NameFault). HasHistory wanted replies g.S.FeedRespond.sites (record old { fetching = Some next; requested = c.take.new.self }) (Began a ∷ history)) same
    (begun_on wanted replies g.S.FeedRespond.sites old next c.take.new.self history was refl gone has)

pub returns-in-Ok-clause-later : goal.returns-in-Ok-clause-later
returns-in-Ok-clause-later g c =
    let was : c.args.self.now.requested ≡ Some (Ok c.in-Ok.name) = search rules in
    later_begun g.S.FeedRespond.wanted g.S.FeedRespond.responses g.S.FeedRespond.sites (Ok c.in-Ok.name) _ _ was refl (returns-in-Ok-clause-begun g c)

pub returns-in-Err-clause-begun : goal.returns-in-Err-clause-begun
returns-in-Err-clause-begun g c asked history is has =
    let wanted = g.S.FeedRespond.wanted in
    let replies = g.S.FeedRespond.responses in
    let old = c.args.self.now in
    let was : old.requested ≡ Some (Err c.in-Err.fault) = search rules in
    let gone : c.take.new.self ≡ None = search rules in
    let same : Err c.in-Err.fault ≡ asked = cc (sym was ∙ is) in
    subst (λ (a : Result Name NameFault). HasHistory wanted replies g.S.FeedRespond.sites (record old { requested = c.take.new.self }) (Began a ∷ history)) same
    (refused_on wanted replies g.S.FeedRespond.sites old c.in-Err.fault c.take.new.self history was gone has)

pub returns-in-Err-clause-later : goal.returns-in-Err-clause-later
returns-in-Err-clause-later g c =
    let was : c.args.self.now.requested ≡ Some (Err c.in-Err.fault) = search rules in
    later_begun g.S.FeedRespond.wanted g.S.FeedRespond.responses g.S.FeedRespond.sites (Err c.in-Err.fault) _ _ was refl (returns-in-Err-clause-begun g c)
