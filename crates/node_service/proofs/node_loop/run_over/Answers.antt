use Rattle.std.proofs.Common.{ℕ, List, [], ◌∷◌, ◌++◌, ◌∙◌, sym, subst, append_assoc}
use Rattle.node_request.specs.Forms.{form_length}
use Rattle.feed_model.specs.Content.{IsContentWithin}
use Rattle.node_server.specs.declared.socket.Socket.{Socket}
use Rattle.node_machine.specs.declared.machine.NodeMachine.{NodeMachine}
use Rattle.node_machine.specs.NodeEvents.{NodeEvent, DayBegan, Reopened, SitesBegan, feed_history}
use Rattle.node_machine.specs.Rules.{AreGiven}
use Rattle.node_machine.specs.Nodes.{HasHistory}
use Rattle.node_machine.proofs.Later.{room_as}
use Rattle.node_service.specs.declared.responder.FeedResponder.{FeedResponder}
use Rattle.node_sites.specs.declared.node_sites.NodeSites.{NodeSites}
use Rattle.node_service.specs.Responders.{IsTurnText}
use Rattle.node_service.proofs.node_loop.run_over.Goals as goal

pub returns : goal.returns
returns g c = λ history is given clean.
    let opened = SitesBegan c.args.setup.sites ∷ DayBegan c.today.result ∷ Reopened ∷ [] in
    let start = subst (λ (node : NodeMachine Socket g.row.K.Denot FeedResponder g.K.Keep).
    HasHistory (λ responder head. form_length head) IsTurnText (λ (responder : FeedResponder). responder.sites) node (opened ++ history))
    (sym c.keep_releases.ensures) (c.new-node.ensures.history history is given) in
    let now = c.run-end.ensures.history (opened ++ history) start in
    let room = c.run-end.ensures.room ∙ room_as c.new-node.result c.keep_releases.new.self c.keep_releases.ensures ∙ c.new-node.ensures.room in
    let content = g.K.Keep.content c.into_keeper.result in
    let kept = subst (λ (whole : List (NodeEvent NodeSites)). IsContentWithin c.args.feed.most content (feed_history whole) × AreGiven whole) (sym (append_assoc now.0 opened history))
    (subst (λ (most : ℕ). IsContentWithin most content (feed_history (now.0 ++ (opened ++ history))) × AreGiven (now.0 ++ (opened ++ history))) room
    (c.into_keeper.ensures (now.0 ++ (opened ++ history)) now.1 clean)) in
    (now.0 ++ opened, kept.0, kept.1)
