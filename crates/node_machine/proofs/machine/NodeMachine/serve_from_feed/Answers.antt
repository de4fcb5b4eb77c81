use Rattle.std.proofs.Common.{◌≡◌, ◌∙◌, ap, sym, subst}
use Rattle.std.specs.Prelude.{Option, Some, is_some, option_copied}
use Rattle.feed_answer.specs.Today.{TodayValue}
use Rattle.feed_model.specs.Content.{IsContent}
use Rattle.feed_releases.specs.Feeds.{recorded}
use Rattle.node_request.specs.FetchRequests.{FetchPolicyValue}
use Rattle.node_request.specs.declared.sites_target.SitesRequest.{SitesRequest}
use Rattle.node_machine.specs.NodeEvents.{busy_in, feed_history, reloading_in, sites_in, today_in}
use Rattle.node_machine.specs.Occasions.{IsResponseOn}
use Rattle.node_machine.proofs.Busy.{busy_is}
use Rattle.node_machine.proofs.Shares.{MovesBy, reply_to, serve_moves}
use Rattle.node_machine.proofs.Tabled.{moved}
use Rattle.node_machine.proofs.machine.NodeMachine.serve_from_feed.Goals as goal

pub returns-clause-history : goal.returns-clause-history
returns-clause-history g c = λ history has.
    let moment = c.new-moment.result in
    let token = option_copied c.args.self.now.token in
    let content = subst (λ feed. IsContent (recorded {K = g.row.K.Denot} {k = g.K.Keep} feed) (feed_history history)) (sym c.new-moment.ensures.feed) has.feed in
    let named : moment.occasion.policy.token ≡ token = ap (λ (policy : FetchPolicyValue). policy.token) c.new-moment.ensures.policy ∙ c.policy-policy.ensures.token in
    let busy : moment.occasion.policy.is_busy ≡ busy_in history = ap (λ (policy : FetchPolicyValue). policy.is_busy) c.new-moment.ensures.policy ∙ c.policy-policy.ensures.busy
    ∙ sym (busy_is g.S.FeedRespond.wanted g.S.FeedRespond.responses g.S.FeedRespond.sites c.args.self.now history has) in
    let reloading : moment.occasion.policy.is_reloading ≡ reloading_in history = ap (λ (policy : FetchPolicyValue). policy.is_reloading) c.new-moment.ensures.policy
    ∙ c.policy-policy.ensures.reloading ∙ sym (ap (λ (r : Option SitesRequest). is_some r) has.reload) in
    let sites = g.S.FeedRespond.sites moment.responder.now in
    let had : sites_in history ≡ Some sites = has.sites_had ∙ ap (λ responder. Some (g.S.FeedRespond.sites responder)) (sym c.new-moment.ensures.responder) in
    let day : today_in history ≡ Some moment.occasion.today = has.today ∙ ap (λ (today : TodayValue). Some today) (sym c.new-moment.ensures.today) in
    let moves = serve_moves (g.S.FeedRespond.wanted moment.responder.now, g.S.FeedRespond.responses moment.responder.now)
    (IsResponseOn (g.S.FeedRespond.responses moment.responder.now) sites moment.occasion) token moment.occasion.is_local moment.occasion.today sites c.args.turn.key c.serve_peer.result
    c.args.share.now c.serve_peer.new.share c.args.self.now.table c.serve_peer.new.self history
    (reply_to (g.S.FeedRespond.responses moment.responder.now) sites moment.occasion token (busy_in history) (reloading_in history) (feed_history history) named busy reloading content)
    c.serve_peer.ensures.served c.serve_peer.ensures.others c.serve_peer.ensures.absent has.connections day had in
    moved g.S.FeedRespond.wanted g.S.FeedRespond.responses g.S.FeedRespond.sites c.args.self.now c.serve_peer.new.self c.args.turn.key history
    (subst (λ responder. MovesBy (g.S.FeedRespond.wanted responder, g.S.FeedRespond.responses responder) token c.args.turn.key c.serve_peer.new.self history) c.new-moment.ensures.responder moves) has

pub returns-clause-moved : goal.returns-clause-moved
returns-clause-moved g c = λ peer is.
    let next = c.serve_peer.ensures.served peer is in
    (next.0, next.1, λ history state. let moved = next.2.moved history state in (moved.more, moved.state))

pub returns-clause-used : goal.returns-clause-used
returns-clause-used g c = λ peer is.
    let next = c.serve_peer.ensures.served peer is in (
      next.0,
      next.1,
      (λ history state. let moved = next.2.moved history state in record {
        more = moved.more;
        state = moved.state;
        bytes_counted = moved.bytes_counted;
        replies_covered = moved.replies_covered;
      }),
      next.2.stopped,
    )
