use Rattle.std.proofs.Common.{◌∙◌, inl, inr}
use Rattle.node_machine.proofs.Asked.{noted_behind}
use Rattle.node_machine.proofs.Later.{later_advanced, later_served, room_same}
use Rattle.node_machine.proofs.machine.NodeMachine.serve_share.Goals as goal

pub returns-then-share-replies-clause-history : goal.returns-then-share-replies-clause-history
returns-then-share-replies-clause-history g c = λ history has. elim (c.serve_from_feed-progress.ensures.history history has) [
  | inl same ↦ inl (c.note_request.ensures.history history same)
  | inr (share, is) ↦ inr (share, c.note_request.ensures.history _ is)
]

pub returns-then-share-replies-clause-noted : goal.returns-then-share-replies-clause-noted
returns-then-share-replies-clause-noted g c less =
    let rest = c.serve_from_feed-progress.ensures.rest in
    noted_behind g.S.FeedRespond.wanted g.S.FeedRespond.responses g.S.FeedRespond.sites c.args.turn.key c.args.self.now c.serve_from_feed-progress.new.self c.note_request.new.self
    rest.fetching rest.token c.serve_from_feed-progress.ensures.requested c.serve_from_feed-progress.ensures.reload c.note_request.ensures.noted

pub returns-then-share-replies-clause-rest : goal.returns-then-share-replies-clause-rest
returns-then-share-replies-clause-rest g c = record {
  others = λ other differs. c.note_request.ensures.rest.others other differs ∙ c.serve_from_feed-progress.ensures.rest.others other differs;
  feed = c.note_request.ensures.rest.feed ∙ c.serve_from_feed-progress.ensures.rest.feed;
  fetching = c.note_request.ensures.rest.fetching ∙ c.serve_from_feed-progress.ensures.rest.fetching;
  responder = c.note_request.ensures.rest.responder ∙ c.serve_from_feed-progress.ensures.rest.responder;
  token = c.note_request.ensures.rest.token ∙ c.serve_from_feed-progress.ensures.rest.token;
  today = c.note_request.ensures.rest.today ∙ c.serve_from_feed-progress.ensures.rest.today;
}

pub returns-then-share-replies-clause-later : goal.returns-then-share-replies-clause-later
returns-then-share-replies-clause-later g c =
    later_advanced g.S.FeedRespond.wanted g.S.FeedRespond.responses g.S.FeedRespond.sites c.args.turn.key _ _
    (room_same c.args.self.now.feed c.note_request.new.self.feed (c.note_request.ensures.rest.feed ∙ c.serve_from_feed-progress.ensures.rest.feed)) (returns-then-share-replies-clause-history g c)

pub returns-else-share-replies-clause-later : goal.returns-else-share-replies-clause-later
returns-else-share-replies-clause-later g c =
    later_served g.S.FeedRespond.wanted g.S.FeedRespond.responses g.S.FeedRespond.sites c.args.turn.key _ _
    (room_same c.args.self.now.feed c.serve_from_feed-progress.new.self.feed c.serve_from_feed-progress.ensures.rest.feed) c.serve_from_feed-progress.ensures.history
