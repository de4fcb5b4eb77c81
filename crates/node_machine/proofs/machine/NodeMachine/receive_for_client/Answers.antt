use Rattle.node_machine.proofs.Later.{later_after, later_served, room_same}
use Rattle.node_machine.proofs.machine.NodeMachine.receive_for_client.Goals as goal

pub returns-clause-later : goal.returns-clause-later
returns-clause-later g c =
    later_after c.args.self.now c.serve_from_feed-progress.new.self c.follow_receiving.new.self
    (later_served g.S.FeedRespond.wanted g.S.FeedRespond.responses g.S.FeedRespond.sites c.args.turn.key _ _
    (room_same c.args.self.now.feed c.serve_from_feed-progress.new.self.feed c.serve_from_feed-progress.ensures.rest.feed) c.serve_from_feed-progress.ensures.history)
    c.follow_receiving.ensures.later

pub returns-clause-received : goal.returns-clause-received
returns-clause-received g c = λ waits. record {
  middle = c.serve_from_feed-progress.new.self.table;
  progress = c.serve_from_feed-progress.result;
  outcome = c.follow_receiving.result;
  left = c.serve_from_feed-progress.new.share;
  others = c.serve_from_feed-progress.ensures.rest.others;
  used = c.serve_from_feed-progress.ensures.used;
  received = c.serve_from_feed-progress.ensures.received;
  ready = c.follow_receiving.ensures.ready;
  settled = c.follow_receiving.ensures.settled;
}
