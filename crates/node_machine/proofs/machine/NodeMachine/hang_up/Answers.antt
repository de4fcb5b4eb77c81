use Rattle.node_machine.proofs.Later.{later_after, later_served, room_same}
use Rattle.node_machine.proofs.machine.NodeMachine.hang_up.Goals as goal

pub returns-clause-later : goal.returns-clause-later
returns-clause-later g c =
    later_after c.args.self.now c.serve_from_feed-progress.new.self c.settle.new.self
    (later_served g.S.FeedRespond.wanted g.S.FeedRespond.responses g.S.FeedRespond.sites c.args.turn.key _ _
    (room_same c.args.self.now.feed c.serve_from_feed-progress.new.self.feed c.serve_from_feed-progress.ensures.rest.feed) c.serve_from_feed-progress.ensures.history)
    c.settle.ensures.later

pub returns-clause-ended : goal.returns-clause-ended
returns-clause-ended g c = λ lingers. record {
  middle = c.serve_from_feed-progress.new.self.table;
  progress = c.serve_from_feed-progress.result;
  outcome = c.settle.result;
  others = c.serve_from_feed-progress.ensures.rest.others;
  moved = c.serve_from_feed-progress.ensures.moved;
  still = c.serve_from_feed-progress.ensures.still;
  received = c.serve_from_feed-progress.ensures.received;
  settled = c.settle.ensures.settled;
}
