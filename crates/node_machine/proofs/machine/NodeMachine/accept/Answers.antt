use Rattle.node_machine.proofs.Connections.{at_accepted}
use Rattle.std.proofs.Common.{Some}
use Rattle.node_machine.proofs.Later.{later_accepted}
use Rattle.node_machine.proofs.machine.NodeMachine.accept.Goals as goal

pub returns-clause-history : goal.returns-clause-history
returns-clause-history g c = λ history was.
    let has = c.make_room_if_full.ensures.history history was in
    record {
      connections = at_accepted c.insert-key.result c.make_room_if_full.new.self.table c.insert-key.new.self history c.insert-key.ensures.others
          c.insert-key.ensures.fresh has.connections;
      feed = has.feed;
      fetching = has.fetching;
      idle = has.idle;
      requested = has.requested;
      today = has.today;
      sites_had = has.sites_had;
      reload = has.reload;
      allowed = has.allowed;
      given = has.given;
    }

pub returns-clause-later : goal.returns-clause-later
returns-clause-later g c = later_accepted g.S.FeedRespond.wanted g.S.FeedRespond.responses g.S.FeedRespond.sites (Some c.insert-key.result) _ _
    c.make_room_if_full.ensures.room (returns-clause-history g c)
