use Rattle.std.proofs.Common.{refl}
use Rattle.node_machine.proofs.Connections.{at_passed, millis_at}
use Rattle.node_machine.specs.NodeEvents.{Passed}
use Rattle.node_machine.proofs.Later.{later_by}
use Rattle.node_machine.proofs.machine.NodeMachine.advance_clock.Goals as goal

pub returns-clause-history : goal.returns-clause-history
returns-clause-history g c = λ history has. (
  millis_at c.args.self.now.table c.args.now,
  record {
    connections = at_passed c.args.now c.args.self.now.table c.advance_clock.new.self history c.advance_clock.ensures.elapsed has.connections;
    feed = has.feed;
    fetching = has.fetching;
    idle = has.idle;
    requested = has.requested;
    today = has.today;
    sites_had = has.sites_had;
    reload = has.reload;
    allowed = has.allowed;
    given = has.given;
  },
)

pub returns-clause-later : goal.returns-clause-later
unfolding returns-clause-history
returns-clause-later g c =
    later_by g.S.FeedRespond.wanted g.S.FeedRespond.responses g.S.FeedRespond.sites (Passed (millis_at c.args.self.now.table c.args.now)) _ _ refl
    (λ history has. (returns-clause-history g c history has).1)
