use Rattle.std.proofs.Common.{refl}
use Rattle.node_machine.specs.NodeEvents.{DayBegan}
use Rattle.node_machine.proofs.Later.{later_by}
use Rattle.node_machine.proofs.machine.NodeMachine.begin_day.Goals as goal

pub returns-clause-later : goal.returns-clause-later
returns-clause-later g c = later_by g.S.FeedRespond.wanted g.S.FeedRespond.responses g.S.FeedRespond.sites (DayBegan c.args.today) _ _ refl (λ history has. record {
  connections = has.connections;
  feed = has.feed;
  fetching = has.fetching;
  idle = has.idle;
  requested = has.requested;
  today = refl;
  sites_had = has.sites_had;
  reload = has.reload;
  allowed = has.allowed;
  given = has.given;
})
