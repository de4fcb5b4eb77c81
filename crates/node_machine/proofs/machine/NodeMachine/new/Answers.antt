use Rattle.std.proofs.Common.{◌∷◌, inl, refl}
use Rattle.node_machine.specs.NodeEvents.{DayBegan, SitesBegan, Reopened}
use Rattle.node_machine.proofs.Connections.{at_empty}
use Rattle.node_machine.proofs.machine.NodeMachine.new.Goals as goal

pub returns-clause-history : goal.returns-clause-history
returns-clause-history g c = λ history is given. record {
  connections = at_empty c.args.table (SitesBegan (g.S.FeedRespond.sites c.args.responder) ∷ DayBegan c.args.today ∷ Reopened ∷ history) c.requires;
  feed = is;
  fetching = λ fetching e. absurd (cc);
  idle = λ e. refl;
  requested = refl;
  today = refl;
  sites_had = refl;
  reload = refl;
  allowed = (inl refl, tt);
  given = given;
}
