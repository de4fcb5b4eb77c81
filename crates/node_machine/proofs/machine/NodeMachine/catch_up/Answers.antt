use Rattle.std.proofs.Common.{sym, subst}
use Rattle.feed_model.specs.Content.{IsContentWithin}
use Rattle.feed_releases.specs.ReleaseValue.{ReleaseValue, content_of}
use Rattle.node_machine.specs.NodeEvents.{feed_history}
use Rattle.node_machine.proofs.Later.{later_kept}
use Rattle.node_machine.proofs.machine.NodeMachine.catch_up.Goals as goal
use Rattle.std.specs.Prelude.{ℕ, List}

pub returns-clause-history : goal.returns-clause-history
returns-clause-history g c = λ history has. record {
  connections = has.connections;
  feed = subst (λ (rs : List ReleaseValue). IsContentWithin c.catch_up.new.self.most (content_of rs) (feed_history history)) (sym c.catch_up.ensures.releases)
      (subst (λ (most : ℕ). IsContentWithin most (content_of c.args.self.now.feed.releases.items) (feed_history history)) (sym c.catch_up.ensures.room) has.feed);
  fetching = has.fetching;
  idle = has.idle;
  requested = has.requested;
  today = has.today;
  sites_had = has.sites_had;
  reload = has.reload;
  allowed = has.allowed;
  given = has.given;
}

pub returns-clause-later : goal.returns-clause-later
returns-clause-later g c = later_kept g.S.FeedRespond.wanted g.S.FeedRespond.responses g.S.FeedRespond.sites _ _ c.catch_up.ensures.room (returns-clause-history g c)
