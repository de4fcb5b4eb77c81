use Rattle.std.proofs.Common.{sym, subst}
use Rattle.feed_model.specs.Content.{Content, IsContentWithin}
use Rattle.node_machine.specs.NodeEvents.{feed_history}
use Rattle.node_machine.proofs.machine.NodeMachine.into_keeper.Goals as goal

pub returns : goal.returns
returns g c = λ history has clean.
    (subst (λ (content : Content). IsContentWithin c.args.self.feed.most content (feed_history history)) (sym (c.restart.ensures.content clean)) has.feed, has.given)
