use Rattle.std.proofs.Common.{[], sym, subst}
use Rattle.feed_model.specs.Content.{Content, IsContentWithin}
use Rattle.node_machine.specs.NodeEvents.{feed_history}
use Rattle.node_service.proofs.node_loop.run.Goals as goal

pub returns-in_default : goal.returns-in_default
returns-in_default g c = λ history is given clean.
    ([], subst (λ (content : Content). IsContentWithin c.args.feed.most content (feed_history history)) (sym (c.restart.ensures.content clean)) is, given)
