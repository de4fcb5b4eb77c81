use Rattle.std.proofs.Common.{◌∙◌, ap, arith, insert}
use Rattle.feed_core.proofs.Counts.{stop_reported}
use Rattle.feed_core.proofs.Steps.{insert-remove}
use Rattle.feed_core.proofs.step.stop_node_after.Goals as goal

pub returns : goal.returns
returns g c = record {
  before = c.remove.result;
  after = c.stop_after-node.result.0;
  was = c.remove.ensures.value;
  now = c.put_back.ensures ∙ ap (λ xs. insert xs c.args.at c.stop_after-node.result.0) c.remove.ensures.items ∙ insert-remove c.args.nodes.now.items c.args.at c.stop_after-node.result.0
      (omega (arith, c.requires.within, c.args.nodes.now.ok.0));
  was_clean = c.stop_after-node.ensures.clean;
  holds = (stop_reported _ _ c.stop_after-node.ensures.device, c.stop_after-node.ensures.loaded, λ h clean in_state. c.stop_after-node.ensures.right h clean in_state);
}
