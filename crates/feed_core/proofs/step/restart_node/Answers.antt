use Rattle.std.proofs.Common.{◌∙◌, ap, arith, insert}
use Rattle.feed_core.proofs.Counts.{opening_reported}
use Rattle.feed_core.proofs.Steps.{insert-remove}
use Rattle.feed_core.proofs.step.restart_node.Goals as goal

pub returns : goal.returns
returns g c = record {
  before = c.remove.result;
  after = c.restart-node.result.0;
  was = c.remove.ensures.value;
  now = c.put_back.ensures ∙ ap (λ xs. insert xs c.args.at c.restart-node.result.0) c.remove.ensures.items ∙ insert-remove c.args.nodes.now.items c.args.at c.restart-node.result.0
      (omega (arith, c.requires.within, c.args.nodes.now.ok.0));
  was_clean = c.restart-node.ensures.clean;
  holds = (
    opening_reported c.restart-node.result.1 _ _ c.restart-node.ensures.device,
    c.restart-node.ensures.loaded,
    λ up h clean in_state. c.restart-node.ensures.same up h clean in_state,
  );
}
