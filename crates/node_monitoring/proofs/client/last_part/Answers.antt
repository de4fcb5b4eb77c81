use Rattle.std.proofs.Common.{◌∙◌}
use Rattle.node_monitoring.proofs.LastParts.{passed}
use Rattle.node_monitoring.proofs.client.last_part.Goals as goal

pub loop-more-preserved : goal.loop-more-preserved
loop-more-preserved c = passed _ _ _ c.in-Some.ensures.parts ∙ c.loop-more.invariant
