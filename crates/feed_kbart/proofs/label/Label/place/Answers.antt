use Rattle.feed_kbart.proofs.Labels.{placed}
use Rattle.feed_kbart.proofs.label.Label.place.Goals as goal

pub returns : goal.returns
returns c = placed c.args.self
