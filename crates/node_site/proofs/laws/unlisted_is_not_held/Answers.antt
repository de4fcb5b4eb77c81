use Rattle.node_site.proofs.HeldDays.{unlisted_not_held}
use Rattle.node_site.proofs.laws.unlisted_is_not_held.Goals as goal

pub returns : goal.returns
returns c = unlisted_not_held
