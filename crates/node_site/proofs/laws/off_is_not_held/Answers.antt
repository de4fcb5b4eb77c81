use Rattle.node_site.proofs.HeldDays.{off}
use Rattle.node_site.proofs.laws.off_is_not_held.Goals as goal

pub returns : goal.returns
returns c = off
