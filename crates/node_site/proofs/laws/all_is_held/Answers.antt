use Rattle.node_site.proofs.HeldDays.{all_held}
use Rattle.node_site.proofs.laws.all_is_held.Goals as goal

pub returns : goal.returns
returns c = all_held
