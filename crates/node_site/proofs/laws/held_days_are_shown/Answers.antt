use Rattle.node_site.proofs.HeldDays.{shown}
use Rattle.node_site.proofs.laws.held_days_are_shown.Goals as goal

pub returns : goal.returns
returns c = shown
