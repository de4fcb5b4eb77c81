use Rattle.node_links.proofs.LinksMade.{parts_are_no_steps}
use Rattle.node_links.proofs.laws.parts_are_no_steps.Goals as goal

pub returns : goal.returns
returns c = parts_are_no_steps
