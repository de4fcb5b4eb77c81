use Rattle.node_links.proofs.Fillings.{parts_add_no_marks}
use Rattle.node_links.proofs.laws.parts_add_no_marks.Goals as goal

pub returns : goal.returns
returns c = parts_add_no_marks
