use Rattle.cmd_scholar.proofs.Found.{item_found}
use Rattle.cmd_scholar.proofs.laws.item_has_row.Goals as goal

pub returns : goal.returns
returns c = item_found
