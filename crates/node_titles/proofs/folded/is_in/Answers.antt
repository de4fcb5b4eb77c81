use Rattle.std.proofs.Common.{◌∙◌}
use Rattle.node_titles.proofs.Folds.{part_found}
use Rattle.node_titles.proofs.folded.is_in.Goals as goal

pub returns : goal.returns
returns c = c.is_some.ensures ∙ part_found c.args.finder.now c.args.text.now c.find.result c.find.ensures
