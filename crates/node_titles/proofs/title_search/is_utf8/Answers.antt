use Rattle.std.proofs.Common.{◌∙◌}
use Rattle.node_titles.proofs.Folds.{utf8_read}
use Rattle.node_titles.proofs.title_search.is_utf8.Goals as goal

pub returns : goal.returns
returns c = c.is_ok.ensures.value ∙ utf8_read _ _ c.args.text.now c.from_utf8.result c.from_utf8.ensures.cases
