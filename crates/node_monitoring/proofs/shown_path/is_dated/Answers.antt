use Rattle.std.proofs.Common.{◌∙◌}
use Rattle.node_monitoring.proofs.PlainLines.{dated}
use Rattle.node_monitoring.proofs.shown_path.is_dated.Goals as goal

pub returns : goal.returns
returns c = c.is_some.ensures ∙ dated _ _ c.read_date.ensures
