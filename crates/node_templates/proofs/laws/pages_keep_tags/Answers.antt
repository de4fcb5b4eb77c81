use Rattle.node_templates.proofs.Keeping.{page_keeps}
use Rattle.node_templates.proofs.laws.pages_keep_tags.Goals as goal

pub returns : goal.returns
returns c = page_keeps
