use Rattle.node_resolver.proofs.WholeTexts.{whole_text}
use Rattle.node_resolver.proofs.laws.whole_text_is_written.Goals as goal

pub returns : goal.returns
returns c = whole_text
