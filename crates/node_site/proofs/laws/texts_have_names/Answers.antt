use Rattle.node_site.proofs.Replaceable.{texts_have_names}
use Rattle.node_site.proofs.laws.texts_have_names.Goals as goal

pub returns : goal.returns
returns c = texts_have_names
