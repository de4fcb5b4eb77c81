use Rattle.node_resolver.proofs.Requests.{form_is_get}
use Rattle.node_resolver.proofs.laws.form_is_get.Goals as goal

pub returns : goal.returns
returns c = form_is_get
