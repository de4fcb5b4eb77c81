use Rattle.node_resolver.proofs.StatusTexts.{status_read}
use Rattle.node_resolver.proofs.laws.status_is_json.Goals as goal

pub returns : goal.returns
returns c = status_read
