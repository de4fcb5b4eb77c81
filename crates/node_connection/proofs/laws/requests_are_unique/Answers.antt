use Rattle.node_connection.proofs.Exchanges.{one_list}
use Rattle.node_connection.proofs.laws.requests_are_unique.Goals as goal

pub returns : goal.returns
returns c = λ bytes these those rest others a b. one_list these those bytes rest others a b
