use Rattle.node_service.proofs.Agreement.{agree, hits}
use Rattle.node_service.proofs.laws.nodes_agree.Goals as goal

pub returns-clause-agree : goal.returns-clause-agree
returns-clause-agree c = agree c.published_files_are_kept.ensures c.same_releases_same_node_bytes.ensures

pub returns-clause-published : goal.returns-clause-published
returns-clause-published c = hits c.published_files_are_kept.ensures
