use Rattle.node_hits.proofs.HitTexts.{hits_read}
use Rattle.node_hits.proofs.laws.hits_are_json.Goals as goal

pub returns : goal.returns
returns c = hits_read
