use Rattle.node_hits.proofs.AnswerTexts.{answer_read}
use Rattle.node_hits.proofs.laws.answer_is_json.Goals as goal

pub returns : goal.returns
returns c = answer_read
