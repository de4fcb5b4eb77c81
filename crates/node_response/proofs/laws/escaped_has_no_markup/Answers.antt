use Rattle.node_response.proofs.EscapedTexts.{no_markup}
use Rattle.node_response.proofs.laws.escaped_has_no_markup.Goals as goal

pub returns : goal.returns
returns c = no_markup
