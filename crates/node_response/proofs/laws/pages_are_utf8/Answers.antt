use Rattle.node_response.proofs.Utf8Texts.{pages_in_utf8}
use Rattle.node_response.proofs.laws.pages_are_utf8.Goals as goal

pub returns : goal.returns
returns c = pages_in_utf8
