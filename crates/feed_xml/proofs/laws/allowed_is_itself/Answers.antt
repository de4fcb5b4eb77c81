use Rattle.feed_xml.proofs.CharactersAllowed.{allowed_again}
use Rattle.feed_xml.proofs.laws.allowed_is_itself.Goals as goal

pub returns : goal.returns
returns c = allowed_again
