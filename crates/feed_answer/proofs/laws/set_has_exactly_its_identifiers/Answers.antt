use Rattle.feed_answer.proofs.Members.{has_just_its_identifiers}
use Rattle.feed_answer.proofs.laws.set_has_exactly_its_identifiers.Goals as goal

pub returns : goal.returns
returns c = has_just_its_identifiers
