use Rattle.feed_xml.proofs.CharactersAllowed.{no_controls}
use Rattle.feed_xml.proofs.laws.allowed_has_no_controls.Goals as goal

pub returns : goal.returns
returns c = no_controls
