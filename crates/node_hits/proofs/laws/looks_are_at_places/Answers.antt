use Rattle.node_hits.proofs.PlacesAsked.{at_places}
use Rattle.node_hits.proofs.laws.looks_are_at_places.Goals as goal

pub returns : goal.returns
returns c = at_places
