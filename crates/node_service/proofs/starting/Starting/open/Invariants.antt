use Rattle.std.proofs.Common.{◌≡◌}
use Rattle.feed_releases.specs.Openings.{opening_keeper, opening_most}
use Rattle.node_service.specs.Starting.{IsLaterStart}
use Rattle.node_service.proofs.starting.Starting.open.Given as goal

abbrev pub invariant-loop : goal.invariant-loop
invariant-loop g l = (opening_keeper l.rest ≡ opening_keeper l.fn.opening) × (opening_most l.rest ≡ opening_most l.fn.opening) × IsLaterStart l.fn.node l.node
