use Rattle.std.proofs.Common.{◌≡◌}
use Rattle.node_response.proofs.digested_holdings.DigestedReading.finish.Given as goal

-- the reading is of this text
abbrev pub invariant-steps : goal.invariant-steps
invariant-steps l = l.reading.text ≡ l.fn.self.text

abbrev pub decreases-steps : goal.decreases-steps
decreases-steps l = l.reading.left
