use Rattle.node_connection.proofs.Phases.{over_elapsed}
use Rattle.node_connection.proofs.connection.Connection.advance_clock.Goals as goal

pub returns-then-millis-saturating_sub-clause-state : goal.returns-then-millis-saturating_sub-clause-state
returns-then-millis-saturating_sub-clause-state c = λ history state.
    over_elapsed c.end.new.self history c.args.millis c.end.ensures.over (c.end.ensures.state history state)
