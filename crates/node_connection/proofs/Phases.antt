-- Which phases are over, and what time does to them.
use Rattle.std.proofs.Common.{◌≡◌, ◌≢◌, ◌<◌, ◌≤◌, ℕ, List, ◌∷◌, length, arith}
use Rattle.node_connection.specs.declared.connection.Connection.{Connection}
use Rattle.node_connection.specs.declared.phase.ConnectionPhase.{ConnectionPhase}
use Rattle.node_connection.specs.declared.phase.ConnectionPhase.TheVariants.{Idle, Receiving, Parsing, Sending, Answered, Lingering, Complete, Aborted}
use Rattle.node_connection.specs.declared.head_state.AfterResponse.{AfterResponse}
use Rattle.node_connection.specs.declared.head_state.AfterResponse.TheVariants.{Persist, Linger, Receive}
use Rattle.node_connection.specs.declared.phase.Wants.TheVariants as wants
use Rattle.node_connection.specs.Events.{Event, Elapsed}
use Rattle.node_connection.specs.States.{HasState, HasStateIn, pending_in, phase_after, wants_in}

-- some of its response remains to be sent
pub pending_lingers : (phase : ConnectionPhase) (connection : Connection) (count : ℕ) → 0 < count → count ≤ length (pending_in phase connection) → phase ≢ Complete
pending_lingers Idle connection count some within = λ same. absurd (cc)
pending_lingers Receiving connection count some within = λ same. absurd (cc)
pending_lingers Parsing connection count some within = λ same. absurd (cc)
pending_lingers Sending connection count some within = λ same. absurd (cc)
pending_lingers Answered connection count some within = λ same. absurd (cc)
pending_lingers Lingering connection count some within = λ same. absurd (cc)
pending_lingers Complete connection count some within = absurd (omega (arith, some, within))
pending_lingers Aborted connection count some within = λ same. absurd (cc)

-- its response was sent
pub after_lingers : (after : AfterResponse) → phase_after after ≢ Complete
after_lingers Persist = λ same. absurd (cc)
after_lingers Linger = λ same. absurd (cc)
after_lingers Receive = λ same. absurd (cc)

later_in : (phase : ConnectionPhase) (connection : Connection) (history : List Event) (millis : ℕ) → wants_in phase ≡ wants.Close
    → HasStateIn phase connection history → HasStateIn phase connection (Elapsed millis ∷ history)
later_in Idle connection history millis over state = absurd (cc)
later_in Receiving connection history millis over state = absurd (cc)
later_in Parsing connection history millis over state = absurd (cc)
later_in Sending connection history millis over state = absurd (cc)
later_in Answered connection history millis over state = absurd (cc)
later_in Lingering connection history millis over state = absurd (cc)
later_in Complete connection history millis over state = record { ended = state.ended; sent = state.sent; freed = state.freed }
later_in Aborted connection history millis over state = state

-- the time that passes changes nothing of a connection that is over
pub over_elapsed : (connection : Connection) (history : List Event) (millis : ℕ) → wants_in connection.phase ≡ wants.Close
    → HasState connection history → HasState connection (Elapsed millis ∷ history)
over_elapsed connection history millis over state = (later_in connection.phase connection history millis over state.0, state.1, state.2)
