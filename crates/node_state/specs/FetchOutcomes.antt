-- The outcomes of fetches.
use Rattle.std.specs.Prelude.{ℕ, ◌==◌, Bool, if◌then◌else◌}
use Rattle.feed_fetch.specs.declared.stop.Stop.{Stop}
use Rattle.feed_fetch.specs.declared.stop.Stop.TheVariants as stops
use Rattle.feed_fetch.specs.declared.fetch_end.FetchEnd.{FetchEnd}
use Rattle.feed_fetch.specs.declared.fetch_end.FetchEnd.TheVariants.{Done, Stopped}
use Rattle.node_monitoring.specs.declared.counter.Counter.{Counter}
use Rattle.node_monitoring.specs.declared.counter.Counter.TheVariants as counter
use Rattle.node_state.specs.declared.fetch_outcome.FetchOutcome.{FetchOutcome}
use Rattle.node_state.specs.declared.fetch_outcome.FetchOutcome.TheVariants as outcomes

-- the outcome of a fetch that stopped so; one that runs out of memory for its lines is refused by the node
abbrev pub outcome_of : Stop → FetchOutcome
outcome_of stops.Older = outcomes.Older
outcome_of stops.Broken = outcomes.Broken
outcome_of stops.Missing = outcomes.Missing
outcome_of (stops.Refused refusal) = outcomes.Refused
outcome_of stops.Print = outcomes.Refused
outcome_of _ = outcomes.Network

-- the outcome of a fetch that ended so, with this exit status; one that is done ends with 0 exactly if the release is
-- reported, which it was before or not
abbrev pub outcome_after : FetchEnd → ℕ → Bool → FetchOutcome
outcome_after Done status was_reported =
    if status == 0 then (if was_reported then outcomes.Known else outcomes.Activated)
    else outcomes.Broken
outcome_after (Stopped stop) status was_reported = outcome_of stop
outcome_after _ status was_reported = outcomes.Network

-- the counter of the fetches with this outcome
abbrev pub fetch_counter : FetchOutcome → Counter
fetch_counter outcomes.Activated = counter.FetchActivated
fetch_counter outcomes.Known = counter.FetchKnown
fetch_counter outcomes.Older = counter.FetchOlder
fetch_counter outcomes.Broken = counter.FetchBroken
fetch_counter outcomes.Missing = counter.FetchMissing
fetch_counter outcomes.Refused = counter.FetchRefused
fetch_counter outcomes.Held = counter.FetchHeld
fetch_counter outcomes.Network = counter.FetchNetwork
