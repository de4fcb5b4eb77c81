-- The amounts added to the counters, with the tokens that were refused.
use Rattle.std.proofs.Common.{◌≡◌, ◌∷◌, ◌++◌, ℕ, List, length}
use Rattle.std.proofs.lemmas.Bool.{ne_eqb}
use Rattle.node_monitoring.specs.Counts.{Added, HasCounted, place_of}
use Rattle.node_monitoring.specs.declared.counter.Counter.TheVariants as counter
use Rattle.node_monitoring.specs.declared.log_line.LoggedExchange.{LoggedExchange}
use Rattle.node_monitoring.specs.Exchanges.{refused_by}

-- the bytes of a request
abbrev pub request_bytes : LoggedExchange → Added
request_bytes e = record { place = place_of counter.RequestBytes; amount = length e.received.bytes.now }

abbrev refusal : Added
refusal = record { place = place_of counter.RefusedToken; amount = 1 }

pub with_refusal : (counts : List ℕ) (status : ℕ) (bytes history : List Added) → status ≡ 401 → HasCounted counts (refusal ∷ (bytes ++ history))
    → HasCounted counts ((refused_by status ++ bytes) ++ history)
with_refusal counts status bytes history is counted = rw is counted

pub without_refusal : (counts : List ℕ) (status : ℕ) (bytes history : List Added) → (status ≡ 401 → ⊥) → HasCounted counts (bytes ++ history)
    → HasCounted counts ((refused_by status ++ bytes) ++ history)
without_refusal counts status bytes history not counted = rw (ne_eqb status 401 not) counted
