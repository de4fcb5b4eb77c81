-- The amounts that the counters have counted.
use Rattle.std.specs.Prelude.{◌≡◌, ◌+◌, ◌-◌, ◌*◌, ◌^◌, ◌==◌, ℕ, min, nat_lt, List, sum_by, slice_index, if◌then◌else◌}
use Rattle.node_monitoring.specs.declared.counter.Counter.{Counter}
use Rattle.node_monitoring.specs.declared.request_kind.Target.{Target}
use Rattle.node_monitoring.specs.declared.request_kind.StatusClass.{StatusClass}
use Rattle.node_monitoring.specs.declared.request_kind.StatusClass.TheVariants as class
use Rattle.node_monitoring.specs.declared.request_kind.TheConstants.{CLASS_COUNT}
use Rattle.node_monitoring.specs.contracts.counter.Counter as counter
use Rattle.node_monitoring.specs.contracts.request_kind.Target as target
use Rattle.node_monitoring.specs.contracts.request_kind.StatusClass as status_class
use denote.Enum.Declared.{tag_of}

-- an amount that was added to the counter at a place
pub record Added : Type 0 where
  pub place : ℕ
  pub amount : ℕ

-- what was added to the counter at a place
abbrev pub amount_at : ℕ → Added → ℕ
amount_at k added = if added.place == k then added.amount else 0

-- the sum of what was added to the counter at a place, each amount once
abbrev pub total_at : ℕ → List Added → ℕ
total_at k history = sum_by (amount_at k) history

-- a counter stops at the greatest number of 64 bits
abbrev pub capped : ℕ → ℕ
capped n = min n (2 ^ 64 - 1)

-- each counter has the sum of what was added to it; a place without a counter has 0, so nothing was added there
abbrev pub HasCounted : List ℕ → List Added → Type 0
HasCounted counts history = (k : ℕ) → slice_index counts k ≡ capped (total_at k history)

-- the place of a counter among all
abbrev pub place_of : Counter → ℕ
place_of c = tag_of counter.the_type c

-- the class of a status
abbrev pub class_of : ℕ → StatusClass
class_of status =
    if nat_lt status 300 then class.Successful
    else (if nat_lt status 400 then class.Redirection
    else (if nat_lt status 500 then class.ClientError
    else class.ServerError))

-- the place of the counter of a target and a class
abbrev pub request_place : Target → StatusClass → ℕ
request_place name code = tag_of target.the_type name * CLASS_COUNT + tag_of status_class.the_type code
