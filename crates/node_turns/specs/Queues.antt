-- The rest of a queue that a turn may serve.
use Rattle.std.specs.Prelude.{◌≡◌, ◌<◌, ◌&&◌, ◌||◌, ℕ, Bool, true, false, nat_lt, not, List, length}
use Rattle.node_turns.specs.declared.queue_rest.QueueRest.{QueueRest}

-- nothing was served yet of so many keys
abbrev pub IsWhole : ℕ → QueueRest → Type 0
IsWhole count rest = (rest.left ≡ count) × (rest.has_served ≡ false)

-- a turn serves another one of the queue: one that was ready when the turn began, while its time is not over, or if it has
-- served none of this queue
abbrev pub may_serve : Bool → QueueRest → Bool
may_serve is_over rest = nat_lt 0 rest.left && (not is_over || not rest.has_served)

-- and there is one
abbrev pub MayServe : Bool → QueueRest → List ℕ → Type 0
MayServe is_over rest waiting = (may_serve is_over rest ≡ true) × (0 < length waiting)
