-- A transcript as seen at some of the nodes: without the events of the others.
use Rattle.std.specs.Prelude.{ℕ, Bool, true, if◌then◌else◌, List, [], ◌∷◌, Option, Some, None}
use Rattle.std.specs.Option.{option_map_or}
use Rattle.feed_world.specs.World.{WorldEvent, Publish, Tell, Restart, StopBefore, StopAfter, Report, Ask, Line}

-- the number of the node of an event
abbrev pub node_of : WorldEvent → Option ℕ
node_of (Publish n bytes) = None
node_of (Tell i sent) = Some i
node_of (Restart i) = Some i
node_of (StopBefore i sent) = Some i
node_of (StopAfter i sent) = Some i
node_of (Report i package_name) = Some i
node_of (Ask i package_name query) = Some i

-- the event is a publication, or at a chosen node
abbrev pub is_on : (ℕ → Bool) → WorldEvent → Bool
is_on chosen event = option_map_or chosen (node_of event) true

-- the events without those of the other nodes
abbrev pub events_on : (ℕ → Bool) → List WorldEvent → List WorldEvent
events_on chosen [] = []
events_on chosen (event ∷ events) = if is_on chosen event then event ∷ events_on chosen events else events_on chosen events

-- the lines of the events that remain
abbrev pub lines_on : (ℕ → Bool) → List WorldEvent → List Line → List Line
lines_on chosen [] lines = []
lines_on chosen (event ∷ events) [] = []
lines_on chosen (event ∷ events) (line ∷ lines) = if is_on chosen event then line ∷ lines_on chosen events lines else lines_on chosen events lines
