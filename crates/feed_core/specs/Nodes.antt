-- The model of a node in a world.
use Rattle.std.specs.Prelude.{◌≡◌, ◌≢◌, ◌⊎◌, ◌∷◌, ℕ, Bool, true, false, List, [], Result, Ok, Err}
use Rattle.feed_model.specs.declared.keep_fault.KeepFault as cause
use Rattle.feed_model.specs.declared.keep_fault.KeepFault.TheVariants as causes
use Rattle.feed_model.specs.History.{Event, Answer, History}
use Rattle.feed_model.specs.Reply.{IsRight}
use Rattle.feed_model.specs.Content.{Content}
use Rattle.feed_world.specs.declared.line.Why as why
use Rattle.feed_world.specs.World.{Line, Text, Refused}
use Rattle.feed_releases.specs.declared.feed.Event as code_event
use Rattle.feed_releases.specs.declared.feed.Point.{Point}
use Rattle.feed_releases.specs.declared.feed.Point.TheVariants.{Before, After}
use Rattle.feed_releases.specs.Events.{event_of}

-- the node is up, or it is down because memory ran out or its device failed; either way it has this history
abbrev pub IsReopened : {U : Type 0} → (Bool → History → Type 0) → History → Result U cause.KeepFault → Type 0
IsReopened has_state h (Ok u) = has_state true h
IsReopened has_state h (Err fault) = ((fault ≡ causes.Memory) ⊎ (fault ≡ causes.Device)) × has_state false h

-- the node stopped at this point of an event, and was opened again: before the commit its history is as it was, and
-- after the commit the event and a right answer are added
abbrev pub HasStopped : {U : Type 0} → (Bool → History → Type 0) → Point → Event → History → Result U cause.KeepFault → Type 0
HasStopped has_state Before event h outcome = IsReopened has_state h outcome
HasStopped has_state After event h outcome = (answer : Answer) × IsRight h event answer × IsReopened has_state ((event, answer) ∷ h) outcome

-- the line that shows the outcome of a query
abbrev pub shown_outcome : {T : Type 0} → (T → List ℕ) → Result T why.Why → Line
shown_outcome bytes (Ok text) = Text (bytes text)
shown_outcome bytes (Err why) = Refused why

-- the model value of what arrives at a node, or why nothing does
abbrev pub shown_arrived : Result code_event.Event why.Why → Result Event why.Why
shown_arrived (Ok event) = Ok (event_of event)
shown_arrived (Err why) = Err why

-- why a node does not start, except for running out of memory: its device failed; or its keeper is clean and has
-- records
abbrev pub IsStartRefused : Type 0 → Type 0 → Type 0 → Content → Type 0
IsStartRefused failed clean listed content = failed ⊎ (clean → listed → content ≢ [])
