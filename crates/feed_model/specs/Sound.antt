-- The properties of every content of a feed, whatever its history.
use Rattle.std.specs.Prelude.{◌≡◌, ◌≢◌, ◌<◌, ◌≤◌, ℕ, List, Option, None, length, All}
use Rattle.std.specs.List.{IsDistinct}
use Rattle.feed_names.specs.ReleaseName.{name_eq}
use Rattle.feed_kbart.specs.declared.fault.BadFile.{BadFile}
use Rattle.feed_model.specs.declared.state.State.{State}
use Rattle.feed_model.specs.declared.state.State.TheVariants.{Staged, Broken, Active}
use Rattle.feed_model.specs.File.{fault_of}
use Rattle.feed_model.specs.Reply.{max_file, missing_below}
use Rattle.feed_model.specs.Content.{Part, Record, Recorded, names, byte_in, end_of, IsText, AreParts}
use Rattle.feed_model.specs.Handles.{HasLaterActive}

-- the parts match the state: a staged release misses a place; a broken one has a complete, bad file; an active one has
-- a complete, good file
abbrev pub IsStateOf : State → ℕ → List Part → Type 0
IsStateOf Staged size parts = 0 < missing_below (byte_in parts) size
IsStateOf Broken size parts = (text : List ℕ) × IsText size parts text × (fault_of text ≢ None)
IsStateOf Active size parts = (text : List ℕ) × IsText size parts text × (fault_of text ≡ None)

-- the parts of a broken release are bad for this reason; any other release has no reason
abbrev pub Explains : State → ℕ → List Part → Option BadFile → Type 0
Explains Staged size parts reason = reason ≡ None
Explains Broken size parts reason = (text : List ℕ) × IsText size parts text × (fault_of text ≡ reason)
Explains Active size parts reason = reason ≡ None

-- the size is permitted, the parts are in order and fit in it, and they match the state and the reason
pub record IsSoundRecord (r : Record) : Type 0 where
  pub size : r.size ≤ max_file
  pub parts : AreParts r.parts
  pub inside : All (λ p. end_of p ≤ r.size) r.parts
  pub state : IsStateOf r.state r.size r.parts
  pub reason : Explains r.state r.size r.parts r.reason

-- each name has one record, at most as many as the feed may have. None is of an earlier day than an active one of its
-- package, so each package has at most one active. The records of a feed are sound, whatever its history
pub record IsSound (c : Recorded) : Type 0 where
  pub distinct : IsDistinct name_eq (names c.content)
  pub few : length c.content ≤ c.most
  pub each : All IsSoundRecord c.content
  pub current : All (λ r. ¬ (HasLaterActive c.content r.name)) c.content
