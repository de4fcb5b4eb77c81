-- The reports of the lines of a transcript on the keepers of its nodes: failures of their devices, and loads.
use Rattle.std.specs.Prelude.{◌≡◌, ◌<◌, ◌≤◌, ◌+◌, ◌==◌, ◌⊎◌, ℕ, suc, Bool, false, if◌then◌else◌, List, [], ◌∷◌, Some}
use Rattle.std.specs.Option.{option_map_or}
use Rattle.feed_model.specs.declared.keep_fault.KeepFault.TheVariants as causes
use Rattle.feed_model.specs.declared.reply.Refusal.TheVariants as refusals
use Rattle.feed_world.specs.declared.line.Why.TheVariants as whys
use Rattle.feed_world.specs.World.{WorldEvent, StopAfter, Line, Restarted, Stopped, IsDown, Refused}
use Rattle.feed_keep.specs.Cause.{HasFailedSince}
use Rattle.feed_keep.specs.Loads.{loads_after}
use Rattle.feed_core.specs.Chosen.{node_of}

-- the event is at the node with this number
abbrev pub is_at : ℕ → WorldEvent → Bool
is_at node event = option_map_or (λ i. i == node) (node_of event) false

-- the line reports a device failure
abbrev pub IsDeviceFailure : Line → Type 0
IsDeviceFailure line = (line ≡ IsDown causes.Device) ⊎ (line ≡ Refused (whys.Feed refusals.Device))

-- the number of loads that a line reports: one if a node was opened again, or is down because this failed
abbrev pub loads_in : Line → ℕ
loads_in Restarted = 1
loads_in Stopped = 1
loads_in (IsDown cause) = 1
loads_in line = 0

-- the line may conceal a device failure: after a stop in the middle of an event it reports how the node was opened again,
-- and so it has no room for the failure of the commit before
abbrev pub MayConceal : WorldEvent → Line → Type 0
MayConceal (StopAfter i sent) line = loads_in line ≡ 1
MayConceal event line = ⊥

-- the statement holds for an event at this node and its line
abbrev pub AtSomeLine : (WorldEvent → Line → Type 0) → List WorldEvent → List Line → ℕ → Type 0
AtSomeLine Holds [] lines node = ⊥
AtSomeLine Holds (event ∷ events) [] node = ⊥
AtSomeLine Holds (event ∷ events) (line ∷ lines) node = ((node_of event ≡ Some node) × Holds event line) ⊎ AtSomeLine Holds events lines node

-- a line of an event at this node reports a failure of its device
abbrev pub HasDeviceFailure : List WorldEvent → List Line → ℕ → Type 0
HasDeviceFailure = AtSomeLine (λ event line. IsDeviceFailure line)

-- a line of an event at this node may conceal one
abbrev pub HasConcealed : List WorldEvent → List Line → ℕ → Type 0
HasConcealed = AtSomeLine MayConceal

-- the number of loads that the lines of this node report
abbrev pub loads_shown : List WorldEvent → List Line → ℕ → ℕ
loads_shown [] lines node = 0
loads_shown (event ∷ events) [] node = 0
loads_shown (event ∷ events) (line ∷ lines) node = (if is_at node event then loads_in line else 0) + loads_shown events lines node

-- the statement holds for each node, counted from this number on, as it was before and as it is now
abbrev pub EachNode : {A B : Type 0} → (ℕ → A → B → Type 0) → ℕ → List A → List B → Type 0
EachNode Holds node [] [] = Unit {0}
EachNode Holds node (x ∷ xs) (y ∷ ys) = Holds node x y × EachNode Holds (suc node) xs ys
EachNode Holds node [] (y ∷ ys) = ⊥
EachNode Holds node (x ∷ xs) [] = ⊥

-- a count of failures does not fall; it rose, or has its greatest value, if a failure is reported; and if it rose, a
-- failure is reported, or may be concealed
pub record IsReported (reported concealed : Type 0) (before now : ℕ) : Type 0 where
  pub rises : before ≤ now
  pub failed : reported → HasFailedSince before now
  pub shown : before < now → reported ⊎ concealed

-- the failures of each node, counted from 1, over a run whose lines report and may conceal some
abbrev pub AreReported : {A B : Type 0} → (ℕ → Type 0) → (ℕ → Type 0) → (A → ℕ) → (B → ℕ) → List A → List B → Type 0
AreReported reported concealed before now old new = EachNode (λ node x y. IsReported (reported node) (concealed node) (before x) (now y)) 1 old new

-- each node, counted from 1, was loaded this often over a run
abbrev pub AreLoaded : {A B : Type 0} → (ℕ → ℕ) → (A → ℕ) → (B → ℕ) → List A → List B → Type 0
AreLoaded times before now old new = EachNode (λ node x y. now y ≡ loads_after (times node) (before x)) 1 old new

-- the keeper of a node, before and after an event that this line shows: the failures of its device, and its loads
pub record IsAccount {M : Type 0} (failed loads : M → ℕ) (event : WorldEvent) (line : Line) (old new : M) : Type 0 where
  pub failures : IsReported (IsDeviceFailure line) (MayConceal event line) (failed old) (failed new)
  pub loaded : loads new ≡ loads_after (loads_in line) (loads old)

-- the line accounts for the keeper of the event's node, and every other node stays as it is
abbrev pub IsAccountOf : {M : Type 0} → (M → ℕ) → (M → ℕ) → WorldEvent → Line → List M → List M → Type 0
IsAccountOf failed loads event line old new =
    EachNode (λ node x y. (node_of event ≡ Some node → IsAccount failed loads event line x y) × (¬ (node_of event ≡ Some node) → y ≡ x)) 1 old new
