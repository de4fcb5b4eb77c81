-- The effect of an event on the nodes of the code, compared with the nodes of a world.
use Rattle.std.specs.Prelude.{◌≡◌, ◌<◌, ◌≤◌, ◌⊎◌, ℕ, Bool, true, false, length, Result, Ok, Err, List}
use Rattle.std.specs.Prelude.{[], ◌∷◌, option_map, slice_get, suc, slice_set, slice_index_or, Option, Some, IsTrue, MatchBool}
use Rattle.std.specs.Borrow.{Bor}
use Rattle.std.specs.Map.{lookup}
use Rattle.std.specs.BTreeMap.{is_at}
use Rattle.std.specs.Ordering.{nat_cmp}
use Rattle.std.specs.Cmp.Lexicographic.{slice_cmp}
use Rattle.feed_names.specs.ReleaseName.{Name, IsName}
use Rattle.feed_model.specs.History.{History}
use Rattle.feed_model.specs.Content.{Content, IsContent, within}
use Rattle.feed_model.specs.Reply.{max_held}
use Rattle.feed_keep.specs.Cause.{HasFailed}
use Rattle.feed_keep.specs.declared.keep.Keep as keep
use Rattle.feed_core.specs.declared.node.Node.{Ghosts}
use Rattle.feed_core.specs.Nodes.{IsStartRefused, shown_arrived}
use Rattle.feed_core.specs.Chosen.{events_on, is_on, lines_on}
use Rattle.feed_releases.specs.declared.feed.Event as code_event
use Rattle.feed_releases.specs.declared.feed.Point.{Point}
use Rattle.feed_releases.specs.declared.feed.Point.TheVariants.{Before, After}
use Rattle.feed_core.specs.declared.world.ReplayFault.{ReplayFault}
use Rattle.feed_core.specs.declared.world.ReplayFault.TheVariants as faults
use Rattle.feed_world.specs.declared.line.Why as why
use Rattle.feed_world.specs.declared.line.Why.TheVariants as whys
use Rattle.feed_world.specs.World.{World, Node, WorldEvent, StopBefore, StopAfter, Sent, Line, Shelf, Happens, Shows, arriving, start, file_on}

-- the same choice for the nodes after the first, numbered from 1 again
abbrev pub rest_of : (ℕ → Bool) → ℕ → Bool
rest_of chosen node = chosen (suc node)

-- the content of each chosen keeper is as promised
abbrev pub AllClean : {M : Type 0} → (ℕ → Bool) → (M → Type 0) → List M → Type 0
AllClean chosen clean [] = Unit {0}
AllClean chosen clean (x ∷ xs) = (IsTrue (chosen 1) → clean x) × AllClean (rest_of chosen) clean xs

-- each chosen node has the history of the world's node
abbrev pub AreNodes : {M : Type 0} → (ℕ → Bool) → (M → Bool → History → Type 0) → List M → List Node → Type 0
AreNodes chosen has_state [] [] = Unit {0}
AreNodes chosen has_state (x ∷ xs) (y ∷ ys) = (IsTrue (chosen 1) → has_state x y.up y.history) × AreNodes (rest_of chosen) has_state xs ys
AreNodes chosen has_state [] (y ∷ ys) = ⊥
AreNodes chosen has_state (x ∷ xs) [] = ⊥

-- exactly one node is replaced, the law holds for it, and it was clean before if it is now
pub record IsReplaced {M : Type 0} (clean : M → Type 0) (law : M → M → Type 0) (old new : List M) (at : ℕ) : Type 0 where
  pub before : M
  pub after : M
  pub was : before ≡ slice_index_or old at before
  pub now : new ≡ slice_set old at after
  pub was_clean : clean after → clean before
  pub holds : law before after

-- the node with this number is at this place, and up
pub record IsReady {M : Type 0} (has_state : M → Bool → History → Type 0) (nodes : List M) (node at : ℕ) : Type 0 where
  pub number : node ≡ suc at
  pub within : at < length nodes
  pub up : (x : M) → x ≡ slice_index_or nodes at x → (up : Bool) (h : History) → has_state x up h → up ≡ true

-- a node has this number, and this is why nothing arrives at it
pub record IsTurnedAway {M T : Type 0} (nodes : List M) (node : ℕ) (arrived : Result T why.Why) (reason : why.Why) : Type 0 where
  pub at : ℕ
  pub number : node ≡ suc at
  pub within : at < length nodes
  pub refused : arrived ≡ Err reason

-- a node has this number, and it is down
pub record IsNotUp {M T : Type 0} (has_state : M → Bool → History → Type 0) (nodes : List M) (node : ℕ) (arrived : Result T why.Why) : Type 0 where
  pub at : ℕ
  pub number : node ≡ suc at
  pub within : at < length nodes
  pub what : T
  pub came : arrived ≡ Ok what
  pub up : (x : M) → x ≡ slice_index_or nodes at x → (up : Bool) (h : History) → has_state x up h → up ≡ false

-- why nothing happens at a node: no node has this number, nothing arrives, or it is down
abbrev pub IsAway : {M T : Type 0} → (M → Bool → History → Type 0) → List M → ℕ → Result T why.Why → why.Why → Type 0
IsAway has_state nodes node arrived reason =
    ((reason ≡ whys.NoNode) × ((node ≡ 0) ⊎ (length nodes < node)))
    ⊎ (IsTurnedAway nodes node arrived reason ⊎ ((reason ≡ whys.Down) × IsNotUp has_state nodes node arrived))

-- the event may be shown by this line; the world stays as it is if the node of the event is not chosen
abbrev pub HappensOn : (ℕ → Bool) → World → WorldEvent → Line → World → Type 0
HappensOn chosen w event line v = MatchBool (is_on chosen event) (Happens w event line v) (v ≡ w)

-- the nodes before and after an event
pub record Transition (M : Type 0) : Type 0 where
  pub old : List M
  pub new : List M

-- If the chosen nodes are clean now, they were clean before; and from each world that they represent, whose published
-- files fit, the event may be shown by this line and lead to a world that they represent.
abbrev pub IsNodeStep : {M : Type 0} → (ℕ → Bool) → Ghosts M → (Shelf → Type 0) → Transition M → WorldEvent → Line → Type 0
IsNodeStep chosen ghosts fits nodes event line =
    AllClean chosen ghosts.clean nodes.new → AllClean chosen ghosts.clean nodes.old
    × ((w : World) → fits w.shelf → AreNodes chosen ghosts.has_state nodes.old w.nodes
    → (v : World) × HappensOn chosen w event line v × (v.shelf ≡ w.shelf) × AreNodes chosen ghosts.has_state nodes.new v.nodes)

-- the same for a message to a node, given what arrives of it
abbrev pub IsMessageStep : {M : Type 0} → (ℕ → Bool) → Ghosts M → Result code_event.Event why.Why → Transition M → (Sent → WorldEvent) → Line → Type 0
IsMessageStep chosen ghosts arrived nodes telling line =
    (sent : Sent) → IsNodeStep chosen ghosts (λ shelf. arriving shelf sent ≡ shown_arrived arrived) nodes (telling sent) line

-- the event of a world at which a node stops, at this point of what is sent to it
abbrev pub stop_event : Point → ℕ → Sent → WorldEvent
stop_event Before node sent = StopBefore node sent
stop_event After node sent = StopAfter node sent

-- the published files of the code, by the texts of their names
abbrev pub Files : Type 0
Files = List (Bor (List ℕ) × Bor (List ℕ))

-- the file found by the text of a name
abbrev pub file_at : Files → Bor (List ℕ) → Option (List ℕ)
file_at files key = option_map (λ f. f.now) (lookup (is_at (λ k. slice_cmp nat_cmp key.now k.now)) files)

-- the files of the code are those of the shelf, found by the texts of their names
abbrev pub IsShelf : Files → Shelf → Type 0
IsShelf files shelf = (n : Name) (key : Bor (List ℕ)) → IsName key.now n → file_on shelf n ≡ file_at files key

-- the published files and the nodes of the code, between two events
pub record Moment (M : Type 0) : Type 0 where
  pub files : Files
  pub nodes : List M

-- If the chosen nodes are clean now, they were clean before; and from each world that the files and the nodes represent,
-- the event may be shown by this line and lead to a world that they represent.
abbrev pub IsWorldStep : {M : Type 0} → (ℕ → Bool) → Ghosts M → Moment M → Moment M → WorldEvent → Line → Type 0
IsWorldStep chosen ghosts old new event line =
    AllClean chosen ghosts.clean new.nodes
    → AllClean chosen ghosts.clean old.nodes × ((w : World) → IsShelf old.files w.shelf → AreNodes chosen ghosts.has_state old.nodes w.nodes
    → (v : World) × HappensOn chosen w event line v × IsShelf new.files v.shelf × AreNodes chosen ghosts.has_state new.nodes v.nodes)

-- If the chosen nodes are clean, the lines so far show the events so far, without those of the other nodes, and the files
-- and the nodes represent the world that they lead to.
abbrev pub HasShown : {M : Type 0} → (ℕ → Bool) → Ghosts M → ℕ → List WorldEvent → List Line → Moment M → Type 0
HasShown chosen ghosts count events lines now =
    AllClean chosen ghosts.clean now.nodes
    → (w : World) × Shows (start count) (events_on chosen events) (lines_on chosen events lines) w × IsShelf now.files w.shelf
    × AreNodes chosen ghosts.has_state now.nodes w.nodes

-- each chosen keeper holds a list of records, which is a content of the history of the world's node
abbrev pub AreKept : {K : Type 0} → (ℕ → Bool) → (K → Content) → (K → Type 0) → List K → List Node → Type 0
AreKept chosen content listed [] [] = Unit {0}
AreKept chosen content listed (k ∷ ks) (y ∷ ys) = (IsTrue (chosen 1) → IsContent (within max_held (content k)) y.history × ∥ listed k ∥₁) × AreKept (rest_of chosen) content listed ks ys
AreKept chosen content listed [] (y ∷ ys) = ⊥
AreKept chosen content listed (k ∷ ks) [] = ⊥

-- the node that did not start, counted from 1: its device failed, or its keeper did not hold a list of records, or it
-- held a nonempty one; the keeper is returned with its content, was clean if it is now, and its count of failures did
-- not fall
pub record IsNoStart {K : Type 0} (ghosts : keep.Ghosts K) (keepers : List K) (node : ℕ) (keeper : K) : Type 0 where
  pub before : K
  pub at : ℕ
  pub number : node ≡ suc at
  pub given : slice_get keepers at ≡ Some before
  pub kept : ghosts.clean keeper → ghosts.content keeper ≡ ghosts.content before
  pub was_clean : ghosts.clean keeper → ghosts.clean before
  pub rises : ghosts.failed before ≤ ghosts.failed keeper
  pub refused : IsStartRefused (HasFailed (ghosts.failed before) (ghosts.failed keeper)) (ghosts.clean keeper) ∥ ghosts.listed before ∥₁ (ghosts.content before)

-- what a fault of a replay says about the keepers: nothing if memory ran out or the number of nodes is not permitted
abbrev pub IsStart : {K : Type 0} → keep.Ghosts K → List K → ReplayFault K → Type 0
IsStart ghosts keepers (faults.Start node keeper) = IsNoStart ghosts keepers node keeper
IsStart ghosts keepers faults.Memory = Unit {0}
IsStart ghosts keepers faults.Nodes = Unit {0}
