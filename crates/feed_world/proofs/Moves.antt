-- The changes that a step may make.
use Rattle.std.proofs.Common.{◌≡◌, ◌≢◌, ◌++◌, ℕ, Bool, true, false, cond, List, [], ◌∷◌, Option}
use Rattle.std.proofs.Common.{Some, None, Ok, MatchOption, ◌⊎◌, inl, inr, refl, sym, ◌∙◌, ap, subst}
use Rattle.feed_names.specs.ReleaseName.{Name}
use Rattle.feed_world.specs.declared.line.Why.TheVariants as whys
use Rattle.feed_names.specs.ReleaseName.{name_eq}
use Rattle.feed_model.specs.History.{Event, Answer, History, or_else, Reports}
use Rattle.feed_model.specs.Reply.{Case, IsRight, IsLegal}
use Rattle.feed_world.specs.World.{World, Node, WorldEvent, Publish, Tell, Restart, StopBefore, StopAfter, Report, Ask, Line, Published, Stopped, Restarted, Shelf, file_on, node_at}
use Rattle.feed_world.specs.World.{set_node, with_node, start, arriving, IsRefused, Reopens, IsAsked, answer_line, report_line, Happens}
use Rattle.feed_world.specs.Headline.{file_of, IsQuiet}
use Rattle.feed_world.proofs.Slices.{none_some}
use Rattle.feed_model.proofs.Names.{name_is}
use Rattle.feed_world.proofs.Nodes.{node_at-here, node_at-other, start_empty, equal_or_not, at_node, asked_at, sent_to}
use Rattle.feed_world.proofs.Over.{IsOver, Keeps, IsTrueOf, arriving_true, empty_over, over_more, over_grown, keeps_all, keeps_on, keeps_more}

-- the history stays, or gets one more event, with a right answer
abbrev pub Follows : Shelf → History → History → Type 0
Follows shelf h k = (k ≡ h) ⊎ ((e : Event) × (a : Answer) × IsTrueOf shelf e × IsRight h e a × (k ≡ (e, a) ∷ h))

-- one node is another one now
pub record NodeMoves (w : World) (event : WorldEvent) (v : World) : Type 0 where
  pub number : ℕ
  pub old : Node
  pub there : node_at w.nodes number ≡ Some old
  pub up : Bool
  pub history : History
  pub world : v ≡ with_node w number up history
  pub follows : Follows w.shelf old.history history
  pub loud : (node : ℕ) → IsQuiet node event → number ≢ node

-- one more file is published
pub record ShelfMoves (w : World) (event : WorldEvent) (v : World) : Type 0 where
  pub name : Name
  pub bytes : List ℕ
  pub is : event ≡ Publish name bytes
  pub unknown : file_on w.shelf name ≡ None
  pub world : v ≡ record { shelf = w.shelf ++ (name, bytes) ∷ []; nodes = w.nodes }

-- nothing changes, and what is published was published
pub record Stays (w : World) (event : WorldEvent) (v : World) : Type 0 where
  pub world : v ≡ w
  pub known : (n : Name) (bytes : List ℕ) → event ≡ Publish n bytes → (file : List ℕ) × (file_on w.shelf n ≡ Some file)

abbrev pub Moves : World → WorldEvent → World → Type 0
Moves w event v = (Stays w event v) ⊎ ((ShelfMoves w event v) ⊎ (NodeMoves w event v))

-- the node of the event moves
move : (w : World) (event : WorldEvent) (v : World) (i : ℕ) (x : Node) (up : Bool) (k : History) → ((node : ℕ) → IsQuiet node event → i ≢ node) → node_at w.nodes i ≡ Some x
    → v ≡ with_node w i up k → Follows w.shelf x.history k → Moves w event v
move w event v i x up k loud at is f = inr (inr (record { number = i; old = x; there = at; up = up; history = k; world = is; follows = f; loud = loud }))

reopen : (w : World) (event : WorldEvent) (v : World) (i : ℕ) (x : Node) (k : History) (done line : Line) → ((node : ℕ) → IsQuiet node event → i ≢ node) → node_at w.nodes i ≡ Some x
    → Follows w.shelf x.history k → Reopens i k done w line v → Moves w event v
reopen w event v i x k done line loud at f (inl r) = move w event v i x true k loud at r.1 f
reopen w event v i x k done line loud at f (inr r) = move w event v i x false k loud at r.3 f

-- what is asked at the node
abbrev pub Reported : World → List ℕ → Line → World → Node → Type 0
Reported w package_name line v x = (v ≡ w) × (o : Option Name) × Reports x.history package_name o × (line ≡ report_line o)

abbrev pub Asked : World → List ℕ → List ℕ → Line → World → Node → Type 0
Asked w package_name query line v x = (v ≡ w) × IsAsked x.history package_name query line

stays_at : (w : World) (line : Line) (v : World) (i : ℕ) (Here : Node → Type 0) → ((x : Node) → Here x → v ≡ w)
    → (IsRefused whys.NoNode w line v) ⊎ ((x : Node) × (node_at w.nodes i ≡ Some x) × ((IsRefused whys.Down w line v) ⊎ ((x.up ≡ true) × Here x))) → v ≡ w
stays_at w line v i Here f (inl r) = r.1
stays_at w line v i Here f (inr r) = up r.2
  where
    up : (IsRefused whys.Down w line v) ⊎ ((r.0.up ≡ true) × Here r.0) → v ≡ w
    up (inl q) = q.1
    up (inr q) = f r.0 q.1

pub moves : (w : World) (event : WorldEvent) (line : Line) (v : World) → Happens w event line v → Moves w event v
moves w (Publish n bytes) line v h = by (file_on w.shelf n) refl h
  where
    same : (file : List ℕ) → Case (file ≡ bytes) ((line ≡ Published) × (v ≡ w)) (IsRefused whys.Republished w line v) → v ≡ w
    same file (inl c) = c.1.1
    same file (inr c) = c.1.1

    by : (o : Option (List ℕ)) → file_on w.shelf n ≡ o
        → MatchOption o ((line ≡ Published) × (v ≡ record { shelf = w.shelf ++ (n, bytes) ∷ []; nodes = w.nodes }))
        (λ file. Case (file ≡ bytes) ((line ≡ Published) × (v ≡ w)) (IsRefused whys.Republished w line v)) → Moves w (Publish n bytes) v
    by None at c = inr (inl (record { name = n; bytes = bytes; is = refl; unknown = at; world = c.1 }))
    by (Some file) at c = inl (record { world = same file c; known = λ m bs e. (let t : n ≡ m = cc in (file, subst (λ (z : Name). file_on w.shelf z ≡ Some file) t at)) })
moves w (Tell i sent) line v h = by (sent_to i sent w line v Here h)
  where
    Here : Node → Event → Type 0
    Here x event = (answer : Answer) × IsRight x.history event answer × (line ≡ answer_line answer) × (v ≡ with_node w i true ((event, answer) ∷ x.history))

    by : (v ≡ w) ⊎ ((x : Node) × (node_at w.nodes i ≡ Some x) × (event : Event) × (arriving w.shelf sent ≡ Ok event) ×
        ((answer : Answer) × IsRight x.history event answer × (line ≡ answer_line answer) × (v ≡ with_node w i true ((event, answer) ∷ x.history)))) → Moves w (Tell i sent) v
    by (inl e) = inl (record { world = e; known = λ n bs e. absurd (cc) })
    by (inr r) = move w (Tell i sent) v i r.0 true ((r.2, r.4.0) ∷ r.0.history) (λ node quiet. quiet) r.1 r.4.3 (inr (r.2, r.4.0, arriving_true w.shelf sent r.2 r.3, r.4.1, refl))
moves w (Restart i) line v h = by (at_node i w line v (λ x. Reopens i x.history Restarted w line v) h)
  where
    by : (IsRefused whys.NoNode w line v) ⊎ ((x : Node) × (node_at w.nodes i ≡ Some x) × Reopens i x.history Restarted w line v) → Moves w (Restart i) v
    by (inl e) = inl (record { world = e.1; known = λ n bs e. absurd (cc) })
    by (inr r) = reopen w (Restart i) v i r.0 r.0.history Restarted line (λ node quiet. quiet) r.1 (inl refl) r.2
moves w (StopBefore i sent) line v h = by (sent_to i sent w line v (λ x event. Reopens i x.history Stopped w line v) h)
  where
    by : (v ≡ w) ⊎ ((x : Node) × (node_at w.nodes i ≡ Some x) × (event : Event) × (arriving w.shelf sent ≡ Ok event) × Reopens i x.history Stopped w line v)
        → Moves w (StopBefore i sent) v
    by (inl e) = inl (record { world = e; known = λ n bs e. absurd (cc) })
    by (inr r) = reopen w (StopBefore i sent) v i r.0 r.0.history Stopped line (λ node quiet. quiet) r.1 (inl refl) r.4
moves w (StopAfter i sent) line v h = by (sent_to i sent w line v (λ x event. (answer : Answer) × IsRight x.history event answer × Reopens i ((event, answer) ∷ x.history) Stopped w line v) h)
  where
    by : (v ≡ w) ⊎ ((x : Node) × (node_at w.nodes i ≡ Some x) × (event : Event) × (arriving w.shelf sent ≡ Ok event) ×
        ((answer : Answer) × IsRight x.history event answer × Reopens i ((event, answer) ∷ x.history) Stopped w line v)) → Moves w (StopAfter i sent) v
    by (inl e) = inl (record { world = e; known = λ n bs e. absurd (cc) })
    by (inr r) = reopen w (StopAfter i sent) v i r.0 ((r.2, r.4.0) ∷ r.0.history) Stopped line (λ node quiet. quiet) r.1 (inr (r.2, r.4.0, arriving_true w.shelf sent r.2 r.3, r.4.1, refl)) r.4.2
moves w (Report i package_name) line v h = inl (record {
  world = stays_at w line v i (Reported w package_name line v) (λ x q. q.0) (asked_at i w line v (Reported w package_name line v) h);
  known = λ n
      bs e. absurd (cc);
})
moves w (Ask i package_name query) line v h =
    inl (record { world = stays_at w line v i (Asked w package_name query line v) (λ x q. q.0) (asked_at i w line v (Asked w package_name query line v) h); known = λ n bs e. absurd (cc) })

-- ---- what a step keeps

-- each node's history is legal, and over the published files
pub record IsSound (w : World) : Type 0 where
  pub over : (i : ℕ) (x : Node) → node_at w.nodes i ≡ Some x → IsOver w.shelf x.history
  pub legal : (i : ℕ) (x : Node) → node_at w.nodes i ≡ Some x → IsLegal x.history

-- a later world keeps the files, and what each node has
pub record Grows (w v : World) : Type 0 where
  pub files : (n : Name) (file : List ℕ) → file_on w.shelf n ≡ Some file → file_on v.shelf n ≡ Some file
  pub nodes : (i : ℕ) (x : Node) → node_at w.nodes i ≡ Some x → (y : Node) × (node_at v.nodes i ≡ Some y) × Keeps x.history y.history

pub grows_all : (w : World) → Grows w w
grows_all w = record { files = λ n file e. e; nodes = λ i x e. (x, e, keeps_all x.history) }

pub grows_on : (u w v : World) → Grows u w → Grows w v → Grows u v
grows_on u w v g h = record {
  files = λ n file e. h.files n file (g.files n file e);
  nodes = λ i x e. (let y = g.nodes i x e in let z = h.nodes i y.0 y.1 in (z.0, z.1, keeps_on x.history y.0.history z.0.history y.2 z.2));
}

pub file_on-push : (shelf : Shelf) (m n : Name) (bytes : List ℕ) → file_on (shelf ++ (m, bytes) ∷ []) n ≡ or_else (file_on shelf n) (cond (name_eq m n) (Some bytes) None)
file_on-push [] m n bytes = refl
file_on-push (f ∷ fs) m n bytes = by (name_eq f.0 n) refl (file_on-push fs m n bytes)
  where
    by : (b : Bool) → name_eq f.0 n ≡ b → file_on (fs ++ (m, bytes) ∷ []) n ≡ or_else (file_on fs n) (cond (name_eq m n) (Some bytes) None)
        → file_on ((f ∷ fs) ++ (m, bytes) ∷ []) n ≡ or_else (file_on (f ∷ fs) n) (cond (name_eq m n) (Some bytes) None)
    by true t again = rw t refl
    by false t again = rw t again

pub or_none : {X : Type 0} (o : Option X) → or_else o None ≡ o
or_none None = refl
or_none (Some x) = refl

stays_file : (w : World) (event : WorldEvent) (v : World) (n : Name) → Stays w event v → file_on w.shelf n ≡ None → file_of (event ∷ []) n ≡ None
stays_file w (Publish m bytes) v n s none = by (name_eq m n) refl
  where
    by : (b : Bool) → name_eq m n ≡ b → file_of (Publish m bytes ∷ []) n ≡ None
    by true t = let f = s.known n bytes (ap (λ (z : Name). Publish z bytes) (name_is m n t)) in none_some (file_on w.shelf n) f.0 none f.1
    by false t = rw t refl
stays_file w (Tell i sent) v n s none = refl
stays_file w (Restart i) v n s none = refl
stays_file w (StopBefore i sent) v n s none = refl
stays_file w (StopAfter i sent) v n s none = refl
stays_file w (Report i package_name) v n s none = refl
stays_file w (Ask i package_name query) v n s none = refl

loud_file : (event : WorldEvent) (n : Name) (i : ℕ) → ((node : ℕ) → IsQuiet node event → i ≢ node) → file_of (event ∷ []) n ≡ None
loud_file (Publish m bytes) n i loud = absurd (loud i tt refl)
loud_file (Tell i sent) n k loud = refl
loud_file (Restart i) n k loud = refl
loud_file (StopBefore i sent) n k loud = refl
loud_file (StopAfter i sent) n k loud = refl
loud_file (Report i package_name) n k loud = refl
loud_file (Ask i package_name query) n k loud = refl

-- the files after a step
pub shelf_step : (w : World) (event : WorldEvent) (v : World) (n : Name) → Moves w event v → file_on v.shelf n ≡ or_else (file_on w.shelf n) (file_of (event ∷ []) n)
shelf_step w event v n (inl s) = ap (λ (z : World). file_on z.shelf n) s.world ∙ by (file_on w.shelf n) refl
  where
    by : (o : Option (List ℕ)) → file_on w.shelf n ≡ o → file_on w.shelf n ≡ or_else (file_on w.shelf n) (file_of (event ∷ []) n)
    by None at = rw at (sym (stays_file w event v n s at))
    by (Some file) at = rw at refl
shelf_step w event v n (inr (inl s)) =
    ap (λ (z : World). file_on z.shelf n) s.world ∙ file_on-push w.shelf s.name n s.bytes ∙ ap (λ (z : WorldEvent). or_else (file_on w.shelf n) (file_of (z ∷ []) n)) (sym s.is)
shelf_step w event v n (inr (inr s)) = ap (λ (z : World). file_on z.shelf n) s.world ∙ sym (or_none (file_on w.shelf n))
    ∙ ap (or_else (file_on w.shelf n)) (sym (loud_file event n s.number s.loud))

pub grows_step : (w : World) (event : WorldEvent) (v : World) → IsSound w → Moves w event v → Grows w v
grows_step w event v sound (inl s) = subst (Grows w) (sym s.world) (grows_all w)
grows_step w event v sound (inr (inl s)) =
    subst (Grows w) (sym s.world) (record { files = λ n file e. rw (file_on-push w.shelf s.name n s.bytes, e) refl; nodes = λ i x e. (x, e, keeps_all x.history) })
grows_step w event v sound (inr (inr s)) = subst (Grows w) (sym s.world) (record { files = λ n file e. e; nodes = λ i x e. node i x e (equal_or_not s.number i) })
  where
    more : Follows w.shelf s.old.history s.history → Keeps s.old.history s.history
    more (inl e) = subst (Keeps s.old.history) (sym e) (keeps_all s.old.history)
    more (inr f) = subst (Keeps s.old.history) (sym f.4) (keeps_more w.shelf s.old.history f.0 f.1 (sound.over s.number s.old s.there) f.2)

    node : (i : ℕ) (x : Node) → node_at w.nodes i ≡ Some x → (s.number ≡ i) ⊎ (s.number ≢ i) → (y : Node) × (node_at (with_node w s.number s.up s.history).nodes i ≡ Some y)
        × Keeps x.history y.history
    node i x e (inr apart) = (x, node_at-other w.nodes s.number i (record { up = s.up; history = s.history }) apart ∙ e, keeps_all x.history)
    node i x e (inl same) =
        let at : node_at w.nodes i ≡ Some s.old = subst (λ (j : ℕ). node_at w.nodes j ≡ Some s.old) same s.there in
        let is : s.old ≡ x = cc in (
          record { up = s.up; history = s.history },
          subst (λ (j : ℕ). node_at (set_node w.nodes s.number (record { up = s.up; history = s.history })) j ≡ Some
              (record { up = s.up; history = s.history })) same (node_at-here w.nodes s.number s.old (record { up = s.up; history = s.history }) s.there),
          subst
              (λ (z : Node). Keeps z.history s.history) is (more s.follows),
        )

pub sound_start : (count : ℕ) → IsSound (start count)
sound_start count = record {
  over = λ i x e. subst (IsOver []) (sym (start_empty count i x e)) (empty_over []);
  legal = λ i x e. subst IsLegal (sym (start_empty count i x e)) tt;
}

pub sound_step : (w : World) (event : WorldEvent) (v : World) → IsSound w → Moves w event v → IsSound v
sound_step w event v sound (inl s) = subst IsSound (sym s.world) sound
sound_step w event v sound (inr (inl s)) = subst IsSound (sym s.world) (record {
  over = λ i x e. over_grown w.shelf (w.shelf ++ (s.name, s.bytes) ∷ []) x.history (λ n file at. rw (file_on-push w.shelf s.name n s.bytes, at) refl) (sound.over i x e);
  legal = sound.legal;
})
sound_step w event v sound (inr (inr s)) = subst IsSound (sym s.world) (record {
  over = λ i x e. over i x e (equal_or_not s.number i);
  legal = λ i x e. legal i x e (equal_or_not s.number i);
})
  where
    over_more_of : Follows w.shelf s.old.history s.history → IsOver w.shelf s.history
    over_more_of (inl e) = subst (IsOver w.shelf) (sym e) (sound.over s.number s.old s.there)
    over_more_of (inr f) = subst (IsOver w.shelf) (sym f.4) (over_more w.shelf s.old.history f.0 f.1 (sound.over s.number s.old s.there) f.2)

    legal_more_of : Follows w.shelf s.old.history s.history → IsLegal s.history
    legal_more_of (inl e) = subst IsLegal (sym e) (sound.legal s.number s.old s.there)
    legal_more_of (inr f) = subst IsLegal (sym f.4) (f.3, sound.legal s.number s.old s.there)

    now : Node
    now = record { up = s.up; history = s.history }

    here : (i : ℕ) (x : Node) → s.number ≡ i → node_at (set_node w.nodes s.number now) i ≡ Some x → now ≡ x
    here i x same e =
        let at : node_at (set_node w.nodes s.number now) i ≡ Some now = subst (λ (j : ℕ). node_at (set_node w.nodes s.number now) j ≡ Some now) same
        (node_at-here w.nodes s.number s.old now s.there) in cc

    over : (i : ℕ) (x : Node) → node_at (set_node w.nodes s.number now) i ≡ Some x → (s.number ≡ i) ⊎ (s.number ≢ i) → IsOver w.shelf x.history
    over i x e (inl same) = subst (λ (z : Node). IsOver w.shelf z.history) (here i x same e) (over_more_of s.follows)
    over i x e (inr apart) = sound.over i x (sym (node_at-other w.nodes s.number i now apart) ∙ e)

    legal : (i : ℕ) (x : Node) → node_at (set_node w.nodes s.number now) i ≡ Some x → (s.number ≡ i) ⊎ (s.number ≢ i) → IsLegal x.history
    legal i x e (inl same) = subst (λ (z : Node). IsLegal z.history) (here i x same e) (legal_more_of s.follows)
    legal i x e (inr apart) = sound.legal i x (sym (node_at-other w.nodes s.number i now apart) ∙ e)

-- an event that is quiet at a node leaves it as it is
pub quiet_step : (w : World) (event : WorldEvent) (v : World) (i : ℕ) → IsQuiet i event → Moves w event v → node_at v.nodes i ≡ node_at w.nodes i
quiet_step w event v i quiet (inl s) = ap (λ (z : World). node_at z.nodes i) s.world
quiet_step w event v i quiet (inr (inl s)) = ap (λ (z : World). node_at z.nodes i) s.world
quiet_step w event v i quiet (inr (inr s)) = ap (λ (z : World). node_at z.nodes i) s.world ∙ node_at-other w.nodes s.number i (record { up = s.up; history = s.history }) (s.loud i quiet)
