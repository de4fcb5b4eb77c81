-- The nodes of a world, and the cases of a step.
use Rattle.std.proofs.Common.{◌≡◌, ◌≢◌, ℕ, zero, suc, Bool, true, false, List, [], ◌∷◌, replicate, Option}
use Rattle.std.proofs.Common.{Some, None, Result, Ok, Err, MatchOption, MatchResult, slice_get, slice_set, ◌⊎◌}
use Rattle.std.proofs.Common.{inl, inr, refl, ap, arith}
use Rattle.std.specs.Prelude.{MatchBool}
use Rattle.feed_world.specs.declared.line.Why as why
use Rattle.feed_world.specs.declared.line.Why.TheVariants as whys
use Rattle.feed_model.specs.History.{Event}
use Rattle.feed_world.specs.World.{World, Node, Line, Sent, node_at, set_node, start, arriving, IsRefused, AtNode, Arrives, IfUp}

get-set_here : {X : Type 0} (xs : List X) (i : ℕ) (x y : X) → slice_get xs i ≡ Some x → slice_get (slice_set xs i y) i ≡ Some y
get-set_here [] i x y e = absurd (cc)
get-set_here (z ∷ zs) zero x y e = refl
get-set_here (z ∷ zs) (suc i) x y e = get-set_here zs i x y e

get-set_other : {X : Type 0} (xs : List X) (i j : ℕ) (y : X) → i ≢ j → slice_get (slice_set xs i y) j ≡ slice_get xs j
get-set_other [] i j y apart = refl
get-set_other (z ∷ zs) zero zero y apart = absurd (apart refl)
get-set_other (z ∷ zs) zero (suc j) y apart = refl
get-set_other (z ∷ zs) (suc i) zero y apart = refl
get-set_other (z ∷ zs) (suc i) (suc j) y apart = get-set_other zs i j y (λ e. apart (ap suc e))

pub node_at-here : (nodes : List Node) (i : ℕ) (x y : Node) → node_at nodes i ≡ Some x → node_at (set_node nodes i y) i ≡ Some y
node_at-here nodes zero x y e = absurd (cc)
node_at-here nodes (suc i) x y e = get-set_here nodes i x y e

pub node_at-other : (nodes : List Node) (i j : ℕ) (y : Node) → i ≢ j → node_at (set_node nodes i y) j ≡ node_at nodes j
node_at-other nodes zero j y apart = refl
node_at-other nodes (suc i) zero y apart = refl
node_at-other nodes (suc i) (suc j) y apart = get-set_other nodes i j y (λ e. apart (ap suc e))

get-replicate : {X : Type 0} (n i : ℕ) (x y : X) → slice_get (replicate n x) i ≡ Some y → y ≡ x
get-replicate zero i x y e = absurd (cc)
get-replicate (suc n) zero x y e = cc
get-replicate (suc n) (suc i) x y e = get-replicate n i x y e

-- a node of the start has no history
pub start_empty : (count i : ℕ) (x : Node) → node_at (start count).nodes i ≡ Some x → x.history ≡ []
start_empty count zero x e = absurd (cc)
start_empty count (suc i) x e = ap (λ (y : Node). y.history) (get-replicate count i (record { up = true; history = [] }) x e)

pub equal_or_not : (i j : ℕ) → (i ≡ j) ⊎ (i ≢ j)
equal_or_not i j = grind arith

-- the event was refused, or this holds of its node
pub at_node : (i : ℕ) (w : World) (line : Line) (v : World) (Here : Node → Type 0) → AtNode i w line v Here
    → (IsRefused whys.NoNode w line v) ⊎ ((x : Node) × (node_at w.nodes i ≡ Some x) × Here x)
at_node i w line v Here h = by (node_at w.nodes i) refl h
  where
    by : (o : Option Node) → node_at w.nodes i ≡ o → MatchOption o (IsRefused whys.NoNode w line v) Here
        → (IsRefused whys.NoNode w line v) ⊎ ((x : Node) × (node_at w.nodes i ≡ Some x) × Here x)
    by None e r = inl r
    by (Some x) e r = inr (x, e, r)

pub arrives : (sent : Sent) (w : World) (line : Line) (v : World) (Here : Event → Type 0) → Arrives sent w line v Here → (v ≡ w) ⊎ ((e : Event) × (arriving w.shelf sent ≡ Ok e) × Here e)
arrives sent w line v Here h = by (arriving w.shelf sent) refl h
  where
    by : (o : Result Event why.Why) → arriving w.shelf sent ≡ o → MatchResult o Here (λ why. IsRefused why w line v)
        → (v ≡ w) ⊎ ((e : Event) × (arriving w.shelf sent ≡ Ok e) × Here e)
    by (Err y) e r = inl r.1
    by (Ok x) e r = inr (x, e, r)

pub if_up : (x : Node) (w : World) (line : Line) (v : World) (Here : Type 0) → IfUp x w line v Here → (IsRefused whys.Down w line v) ⊎ ((x.up ≡ true) × Here)
if_up x w line v Here h = by x.up refl h
  where
    by : (b : Bool) → x.up ≡ b → MatchBool b Here (IsRefused whys.Down w line v) → (IsRefused whys.Down w line v) ⊎ ((x.up ≡ true) × Here)
    by true e r = inr (e, r)
    by false e r = inl r

-- what is sent to a node was refused, or arrives at it
pub sent_to : (i : ℕ) (sent : Sent) (w : World) (line : Line) (v : World) (Here : Node → Event → Type 0)
    → AtNode i w line v (λ x. Arrives sent w line v (λ event. IfUp x w line v (Here x event)))
    → (v ≡ w) ⊎ ((x : Node) × (node_at w.nodes i ≡ Some x) × (e : Event) × (arriving w.shelf sent ≡ Ok e) × Here x e)
sent_to i sent w line v Here h = node (at_node i w line v (λ x. Arrives sent w line v (λ event. IfUp x w line v (Here x event))) h)
  where
    up : (x : Node) → node_at w.nodes i ≡ Some x → (e : Event) → arriving w.shelf sent ≡ Ok e → (IsRefused whys.Down w line v) ⊎ ((x.up ≡ true) × Here x e)
        → (v ≡ w) ⊎ ((x : Node) × (node_at w.nodes i ≡ Some x) × (e : Event) × (arriving w.shelf sent ≡ Ok e) × Here x e)
    up x at e is (inl r) = inl r.1
    up x at e is (inr r) = inr (x, at, e, is, r.1)

    event : (x : Node) → node_at w.nodes i ≡ Some x → (v ≡ w) ⊎ ((e : Event) × (arriving w.shelf sent ≡ Ok e) × IfUp x w line v (Here x e))
        → (v ≡ w) ⊎ ((x : Node) × (node_at w.nodes i ≡ Some x) × (e : Event) × (arriving w.shelf sent ≡ Ok e) × Here x e)
    event x at (inl r) = inl r
    event x at (inr r) = up x at r.0 r.1 (if_up x w line v (Here x r.0) r.2)

    node : (IsRefused whys.NoNode w line v) ⊎ ((x : Node) × (node_at w.nodes i ≡ Some x) × Arrives sent w line v (λ event. IfUp x w line v (Here x event)))
        → (v ≡ w) ⊎ ((x : Node) × (node_at w.nodes i ≡ Some x) × (e : Event) × (arriving w.shelf sent ≡ Ok e) × Here x e)
    node (inl r) = inl r.1
    node (inr r) = event r.0 r.1 (arrives sent w line v (λ event. IfUp r.0 w line v (Here r.0 event)) r.2)

-- a node that is asked is up, or this was refused
pub asked_at : (i : ℕ) (w : World) (line : Line) (v : World) (Here : Node → Type 0) → AtNode i w line v (λ x. IfUp x w line v (Here x))
    → (IsRefused whys.NoNode w line v) ⊎ ((x : Node) × (node_at w.nodes i ≡ Some x) × ((IsRefused whys.Down w line v) ⊎ ((x.up ≡ true) × Here x)))
asked_at i w line v Here h = by (at_node i w line v (λ x. IfUp x w line v (Here x)) h)
  where
    by : (IsRefused whys.NoNode w line v) ⊎ ((x : Node) × (node_at w.nodes i ≡ Some x) × IfUp x w line v (Here x))
        → (IsRefused whys.NoNode w line v) ⊎ ((x : Node) × (node_at w.nodes i ≡ Some x) × ((IsRefused whys.Down w line v) ⊎ ((x.up ≡ true) × Here x)))
    by (inl r) = inl r
    by (inr r) = inr (r.0, r.1, if_up r.0 w line v (Here r.0) r.2)
