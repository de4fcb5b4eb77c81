-- Steps of nodes.
use Rattle.std.proofs.Common.{◌≡◌, ◌<◌, ◌≤◌, ◌+◌, ℕ, zero, suc, Bool, true, false, Result, Ok, Err, List, [], ◌∷◌}
use Rattle.std.proofs.Common.{length, get_or, Some, None, slice_get, slice_set, insert, remove, ◌⊎◌, inl, inr}
use Rattle.std.proofs.Common.{refl, sym, ◌∙◌, ap, subst, arith, IsTrue}
use Rattle.std.specs.Prelude.{MatchBool}
use Rattle.std.specs.Option.{option_map_or}
use Rattle.feed_model.specs.History.{Event, Answer, History}
use Rattle.feed_model.specs.Reply.{IsRight}
use Rattle.feed_model.specs.declared.keep_fault.KeepFault as cause
use Rattle.feed_world.specs.declared.line.Why as why
use Rattle.feed_world.specs.declared.line.Why.TheVariants.{NoNode, Down}
use Rattle.feed_world.specs.World.{World, Node, WorldEvent, Line, Shelf, Sent, Refused, node_at, set_node, with_node, arriving, AtNode, Arrives, IfUp, Happens}
use Rattle.feed_world.specs.World.{StopBefore, StopAfter, Stopped, IsDown, Reopens}
use Rattle.feed_releases.specs.declared.feed.Event as code_event
use Rattle.feed_releases.specs.declared.feed.Point.{Point}
use Rattle.feed_releases.specs.declared.feed.Point.TheVariants.{Before, After}
use Rattle.feed_core.specs.Nodes.{HasStopped, shown_arrived}
use Rattle.feed_core.specs.Chosen.{is_on, node_of}
use Rattle.feed_core.specs.declared.node.Node.{Ghosts}
use Rattle.feed_core.specs.Step.{AllClean, AreNodes, HappensOn, IsNodeStep, IsAway, IsReady, rest_of, stop_event}

-- the statement for the value of a test
match_by : (b : Bool) (P Q : Type 0) → (IsTrue b → P) → Q → MatchBool b P Q
match_by true P Q p q = p refl
match_by false P Q p q = q

-- the event of a node is seen if the node is chosen
on_node : (chosen : ℕ → Bool) (event : WorldEvent) (node : ℕ) → node_of event ≡ Some node → is_on chosen event ≡ chosen node
on_node chosen event node here = ap (λ o. option_map_or chosen o true) here

none_past : {M : Type 0} (chosen : ℕ → Bool) (has_state : M → Bool → History → Type 0) (xs : List M) (ys : List Node) (i : ℕ) → AreNodes chosen has_state xs ys → length xs ≤ i
    → slice_get ys i ≡ None
none_past chosen has_state [] [] i a le = refl
none_past chosen has_state [] (y ∷ ys) i a le = absurd a
none_past chosen has_state (x ∷ xs) [] i a le = absurd a
none_past chosen has_state (x ∷ xs) (y ∷ ys) zero a le = absurd (omega arith)
none_past chosen has_state (x ∷ xs) (y ∷ ys) (suc i) a le = none_past (rest_of chosen) has_state xs ys i a.1 (omega arith)

-- no node has this number
pub none_at : {M : Type 0} (chosen : ℕ → Bool) (has_state : M → Bool → History → Type 0) (xs : List M) (ys : List Node) (node : ℕ) → AreNodes chosen has_state xs ys
    → (node ≡ 0) ⊎ (length xs < node) → node_at ys node ≡ None
none_at chosen has_state xs ys zero a out = refl
none_at chosen has_state xs ys (suc i) a (inl e) = absurd (omega (arith, e))
none_at chosen has_state xs ys (suc i) a (inr lt) = none_past chosen has_state xs ys i a (omega arith)

some_get : {M : Type 0} (chosen : ℕ → Bool) (has_state : M → Bool → History → Type 0) (xs : List M) (ys : List Node) (i : ℕ) (x : M) → AreNodes chosen has_state xs ys → i < length xs
    → x ≡ get_or xs i x → (y : Node) × (slice_get ys i ≡ Some y) × (IsTrue (chosen (suc i)) → has_state x y.up y.history)
some_get chosen has_state [] ys i x a lt e = absurd (omega arith)
some_get chosen has_state (z ∷ xs) [] i x a lt e = absurd a
some_get chosen has_state (z ∷ xs) (y ∷ ys) zero x a lt e = (y, refl, λ c. subst (λ (m : _). has_state m y.up y.history) (sym e) (a.0 c))
some_get chosen has_state (z ∷ xs) (y ∷ ys) (suc i) x a lt e = some_get (rest_of chosen) has_state xs ys i x a.1 (omega arith) e

-- the world's node of this number
pub some_at : {M : Type 0} (chosen : ℕ → Bool) (has_state : M → Bool → History → Type 0) (xs : List M) (ys : List Node) (node at : ℕ) (x : M) → AreNodes chosen has_state xs ys → node ≡ at + 1
    → at < length xs → x ≡ get_or xs at x → (y : Node) × (node_at ys node ≡ Some y) × (IsTrue (chosen node) → has_state x y.up y.history)
some_at chosen has_state xs ys zero at x a is lt e = absurd (omega (arith, is))
some_at chosen has_state xs ys (suc i) at x a is lt e =
    let same : at ≡ i = omega (arith, is) in
    let r = some_get chosen has_state xs ys at x a lt e in
    (r.0, ap (slice_get ys) (sym same) ∙ r.1, λ c. r.2 (subst (λ (j : ℕ). IsTrue (chosen (suc j))) (sym same) c))

are_set : {M : Type 0} (chosen : ℕ → Bool) (has_state : M → Bool → History → Type 0) (xs : List M) (ys : List Node) (i : ℕ) (x : M) (y : Node) → AreNodes chosen has_state xs ys
    → (IsTrue (chosen (suc i)) → has_state x y.up y.history) → AreNodes chosen has_state (slice_set xs i x) (slice_set ys i y)
are_set chosen has_state [] [] i x y a s = tt
are_set chosen has_state [] (v ∷ ys) i x y a s = absurd a
are_set chosen has_state (z ∷ xs) [] i x y a s = absurd a
are_set chosen has_state (z ∷ xs) (v ∷ ys) zero x y a s = (s, a.1)
are_set chosen has_state (z ∷ xs) (v ∷ ys) (suc i) x y a s = (a.0, are_set (rest_of chosen) has_state xs ys i x y a.1 s)

are_nodes-set : {M : Type 0} (chosen : ℕ → Bool) (has_state : M → Bool → History → Type 0) (xs : List M) (ys : List Node) (node at : ℕ) (x : M) (y : Node) → AreNodes chosen has_state xs ys
    → node ≡ at + 1 → has_state x y.up y.history → AreNodes chosen has_state (slice_set xs at x) (set_node ys node y)
are_nodes-set chosen has_state xs ys zero at x y a is s = absurd (omega (arith, is))
are_nodes-set chosen has_state xs ys (suc i) at x y a is s =
    let same : at ≡ i = omega (arith, is) in
    subst (λ (j : ℕ). AreNodes chosen has_state (slice_set xs at x) (slice_set ys j y)) same (are_set chosen has_state xs ys at x y a (λ _. s))

-- a node that is not chosen changes
are_same : {M : Type 0} (chosen : ℕ → Bool) (has_state : M → Bool → History → Type 0) (xs : List M) (ys : List Node) (i : ℕ) (x : M) → AreNodes chosen has_state xs ys
    → ¬ (IsTrue (chosen (suc i))) → AreNodes chosen has_state (slice_set xs i x) ys
are_same chosen has_state [] ys i x a other = a
are_same chosen has_state (z ∷ xs) [] i x a other = absurd a
are_same chosen has_state (z ∷ xs) (v ∷ ys) zero x a other = ((λ c. absurd (other c)), a.1)
are_same chosen has_state (z ∷ xs) (v ∷ ys) (suc i) x a other = (a.0, are_same (rest_of chosen) has_state xs ys i x a.1 other)

-- the nodes were clean, and the new one is
clean_set : {M : Type 0} (chosen : ℕ → Bool) (clean : M → Type 0) (xs : List M) (i : ℕ) (x z : M) → i < length xs → x ≡ get_or xs i x → (clean z → clean x)
    → AllClean chosen clean (slice_set xs i z) → AllClean chosen clean xs × (IsTrue (chosen (suc i)) → clean z)
clean_set chosen clean [] i x z lt e f a = absurd (omega arith)
clean_set chosen clean (w ∷ xs) zero x z lt e f a = (((λ c. subst clean e (f (a.0 c))), a.1), a.0)
clean_set chosen clean (w ∷ xs) (suc i) x z lt e f a = let r = clean_set (rest_of chosen) clean xs i x z (omega arith) e f a.1 in ((a.0, r.0), r.1)

clean_at : {M : Type 0} (chosen : ℕ → Bool) (clean : M → Type 0) (xs : List M) (i : ℕ) (x : M) → i < length xs → x ≡ get_or xs i x → AllClean chosen clean xs → IsTrue (chosen (suc i)) → clean x
clean_at chosen clean [] i x lt e a c = absurd (omega arith)
clean_at chosen clean (w ∷ xs) zero x lt e a c = subst clean (sym e) (a.0 c)
clean_at chosen clean (w ∷ xs) (suc i) x lt e a c = clean_at (rest_of chosen) clean xs i x (omega arith) e a.1 c

-- the number of a place
pub next : {node at : ℕ} → node ≡ suc at → node ≡ at + 1
next is = omega (arith, is)

-- a chosen number is that of a chosen place
chosen_at : (chosen : ℕ → Bool) (node at : ℕ) → node ≡ at + 1 → IsTrue (chosen node) → IsTrue (chosen (suc at))
chosen_at chosen node at is c = let same : node ≡ suc at = omega (arith, is) in subst (λ (n : ℕ). IsTrue (chosen n)) same c

-- the effect of an event on a node: it has a longer history, and the event may be shown by this line
pub record Acts {M : Type 0} (has_state : M → Bool → History → Type 0) (fits : Shelf → Type 0) (node : ℕ) (x z : M) (event : WorldEvent) (line : Line) (w : World) (y : Node) : Type 0 where
  pub up : Bool
  pub history : History
  pub happens : Happens w event line (with_node w node up history)
  pub in_state : has_state z up history

-- one node advances
pub step_set : {M : Type 0} (chosen : ℕ → Bool) (ghosts : Ghosts M) (fits : Shelf → Type 0) (xs : List M) (at : ℕ) (x z : M) (node : ℕ)
    (event : WorldEvent) (line : Line) → at < length xs → x ≡ get_or xs at x → node ≡ at + 1 → node_of event ≡ Some node → (ghosts.clean z → ghosts.clean x)
    → ((w : World) (y : Node) → fits w.shelf → node_at w.nodes node ≡ Some y → ghosts.clean z → ghosts.has_state x y.up y.history → Acts ghosts.has_state fits node x z event line w y)
    → IsNodeStep chosen ghosts fits (record { old = xs; new = slice_set xs at z }) event line
step_set {M} chosen ghosts fits xs at x z node event line lt e is here f act = λ a. (let c = clean_set chosen ghosts.clean xs at x z lt e f a in (c.0, λ w s n. pick w s n c.1 (chosen node) refl))
  where
    seen : (b : Bool) → chosen node ≡ b → is_on chosen event ≡ b
    seen b is_b = on_node chosen event node here ∙ is_b

    pick : (w : World) → fits w.shelf → AreNodes chosen ghosts.has_state xs w.nodes → (IsTrue (chosen (suc at)) → ghosts.clean z) → (b : Bool) → chosen node ≡ b
        → (v : World) × HappensOn chosen w event line v × (v.shelf ≡ w.shelf) × AreNodes chosen ghosts.has_state (slice_set xs at z) v.nodes
    pick w s n clean_z true t =
        let y = some_at chosen ghosts.has_state xs w.nodes node at x n is lt e in
        let r = act w y.0 s y.1 (clean_z (chosen_at chosen node at is t)) (y.2 t) in
        let v = with_node w node r.up r.history in (
          v,
          subst (λ (b : Bool). MatchBool b (Happens w event line v) (v ≡ w)) (sym (seen true t)) r.happens,
          refl,
          are_nodes-set chosen ghosts.has_state xs w.nodes node at z (record { up = r.up; history = r.history }) n is r.in_state,
        )
    pick w s n clean_z false t = (
      w,
      subst (λ (b : Bool). MatchBool b (Happens w event line w) (w ≡ w)) (sym (seen false t)) refl,
      refl,
      are_same chosen ghosts.has_state xs w.nodes at z n (λ c. (let other : chosen (suc at) ≡ false = (let same : suc at ≡ node = omega (arith, is) in ap chosen same ∙ t) in
          let both : true ≡ false = sym c ∙ other in absurd (cc))),
    )

-- no node advances
pub step_not : {M : Type 0} (chosen : ℕ → Bool) (ghosts : Ghosts M) (fits : Shelf → Type 0) (xs : List M) (event : WorldEvent) (line : Line)
    → ((w : World) → fits w.shelf → IsTrue (is_on chosen event) → AllClean chosen ghosts.clean xs → AreNodes chosen ghosts.has_state xs w.nodes → Happens w event line w)
    → IsNodeStep chosen ghosts fits (record { old = xs; new = xs }) event line
step_not chosen ghosts fits xs event line stay = λ a. (a, λ w s n. (w, match_by (is_on chosen event) (Happens w event line w) (w ≡ w) (λ t. stay w s t a n) refl, refl, n))

-- no node has this number
pub step_none : {M : Type 0} (chosen : ℕ → Bool) (ghosts : Ghosts M) (fits : Shelf → Type 0) (xs : List M) (node : ℕ) (event : WorldEvent)
    (line : Line) → (node ≡ 0) ⊎ (length xs < node) → ((w : World) → node_at w.nodes node ≡ None → Happens w event line w) → IsNodeStep chosen ghosts fits (record { old = xs; new = xs }) event line
step_none chosen ghosts fits xs node event line out stay =
    step_not chosen ghosts fits xs event line (λ w s t a n. stay w (none_at chosen ghosts.has_state xs w.nodes node n out))

-- an element of a list
element : {X : Type 0} (xs : List X) (i : ℕ) → i < length xs → (x : X) × (x ≡ get_or xs i x)
element [] i lt = absurd (omega arith)
element (z ∷ zs) zero lt = (z, refl)
element (z ∷ zs) (suc i) lt = element zs i (omega arith)

-- there is one, whatever it is
step_known : {M : Type 0} (chosen : ℕ → Bool) (ghosts : Ghosts M) (fits : Shelf → Type 0) (xs : List M) (at node : ℕ) (event : WorldEvent)
    (line : Line) → at < length xs → node ≡ at + 1 → ((w : World) (y : Node) → fits w.shelf → node_at w.nodes node ≡ Some y → Happens w event line w)
    → IsNodeStep chosen ghosts fits (record { old = xs; new = xs }) event line
step_known chosen ghosts fits xs at node event line lt is stay =
    step_not chosen ghosts fits xs event line
    (λ w s t a n. (let x = element xs at lt in let y = some_at chosen ghosts.has_state xs w.nodes node at x.0 n is lt x.1 in stay w y.0 s y.1))

-- it is up or down, and nothing changes
step_stay : {M : Type 0} (chosen : ℕ → Bool) (ghosts : Ghosts M) (fits : Shelf → Type 0) (xs : List M) (at : ℕ) (v : M) (node : ℕ) (event : WorldEvent)
    (line : Line) (b : Bool) → at < length xs → v ≡ get_or xs at v → node ≡ at + 1 → node_of event ≡ Some node → ((up : Bool) (h : History) → ghosts.has_state v up h → b ≡ up)
    → ((w : World) (y : Node) → fits w.shelf → node_at w.nodes node ≡ Some y → y.up ≡ b → ghosts.has_state v b y.history → Happens w event line w)
    → IsNodeStep chosen ghosts fits (record { old = xs; new = xs }) event line
step_stay chosen ghosts fits xs at v node event line b lt e is here law stay =
    step_not chosen ghosts fits xs event line
    (λ w s t a n. (let y = some_at chosen ghosts.has_state xs w.nodes node at v n is lt e in let state = y.2 (sym (on_node chosen event node here) ∙ t) in let up = law y.0.up y.0.history state in
    stay w y.0 s y.1 (sym up) (subst (λ (u : Bool). ghosts.has_state v u y.0.history) (sym up) state)))

-- nothing happens to what is sent to a node
pub away_sent : {M : Type 0} (chosen : ℕ → Bool) (ghosts : Ghosts M) (xs : List M) (node : ℕ) (sent : Sent)
    (arrived : Result code_event.Event why.Why) (reason : why.Why) (event : WorldEvent) (Rest : World → Line → World → Node → Event → Type 0) → node_of event ≡ Some node
    → ((w : World) (line : Line) (v : World) → AtNode node w line v (λ x. Arrives sent w line v (λ e. IfUp x w line v (Rest w line v x e))) → Happens w event line v)
    → IsAway ghosts.has_state xs node arrived reason → IsNodeStep chosen ghosts (λ z. arriving z sent ≡ shown_arrived arrived) (record { old = xs; new = xs }) event (Refused reason)
away_sent chosen ghosts xs node sent arrived reason event Rest here happens (inl none) =
    subst (λ (r : why.Why). IsNodeStep chosen ghosts (λ z. arriving z sent ≡ shown_arrived arrived) (record { old = xs; new = xs }) event (Refused r)) (sym none.0)
    (step_none chosen ghosts (λ (z : Shelf). arriving z sent ≡ shown_arrived arrived) xs node event (Refused NoNode) none.1
    (λ w at. happens w (Refused NoNode) w (rw at (refl, refl))))
away_sent chosen ghosts xs node sent arrived reason event Rest here happens (inr (inl away)) =
    step_known chosen ghosts (λ (z : Shelf). arriving z sent ≡ shown_arrived arrived) xs away.at node event (Refused reason) away.within (next away.number)
    (λ w y s at. happens w (Refused reason) w (rw (at, s ∙ ap shown_arrived away.refused) (refl, refl)))
away_sent chosen ghosts xs node sent arrived reason event Rest here happens (inr (inr down)) =
    let x = element xs down.1.at down.1.within in
    subst (λ (r : why.Why). IsNodeStep chosen ghosts (λ z. arriving z sent ≡ shown_arrived arrived) (record { old = xs; new = xs }) event (Refused r)) (sym down.0)
    (step_stay chosen ghosts (λ (z : Shelf). arriving z sent ≡ shown_arrived arrived) xs down.1.at x.0 node event (Refused Down) false down.1.within x.1 (next down.1.number) here
    (λ up h s. sym (down.1.up x.0 x.1 up h s))
    (λ w y s at up in_state. happens w (Refused Down) w (rw (at, s ∙ ap shown_arrived down.1.came, up) (refl, refl))))

-- nothing is asked of a node
pub away_asked : {M : Type 0} (chosen : ℕ → Bool) (ghosts : Ghosts M) (xs : List M) (node : ℕ) (reason : why.Why) (event : WorldEvent)
    (Rest : World → Line → World → Node → Type 0) → node_of event ≡ Some node
    → ((w : World) (line : Line) (v : World) → AtNode node w line v (λ x. IfUp x w line v (Rest w line v x)) → Happens w event line v)
    → (let came : Result (Unit {0}) why.Why = Ok tt in IsAway ghosts.has_state xs node came reason) → IsNodeStep chosen ghosts (λ _. Unit {0}) (record { old = xs; new = xs }) event (Refused reason)
away_asked chosen ghosts xs node reason event Rest here happens (inl none) =
    subst (λ (r : why.Why). IsNodeStep chosen ghosts (λ _. Unit {0}) (record { old = xs; new = xs }) event (Refused r)) (sym none.0)
    (step_none chosen ghosts (λ _. Unit {0}) xs node event (Refused NoNode) none.1 (λ w at. happens w (Refused NoNode) w (rw at (refl, refl))))
away_asked chosen ghosts xs node reason event Rest here happens (inr (inl away)) = absurd (let e = away.refused in cc)
away_asked chosen ghosts xs node reason event Rest here happens (inr (inr down)) =
    let x = element xs down.1.at down.1.within in
    subst (λ (r : why.Why). IsNodeStep chosen ghosts (λ _. Unit {0}) (record { old = xs; new = xs }) event (Refused r)) (sym down.0)
    (step_stay chosen ghosts (λ _. Unit {0}) xs down.1.at x.0 node event (Refused Down) false down.1.within x.1 (next down.1.number) here (λ up h s. sym (down.1.up x.0 x.1 up h s))
    (λ w y s at up in_state. happens w (Refused Down) w (rw (at, up) (refl, refl))))

-- a node that is ready advances
pub step_ready : {M : Type 0} (chosen : ℕ → Bool) (ghosts : Ghosts M) (fits : Shelf → Type 0) (xs : List M) (at : ℕ) (x z : M) (node : ℕ)
    (event : WorldEvent) (line : Line) → IsReady ghosts.has_state xs node at → x ≡ get_or xs at x → node_of event ≡ Some node → (ghosts.clean z → ghosts.clean x)
    → ((w : World) (y : Node) → fits w.shelf → node_at w.nodes node ≡ Some y → y.up ≡ true → ghosts.clean z → ghosts.has_state x true y.history → Acts ghosts.has_state fits node x z event line w y)
    → IsNodeStep chosen ghosts fits (record { old = xs; new = slice_set xs at z }) event line
step_ready chosen ghosts fits xs at x z node event line ready is here back act =
    step_set chosen ghosts fits xs at x z node event line ready.within is (next ready.number) here back
    (λ w y s there c in_state. (let up = ready.up x is y.up y.history in_state in act w y s there up c (subst (λ (u : Bool). ghosts.has_state x u y.history) up in_state)))

-- nothing is sent to a node that would stop
pub away_stopped : {M : Type 0} (chosen : ℕ → Bool) (ghosts : Ghosts M) (xs : List M) (point : Point) (node : ℕ) (sent : Sent)
    (arrived : Result code_event.Event why.Why) (reason : why.Why) → IsAway ghosts.has_state xs node arrived reason
    → IsNodeStep chosen ghosts (λ z. arriving z sent ≡ shown_arrived arrived) (record { old = xs; new = xs }) (stop_event point node sent) (Refused reason)
away_stopped chosen ghosts xs Before node sent arrived reason away =
    away_sent chosen ghosts xs node sent arrived reason (StopBefore node sent) (λ w line v x e. Reopens node x.history Stopped w line v) refl (λ w line v h. h) away
away_stopped chosen ghosts xs After node sent arrived reason away =
    away_sent chosen ghosts xs node sent arrived reason (StopAfter node sent)
    (λ w line v x e. (answer : Answer) × IsRight x.history e answer × Reopens node ((e, answer) ∷ x.history) Stopped w line v) refl (λ w line v h. h) away

-- a node that stopped is open again
pub stop_shown : {M : Type 0} (has_state : M → Bool → History → Type 0) (fits : Shelf → Type 0) (point : Point) (node : ℕ) (x z : M) (sent : Sent) (event : Event) (w : World) (y : Node)
    → node_at w.nodes node ≡ Some y → y.up ≡ true → arriving w.shelf sent ≡ Ok event
    → (let outcome : Result (Unit {0}) cause.KeepFault = Ok tt in HasStopped (has_state z) point event y.history outcome)
    → Acts has_state fits node x z (stop_event point node sent) Stopped w y
stop_shown has_state fits Before node x z sent event w y at up is stop = record { up = true; history = y.history; happens = rw (at, is, up) (inl (refl, refl)); in_state = stop }
stop_shown has_state fits After node x z sent event w y at up is stop = record {
  up = true;
  history = (event, stop.0) ∷ y.history;
  happens = rw (at, is, up) (stop.0, stop.1, inl (refl, refl));
  in_state = stop.2;
}

-- a node that stopped is down
pub stop_fails : {M : Type 0} (has_state : M → Bool → History → Type 0) (fits : Shelf → Type 0) (point : Point) (node : ℕ) (x z : M) (sent : Sent) (fault : cause.KeepFault) (event : Event)
    (w : World) (y : Node) → node_at w.nodes node ≡ Some y → y.up ≡ true → arriving w.shelf sent ≡ Ok event
    → (let outcome : Result (Unit {0}) cause.KeepFault = Err fault in HasStopped (has_state z) point event y.history outcome)
    → Acts has_state fits node x z (stop_event point node sent) (IsDown fault) w y
stop_fails has_state fits Before node x z sent fault event w y at up is stop = record {
  up = false;
  history = y.history;
  happens = rw (at, is, up) (inr (fault, stop.0, refl, refl));
  in_state = stop.1;
}
stop_fails has_state fits After node x z sent fault event w y at up is stop = record {
  up = false;
  history = (event, stop.0) ∷ y.history;
  happens = rw (at, is, up) (stop.0, stop.1, inr (fault, stop.2.0, refl, refl));
  in_state = stop.2.1;
}

-- a node that is ready is asked
pub asks_ready : {M : Type 0} (chosen : ℕ → Bool) (ghosts : Ghosts M) (xs : List M) (at : ℕ) (x : M) (node : ℕ) (event : WorldEvent) (line : Line)
    → IsReady ghosts.has_state xs node at → x ≡ get_or xs at x → node_of event ≡ Some node
    → ((w : World) (y : Node) → node_at w.nodes node ≡ Some y → y.up ≡ true → ghosts.has_state x true y.history → Happens w event line w)
    → IsNodeStep chosen ghosts (λ _. Unit {0}) (record { old = xs; new = xs }) event line
asks_ready chosen ghosts xs at x node event line ready is here asks =
    step_stay chosen ghosts (λ _. Unit {0}) xs at x node event line true ready.within is (next ready.number) here (λ up h s. sym (ready.up x is up h s))
    (λ w y s there up in_state. asks w y there up in_state)

-- what is put back at its place
pub insert-remove : {X : Type 0} (xs : List X) (i : ℕ) (z : X) → i < length xs → insert (remove xs i) i z ≡ slice_set xs i z
insert-remove [] i z lt = absurd (omega arith)
insert-remove (x ∷ xs) zero z lt = refl
insert-remove (x ∷ xs) (suc i) z lt = ap (λ ys. x ∷ ys) (insert-remove xs i z (omega arith))
