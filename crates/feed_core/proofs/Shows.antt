-- A run continues by one step.
use Rattle.std.proofs.Common.{◌≡◌, ◌<◌, ◌+◌, ◌++◌, ℕ, Bool, true, false, List, [], ◌∷◌, length, map, take, get_or, refl, sym, ap, subst, length-take, arith}
use Rattle.std.specs.Prelude.{if◌then◌else◌, MatchBool}
use Rattle.std.proofs.lemmas.List.{append-nil, length-map, take_more}
use Rattle.feed_world.specs.World.{World, WorldEvent, Line, Happens, Shows, start}
use Rattle.feed_core.specs.Chosen.{events_on, is_on, lines_on}
use Rattle.feed_core.specs.declared.node.Node.{Ghosts}
use Rattle.feed_core.specs.Step.{HappensOn, IsWorldStep, HasShown, Moment}

pub shows-push : (w m v : World) (es : List WorldEvent) (ls : List Line) (e : WorldEvent) (l : Line) → Shows w es ls m → Happens m e l v → Shows w (es ++ e ∷ []) (ls ++ l ∷ []) v
shows-push w m v [] [] e l s h = (v, subst (λ (x : World). Happens x e l v) (sym s) h, refl)
shows-push w m v [] (x ∷ xs) e l s h = absurd s
shows-push w m v (x ∷ xs) [] e l s h = absurd s
shows-push w m v (x ∷ xs) (y ∷ ys) e l s h = (s.0, s.1, shows-push s.0 m v xs ys e l s.2 h)

pub map-push : {X Y : Type 0} (f : X → Y) (es : List X) (e : X) → map f (es ++ e ∷ []) ≡ map f es ++ f e ∷ []
map-push f [] e = refl
map-push f (x ∷ xs) e = ap (λ ys. f x ∷ ys) (map-push f xs e)

-- one more event, which is at a chosen node, or not
events_push : (chosen : ℕ → Bool) (es : List WorldEvent) (e : WorldEvent) → events_on chosen (es ++ e ∷ []) ≡ events_on chosen es ++ (if is_on chosen e then e ∷ [] else [])
events_push chosen [] e = by (is_on chosen e)
  where
    by : (b : Bool) → (if b then e ∷ [] else []) ≡ (if b then e ∷ [] else [])
    by b = refl
events_push chosen (x ∷ xs) e = by (is_on chosen x) (events_push chosen xs e)
  where
    end : List WorldEvent
    end = if is_on chosen e then e ∷ [] else []

    by : (b : Bool) → events_on chosen (xs ++ e ∷ []) ≡ events_on chosen xs ++ end
        → (if b then x ∷ events_on chosen (xs ++ e ∷ []) else events_on chosen (xs ++ e ∷ [])) ≡ (if b then x ∷ events_on chosen xs else events_on chosen xs) ++ end
    by true again = ap (λ ys. x ∷ ys) again
    by false again = again

lines_push : (chosen : ℕ → Bool) (es : List WorldEvent) (ls : List Line) (e : WorldEvent) (l : Line) → length es ≡ length ls
    → lines_on chosen (es ++ e ∷ []) (ls ++ l ∷ []) ≡ lines_on chosen es ls ++ (if is_on chosen e then l ∷ [] else [])
lines_push chosen [] [] e l same = refl
lines_push chosen [] (y ∷ ys) e l same = absurd (omega (arith, same))
lines_push chosen (x ∷ xs) [] e l same = absurd (omega (arith, same))
lines_push chosen (x ∷ xs) (y ∷ ys) e l same = by (is_on chosen x) (lines_push chosen xs ys e l (omega (arith, same)))
  where
    end : List Line
    end = if is_on chosen e then l ∷ [] else []

    by : (b : Bool) → lines_on chosen (xs ++ e ∷ []) (ys ++ l ∷ []) ≡ lines_on chosen xs ys ++ end
        → (if b then y ∷ lines_on chosen (xs ++ e ∷ []) (ys ++ l ∷ []) else lines_on chosen (xs ++ e ∷ []) (ys ++ l ∷ [])) ≡ (if b then y ∷ lines_on chosen xs ys else lines_on chosen xs ys) ++ end
    by true again = ap (λ zs. y ∷ zs) again
    by false again = again

shows_more : (chosen : ℕ → Bool) (w m v : World) (es : List WorldEvent) (ls : List Line) (e : WorldEvent) (l : Line) → length es ≡ length ls
    → Shows w (events_on chosen es) (lines_on chosen es ls) m → HappensOn chosen m e l v
    → Shows w (events_on chosen (es ++ e ∷ [])) (lines_on chosen (es ++ e ∷ []) (ls ++ l ∷ [])) v
shows_more chosen w m v es ls e l same before step = rw (events_push chosen es e, lines_push chosen es ls e l same) (by (is_on chosen e) step)
  where
    by : (b : Bool) → MatchBool b (Happens m e l v) (v ≡ m)
        → Shows w (events_on chosen es ++ (if b then e ∷ [] else [])) (lines_on chosen es ls ++ (if b then l ∷ [] else [])) v
    by true happens = shows-push w m v (events_on chosen es) (lines_on chosen es ls) e l before happens
    by false stays = rw (append-nil (events_on chosen es), append-nil (lines_on chosen es ls)) (subst (λ (x : World). Shows w (events_on chosen es) (lines_on chosen es ls) x) (sym stays) before)

-- one more event and one more line
pub has_more : {M E L : Type 0} (chosen : ℕ → Bool) (ghosts : Ghosts M) (to_event : E → WorldEvent) (shown : L
    → Line) (count : ℕ) (es : List E) (ls ks : List L) (i : ℕ) (e : E) (l : L) (old new : Moment M) → e ≡ get_or es i e
    → i < length es → length ls ≡ i → ks ≡ ls ++ l ∷ [] → HasShown chosen ghosts count (map to_event (take i es)) (map shown ls) old
    → IsWorldStep chosen ghosts old new (to_event e) (shown l) → HasShown chosen ghosts count (map to_event (take (i + 1) es)) (map shown ks) new
has_more {M} {E} chosen ghosts to_event shown count es ls ks i e l old new at lt same is s step = λ a.
    let r = step a in
    let q = s r.0 in
    let t = r.1 q.0 q.2 q.3 in
    let long : length (map to_event (take i es)) ≡ length (map shown ls) = omega (arith, length-map (take i es) to_event, length-map ls shown, length-take i es, lt, same) in (
      t.0,
      rw (is, take_more es i e lt, map-push to_event (take i es) (get_or es i e), map-push shown ls l)
          (shows_more chosen (start count) q.0 t.0 (map to_event (take i es)) (map shown ls) (to_event (get_or es i e)) (shown l) long q.1
          (subst (λ (x : E). HappensOn chosen q.0 (to_event x) (shown l) t.0) at t.1)),
      t.2,
      t.3,
    )
