-- Worlds at places of a run.
use Rattle.std.proofs.Common.{◌≡◌, ◌<◌, ◌+◌, ℕ, zero, suc, Bool, true, false, List, [], ◌∷◌}
use Rattle.std.proofs.Common.{take, drop, Option, Some, None, slice_get, refl, sym, ◌∙◌, ap, subst, arith}
use Rattle.feed_names.specs.ReleaseName.{Name}
use Rattle.feed_names.specs.ReleaseName.{name_eq}
use Rattle.feed_model.specs.History.{or_else}
use Rattle.feed_world.specs.World.{World, WorldEvent, Publish, Tell, Restart, StopBefore, StopAfter, Report, Ask, Line, file_on, node_at, Happens, Shows}
use Rattle.feed_world.specs.Headline.{file_of, IsQuiet}
use Rattle.feed_world.proofs.Slices.{get-take, get-drop}
use Rattle.feed_world.proofs.Moves.{IsSound, Grows, moves, grows_all, grows_on, grows_step, sound_step, shelf_step, quiet_step}

pub shows_sound : (u v : World) (es : List WorldEvent) (ls : List Line) → IsSound u → Shows u es ls v → IsSound v
shows_sound u v [] [] sound s = subst IsSound s sound
shows_sound u v [] (l ∷ ls) sound s = absurd s
shows_sound u v (e ∷ es) [] sound s = absurd s
shows_sound u v (e ∷ es) (l ∷ ls) sound s = shows_sound s.0 v es ls (sound_step u e s.0 sound (moves u e l s.0 s.1)) s.2

pub shows_grows : (u v : World) (es : List WorldEvent) (ls : List Line) → IsSound u → Shows u es ls v → Grows u v
shows_grows u v [] [] sound s = subst (Grows u) s (grows_all u)
shows_grows u v [] (l ∷ ls) sound s = absurd s
shows_grows u v (e ∷ es) [] sound s = absurd s
shows_grows u v (e ∷ es) (l ∷ ls) sound s = grows_on u s.0 v (grows_step u e s.0 sound (moves u e l s.0 s.1)) (shows_grows s.0 v es ls (sound_step u e s.0 sound (moves u e l s.0 s.1)) s.2)

or_else-assoc : {X : Type 0} (a b c : Option X) → or_else (or_else a b) c ≡ or_else a (or_else b c)
or_else-assoc None b c = refl
or_else-assoc (Some x) b c = refl

file_of-cons : (e : WorldEvent) (es : List WorldEvent) (n : Name) → file_of (e ∷ es) n ≡ or_else (file_of (e ∷ []) n) (file_of es n)
file_of-cons (Publish m bytes) es n = by (name_eq m n) refl
  where
    by : (b : Bool) → name_eq m n ≡ b → file_of (Publish m bytes ∷ es) n ≡ or_else (file_of (Publish m bytes ∷ []) n) (file_of es n)
    by true t = rw t refl
    by false t = rw t refl
file_of-cons (Tell i sent) es n = refl
file_of-cons (Restart i) es n = refl
file_of-cons (StopBefore i sent) es n = refl
file_of-cons (StopAfter i sent) es n = refl
file_of-cons (Report i package_name) es n = refl
file_of-cons (Ask i package_name query) es n = refl

-- the published files are those of the events
pub shows_files : (u v : World) (es : List WorldEvent) (ls : List Line) (n : Name) → Shows u es ls v → file_on v.shelf n ≡ or_else (file_on u.shelf n) (file_of es n)
shows_files u v [] [] n s = ap (λ (z : World). file_on z.shelf n) (sym s) ∙ none (file_on u.shelf n)
  where
    none : {X : Type 0} (o : Option X) → o ≡ or_else o None
    none None = refl
    none (Some x) = refl
shows_files u v [] (l ∷ ls) n s = absurd s
shows_files u v (e ∷ es) [] n s = absurd s
shows_files u v (e ∷ es) (l ∷ ls) n s =
    shows_files s.0 v es ls n s.2
    ∙ ap (λ o. or_else o (file_of es n)) (shelf_step u e s.0 n (moves u e l s.0 s.1))
    ∙ or_else-assoc (file_on u.shelf n) (file_of (e ∷ []) n) (file_of es n)
    ∙ ap (or_else (file_on u.shelf n)) (sym (file_of-cons e es n))

pub file_of-take : (k : ℕ) (es : List WorldEvent) (n : Name) (file : List ℕ) → file_of (take k es) n ≡ Some file → file_of es n ≡ Some file
file_of-take zero es n file e = absurd (cc)
file_of-take (suc k) [] n file e = e
file_of-take (suc k) (x ∷ xs) n file e = file_of-cons x xs n ∙ by (file_of (x ∷ []) n) (sym (file_of-cons x (take k xs) n) ∙ e) (file_of-take k xs n file)
  where
    by : (o : Option (List ℕ)) → or_else o (file_of (take k xs) n) ≡ Some file → (file_of (take k xs) n ≡ Some file → file_of xs n ≡ Some file) → or_else o (file_of xs n) ≡ Some file
    by None t again = again t
    by (Some f) t again = t

pub shows_quiet : (u v : World) (es : List WorldEvent) (ls : List Line) (i : ℕ) → ((m : ℕ) (e : WorldEvent) → slice_get es m ≡ Some e → IsQuiet i e) → Shows u es ls v
    → node_at v.nodes i ≡ node_at u.nodes i
shows_quiet u v [] [] i quiet s = ap (λ (z : World). node_at z.nodes i) (sym s)
shows_quiet u v [] (l ∷ ls) i quiet s = absurd s
shows_quiet u v (e ∷ es) [] i quiet s = absurd s
shows_quiet u v (e ∷ es) (l ∷ ls) i quiet s = shows_quiet s.0 v es ls i (λ m. quiet (suc m)) s.2 ∙ quiet_step u e s.0 i (quiet 0 e refl) (moves u e l s.0 s.1)

-- the worlds before and after a place
pub record IsAt (u v : World) (es : List WorldEvent) (ls : List Line) (k : ℕ) (e : WorldEvent) (l : Line) : Type 0 where
  pub old : World
  pub new : World
  pub come : Shows u (take k es) (take k ls) old
  pub step : Happens old e l new
  pub go : Shows new (drop (suc k) es) (drop (suc k) ls) v

pub place_of : (u v : World) (es : List WorldEvent) (ls : List Line) (k : ℕ) (e : WorldEvent) (l : Line) → Shows u es ls v → slice_get es k ≡ Some e → slice_get ls k ≡ Some l
    → IsAt u v es ls k e l
place_of u v [] ls k e l s a b = absurd (let t : ◌≡◌ {A = Option WorldEvent} None (Some e) = a in cc)
place_of u v (x ∷ xs) [] k e l s a b = absurd s
place_of u v (x ∷ xs) (y ∷ ys) zero e l s a b =
    let same : x ≡ e = cc in
    let line : y ≡ l = cc in
    record { old = u; new = s.0; come = refl; step = subst (λ (z : Line). Happens u e z s.0) line (subst (λ (z : WorldEvent). Happens u z y s.0) same s.1); go = s.2 }
place_of u v (x ∷ xs) (y ∷ ys) (suc k) e l s a b =
    let p = place_of s.0 v xs ys k e l s.2 a b in
    record { old = p.old; new = p.new; come = (s.0, s.1, p.come); step = p.step; go = p.go }

-- the worlds about two places
pub record AreAt (u : World) (es : List WorldEvent) (ls : List Line) (j k : ℕ) (e : WorldEvent) (l : Line) (f : WorldEvent) (m : Line) : Type 0 where
  pub one : World
  pub two : World
  pub three : World
  pub four : World
  pub come : Shows u (take j es) (take j ls) one
  pub first : Happens one e l two
  pub gap : Shows two (drop (suc j) (take k es)) (drop (suc j) (take k ls)) three
  pub reach : Shows u (take k es) (take k ls) three
  pub second : Happens three f m four

-- from the one place to the other
pub between : (u v : World) (es : List WorldEvent) (ls : List Line) (j k : ℕ) (e f : WorldEvent) (l m : Line) → j < k → (s : Shows u es ls v) → (a : slice_get es j ≡ Some e)
    → (b : slice_get ls j ≡ Some l) → (c : slice_get es k ≡ Some f) → (d : slice_get ls k ≡ Some m)
    → Shows (place_of u v es ls j e l s a b).new (drop (suc j) (take k es)) (drop (suc j) (take k ls)) (place_of u v es ls k f m s c d).old
unfolding place_of
between u v [] ls j k e f l m lt s a b c d = absurd (let t : ◌≡◌ {A = Option WorldEvent} None (Some e) = a in cc)
between u v (x ∷ xs) [] j k e f l m lt s a b c d = absurd s
between u v (x ∷ xs) (y ∷ ys) j zero e f l m lt s a b c d = absurd (omega (arith, lt))
between u v (x ∷ xs) (y ∷ ys) zero (suc k) e f l m lt s a b c d = (place_of s.0 v xs ys k f m s.2 c d).come
between u v (x ∷ xs) (y ∷ ys) (suc j) (suc k) e f l m lt s a b c d = between s.0 v xs ys j k e f l m (omega (arith, lt)) s.2 a b c d

pub places_of : (u v : World) (es : List WorldEvent) (ls : List Line) (j k : ℕ) (e f : WorldEvent) (l m : Line) → j < k → Shows u es ls v → slice_get es j ≡ Some e
    → slice_get ls j ≡ Some l → slice_get es k ≡ Some f → slice_get ls k ≡ Some m → AreAt u es ls j k e l f m
places_of u v es ls j k e f l m lt s a b c d =
    let p = place_of u v es ls j e l s a b in
    let q = place_of u v es ls k f m s c d in
    record {
      one = p.old;
      two = p.new;
      three = q.old;
      four = q.new;
      come = p.come;
      first = p.step;
      gap = between u v es ls j k e f l m lt s a b c d;
      reach = q.come;
      second = q.step;
    }

get-take_within : {X : Type 0} (n : ℕ) (xs : List X) (i : ℕ) (x : X) → slice_get (take n xs) i ≡ Some x → i < n
get-take_within zero xs i x e = absurd (cc)
get-take_within (suc n) [] i x e = absurd (cc)
get-take_within (suc n) (y ∷ ys) zero x e = omega arith
get-take_within (suc n) (y ∷ ys) (suc i) x e = omega (arith, get-take_within n ys i x e)

-- an event between two places
pub gap_event : (es : List WorldEvent) (j k m : ℕ) (e : WorldEvent) → slice_get (drop (suc j) (take k es)) m ≡ Some e → (slice_get es (suc j + m) ≡ Some e) × (suc j + m < k)
gap_event es j k m e is =
    let t : slice_get (take k es) (suc j + m) ≡ Some e = sym (get-drop (suc j) (take k es) m (suc j + m) refl) ∙ is in
    (get-take k es (suc j + m) e t, get-take_within k es (suc j + m) e t)
