-- A step of one node as a step of the world, and lists that advance together.
use Rattle.std.proofs.Common.{◌≡◌, ◌+◌, ◌++◌, ℕ, suc, Bool, true, None, List, [], ◌∷◌, length, slice_get, Some, refl, sym, ◌∙◌, ap, subst, arith}
use Rattle.std.specs.Prelude.{MatchBool}
use Rattle.std.specs.Option.{option_map_or}
use Rattle.std.proofs.lemmas.List.{append-nil, length-append}
use Rattle.std.proofs.Math.Seq.{append_snoc}
use Rattle.feed_model.specs.History.{History}
use Rattle.feed_model.specs.Content.{Content, IsContent, within}
use Rattle.feed_model.specs.Reply.{max_held}
use Rattle.feed_world.specs.World.{World, Node, WorldEvent, Line, Shelf, Happens}
use Rattle.feed_core.specs.Chosen.{node_of}
use Rattle.feed_core.specs.declared.node.Node.{Ghosts}
use Rattle.feed_core.specs.Step.{AllClean, AreNodes, AreKept, Files, IsNodeStep, IsWorldStep, IsShelf, rest_of}

-- a node advances, and the published files stay the same
pub step_to : {M : Type 0} (chosen : ℕ → Bool) (ghosts : Ghosts M) (fits : Shelf
    → Type 0) (files : Files) (old new : List M) (event : WorldEvent) (line : Line) → ((shelf : Shelf) → IsShelf files shelf → fits shelf)
    → IsNodeStep chosen ghosts fits (record { old = old; new = new }) event line → IsWorldStep chosen ghosts (record { files = files; nodes = old }) (record { files = files; nodes = new }) event line
step_to chosen ghosts fits files old new event line fit step all =
    let r = step all in
    (r.0, λ w is n. (let t = r.1 w (fit w.shelf is) n in (t.0, t.1, subst (IsShelf files) (sym t.2) is, t.3)))

-- a file is published, and the nodes stay
pub publishes : {M : Type 0} (chosen : ℕ → Bool) (ghosts : Ghosts M) (before files : Files) (nodes : List M) (event : WorldEvent)
    (line : Line) → node_of event ≡ None
    → ((w : World) → IsShelf before w.shelf → (v : World) × Happens w event line v × IsShelf files v.shelf × (v.nodes ≡ w.nodes))
    → IsWorldStep chosen ghosts (record { files = before; nodes = nodes }) (record { files = files; nodes = nodes }) event line
publishes chosen ghosts before files nodes event line none publish all = (
  all,
  λ w is n. (let t = publish w is in let seen = ap (λ o. option_map_or chosen o true) none in
      (t.0, subst (λ (b : Bool). MatchBool b (Happens w event line t.0) (t.0 ≡ w)) (sym seen) t.1, t.2, subst (AreNodes chosen ghosts.has_state nodes) (sym t.3) n)),
)

-- two lists whose elements at each place are related
abbrev pub AreOf : {S K : Type 0} → (S → K → Type 0) → List S → List K → Type 0
AreOf law [] [] = Unit {0}
AreOf law (s ∷ ss) (k ∷ ks) = law s k × AreOf law ss ks
AreOf law [] (k ∷ ks) = ⊥
AreOf law (s ∷ ss) [] = ⊥

of-push : {S K : Type 0} (law : S → K → Type 0) (ss : List S) (ks : List K) (s : S) (k : K) → AreOf law ss ks → law s k → AreOf law (ss ++ s ∷ []) (ks ++ k ∷ [])
of-push law [] [] s k so is = (is, tt)
of-push law [] (x ∷ xs) s k so is = absurd so
of-push law (x ∷ xs) [] s k so is = absurd so
of-push law (x ∷ xs) (y ∷ ys) s k so is = (so.0, of-push law xs ys s k so.1 is)

of-length : {S K : Type 0} (law : S → K → Type 0) (ss : List S) (ks : List K) → AreOf law ss ks → length ss ≡ length ks
of-length law [] [] so = refl
of-length law [] (y ∷ ys) so = absurd so
of-length law (x ∷ xs) [] so = absurd so
of-length law (x ∷ xs) (y ∷ ys) so = ap suc (of-length law xs ys so.1)

get-middle : {X : Type 0} (xs : List X) (y : X) (zs : List X) → slice_get (xs ++ y ∷ zs) (length xs) ≡ Some y
get-middle [] y zs = refl
get-middle (x ∷ xs) y zs = get-middle xs y zs

-- the first elements have what they are made into, and the rest are to come
pub record IsDoneUpTo {S K : Type 0} (law : S → K → Type 0) (all rest : List S) (made : List K) : Type 0 where
  pub done : List S
  pub order : done ++ rest ≡ all
  pub each : AreOf law done made

pub done_start : {S K : Type 0} (law : S → K → Type 0) (all rest : List S) (made : List K) → rest ≡ all → made ≡ [] → IsDoneUpTo law all rest made
done_start law all rest made same none = rw (same, none) (record { done = []; order = refl; each = tt })

pub done_next : {S K : Type 0} (law : S → K → Type 0) (all rest more : List S) (made now : List K) (s : S) (k : K) → IsDoneUpTo law all rest made → rest ≡ s ∷ more → law s k
    → now ≡ made ++ k ∷ [] → IsDoneUpTo law all more now
done_next {S} {K} law all rest more made now s k so is holds pushed = record {
  done = so.done ++ s ∷ [];
  order = append_snoc so.done s more ∙ ap (λ (xs : List S). so.done ++ xs) (sym is) ∙ so.order;
  each = subst (λ (ks : List K). AreOf law (so.done ++ s ∷ []) ks) (sym pushed) (of-push law so.done made s k so.each holds);
}

pub done_all : {S K : Type 0} (law : S → K → Type 0) (all rest : List S) (made : List K) → IsDoneUpTo law all rest made → rest ≡ [] → AreOf law all made
done_all {S} law all rest made so none = subst (λ (xs : List S). AreOf law xs made) (sym (append-nil so.done) ∙ ap (λ (xs : List S). so.done ++ xs) (sym none) ∙ so.order) so.each

pub done_count : {S K : Type 0} (law : S → K → Type 0) (all rest : List S) (made : List K) → IsDoneUpTo law all rest made → length made + length rest ≡ length all
done_count law all rest made so = omega (arith, of-length law so.done made so.each, length-append so.done rest, ap length so.order)

pub done_at : {S K : Type 0} (law : S → K → Type 0) (all rest more : List S) (made : List K) (s : S) → IsDoneUpTo law all rest made → rest ≡ s ∷ more → slice_get all (length made) ≡ Some s
done_at {S} law all rest more made s so is =
    ap (slice_get all) (sym (of-length law so.done made so.each)) ∙ ap (λ (xs : List S). slice_get xs (length so.done)) (sym so.order ∙ ap (λ (xs : List S). so.done ++ xs) is)
    ∙ get-middle so.done s more

-- a keeper was clean in its node if it is, and holds a list of records, which is a content of the node's history
abbrev pub IsKeptOf : {M K : Type 0} → (M → Type 0) → (M → Bool → History → Type 0) → (K → Type 0) → (K → Content) → (K → Type 0) → M → K → Type 0
IsKeptOf node_clean has_state clean content listed s k = (clean k → node_clean s) × (clean k → (up : Bool) (h : History) → has_state s up h → IsContent (within max_held (content k)) h × ∥ listed k ∥₁)

pub kept_clean : {M K : Type 0} (chosen : ℕ → Bool) (node_clean : M → Type 0) (has_state : M → Bool → History → Type 0) (clean : K → Type 0) (content : K → Content) (listed : K → Type 0)
    (ss : List M) (ks : List K) → AreOf (IsKeptOf node_clean has_state clean content listed) ss ks → AllClean chosen clean ks → AllClean chosen node_clean ss
kept_clean chosen node_clean has_state clean content listed [] [] so all = tt
kept_clean chosen node_clean has_state clean content listed [] (k ∷ ks) so all = absurd so
kept_clean chosen node_clean has_state clean content listed (s ∷ ss) [] so all = absurd so
kept_clean chosen node_clean has_state clean content listed (s ∷ ss) (k ∷ ks) so all =
    ((λ c. so.0.0 (all.0 c)), kept_clean (rest_of chosen) node_clean has_state clean content listed ss ks so.1 all.1)

pub kept_all : {M K : Type 0} (chosen : ℕ → Bool) (node_clean : M → Type 0) (has_state : M → Bool → History → Type 0) (clean : K → Type 0) (content : K → Content) (listed : K → Type 0)
    (ss : List M) (ks : List K) (ys : List Node) → AreOf (IsKeptOf node_clean has_state clean content listed) ss ks → AllClean chosen clean ks → AreNodes chosen has_state ss ys
    → AreKept chosen content listed ks ys
kept_all chosen node_clean has_state clean content listed [] [] [] so all n = tt
kept_all chosen node_clean has_state clean content listed [] [] (y ∷ ys) so all n = absurd n
kept_all chosen node_clean has_state clean content listed [] (k ∷ ks) ys so all n = absurd so
kept_all chosen node_clean has_state clean content listed (s ∷ ss) [] ys so all n = absurd so
kept_all chosen node_clean has_state clean content listed (s ∷ ss) (k ∷ ks) [] so all n = absurd n
kept_all chosen node_clean has_state clean content listed (s ∷ ss) (k ∷ ks) (y ∷ ys) so all n =
    ((λ c. so.0.1 (all.0 c) y.up y.history (n.0 c)), kept_all (rest_of chosen) node_clean has_state clean content listed ss ks ys so.1 all.1 n.1)
