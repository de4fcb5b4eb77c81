-- Nothing happened, and nothing is kept.
use Rattle.std.proofs.Common.{◌≡◌, ◌++◌, ℕ, Bool, true, List, [], ◌∷◌, length, sym, subst}
use Rattle.feed_model.specs.History.{History}
use Rattle.feed_world.specs.World.{start}
use Rattle.feed_core.specs.Step.{AreNodes, rest_of}

-- one more node at the start
pub start_more : {M : Type 0} (chosen : ℕ → Bool) (has_state : M → Bool → History → Type 0) (xs ys : List M) (x : M) → ys ≡ xs ++ x ∷ [] → AreNodes chosen has_state xs (start (length xs)).nodes
    → has_state x true []
    → AreNodes chosen has_state ys (start (length ys)).nodes
start_more {M} chosen has_state xs ys x is a s = subst (λ (zs : List M). AreNodes chosen has_state zs (start (length zs)).nodes) (sym is) (push chosen xs a)
  where
    push : (chosen : ℕ → Bool) (zs : List M) → AreNodes chosen has_state zs (start (length zs)).nodes → AreNodes chosen has_state (zs ++ x ∷ []) (start (length (zs ++ x ∷ []))).nodes
    push chosen [] b = ((λ _. s), tt)
    push chosen (z ∷ zs) b = (b.0, push (rest_of chosen) zs b.1)
