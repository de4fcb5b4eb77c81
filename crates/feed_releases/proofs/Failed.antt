-- A device that failed, over a run.
use Rattle.std.proofs.Common.{◌≡◌, ◌<◌, ◌≤◌, ◌++◌, ◌⊎◌, ℕ, zero, suc, List, [], ◌∷◌, get_or, Err, inl, inr, subst, arith}
use Rattle.std.specs.List.{Contains}
use Rattle.std.proofs.lemmas.List.Elements.{Contains-append_cases}
use Rattle.feed_model.specs.declared.reply.Refusal.TheVariants.{Device}
use Rattle.feed_model.specs.History.{Answer}
use Rattle.feed_keep.specs.Cause.{HasFailed, HasFailedSince}
use Rattle.feed_keep.proofs.Failed.{failed_since, failed_before, failed_later}

-- one more answer
pub answered_more : (answers more : List Answer) (answer : Answer) (a b c : ℕ) → more ≡ answers ++ answer ∷ [] → a ≤ b → b ≤ c
    → (Contains answers (Err Device) → HasFailedSince a b) → (answer ≡ Err Device → HasFailed b c) → Contains more (Err Device) → HasFailedSince a c
answered_more answers more answer a b c is low high before now has = pick (Contains-append_cases answers (answer ∷ []) (Err Device) (subst (λ (xs : List Answer). Contains xs (Err Device)) is has))
  where
    only : (i : ℕ) → i < 1 → get_or (answer ∷ []) i (Err Device) ≡ Err Device → answer ≡ Err Device
    only zero lt at = at
    only (suc i) lt at = absurd (omega (arith, lt))

    pick : Contains answers (Err Device) ⊎ Contains (answer ∷ []) (Err Device) → HasFailedSince a c
    pick (inl earlier) = failed_later a b c (before earlier) high
    pick (inr (i, lt, at)) = failed_before a b c low (failed_since b c (now (only i lt at)))
