-- A device that failed, over several calls.
use Rattle.std.proofs.Common.{◌≤◌, ℕ, inl, inr, arith}
use Rattle.feed_keep.specs.Cause.{HasFailed, HasFailedSince, IsCounted}

-- the same count for an equivalent condition
pub reported_as : {P Q : Type 0} {a b : ℕ} → IsCounted P a b → (Q → P) → (P → Q) → IsCounted Q a b
reported_as so less more = record { rises = so.rises; failed = λ q. so.failed (less q); stays = λ not. so.stays (λ p. not (more p)) }

pub failed_since : (a b : ℕ) → HasFailed a b → HasFailedSince a b
failed_since a b (inl rose) = inl rose
failed_since a b (inr great) = inr (omega (arith, great))

pub failed_later : (a b c : ℕ) → HasFailedSince a b → b ≤ c → HasFailedSince a c
failed_later a b c (inl rose) le = inl (omega (arith, rose, le))
failed_later a b c (inr great) le = inr (omega (arith, great, le))

pub failed_before : (a b c : ℕ) → a ≤ b → HasFailedSince b c → HasFailedSince a c
failed_before a b c le (inl rose) = inl (omega (arith, rose, le))
failed_before a b c le (inr great) = inr great
