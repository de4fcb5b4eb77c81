-- Reports of failures and loads that a transcript may make, and some that it may not.
use Rattle.std.proofs.Common.{◌⊎◌, ℕ, suc, [], ◌∷◌, inl, inr, refl, arith}
use Rattle.feed_model.specs.declared.keep_fault.KeepFault.TheVariants.{Device, Memory}
use Rattle.feed_world.specs.World.{Restart, IsDown, Restarted}
use Rattle.feed_keep.specs.Cause.{HasFailedSince}
use Rattle.feed_core.specs.Counts.{AreLoaded, AreReported, HasConcealed, HasDeviceFailure, IsDeviceFailure, loads_shown}

-- the second of two nodes does not start: its device failed
abbrev second_is_down : ℕ → Type 0
second_is_down = HasDeviceFailure (Restart 2 ∷ []) (IsDown Device ∷ [])

never : HasFailedSince 0 0 → ⊥
never (inl rose) = absurd (omega (arith, rose))
never (inr great) = absurd (omega (arith, great))

-- the device of that node did fail
its_own : AreReported second_is_down (λ _. ⊥) (λ n. n) (λ n. n) (0 ∷ 0 ∷ []) (0 ∷ 1 ∷ [])
its_own = (
  record { rises = omega arith; failed = not_first; shown = λ lt. absurd (omega (arith, lt)) },
  (record { rises = omega arith; failed = λ t. inl (omega arith); shown = λ lt. inl (inl (refl, inl refl)) }, tt),
)
  where
    not_first : second_is_down 1 → HasFailedSince 0 0
    not_first (inl t) = let e = t.0 in absurd (cc)
    not_first (inr t) = absurd t

-- no device failed
made_up : AreReported second_is_down (λ _. ⊥) (λ n. n) (λ n. n) (0 ∷ 0 ∷ []) (0 ∷ 0 ∷ []) → ⊥
made_up reported = never (reported.1.0.failed (inl (refl, inl refl)))

-- the device of another node failed
of_another : AreReported second_is_down (λ _. ⊥) (λ n. n) (λ n. n) (0 ∷ 0 ∷ []) (1 ∷ 0 ∷ []) → ⊥
of_another reported = never (reported.1.0.failed (inl (refl, inl refl)))

-- a count fell
falls : AreReported second_is_down (λ _. ⊥) (λ n. n) (λ n. n) (1 ∷ 0 ∷ []) (0 ∷ 1 ∷ []) → ⊥
falls reported = let le = reported.0.rises in absurd (omega (arith, le))

-- a failed device is shown as running out of memory
as_memory : AreReported (HasDeviceFailure (Restart 1 ∷ []) (IsDown Memory ∷ [])) (HasConcealed (Restart 1 ∷ []) (IsDown Memory ∷ [])) (λ n. n) (λ n. n) (0 ∷ []) (1 ∷ []) → ⊥
as_memory reported = told (reported.0.shown (omega arith))
  where
    other : IsDeviceFailure (IsDown Memory) → ⊥
    other (inl e) = cc
    other (inr e) = cc

    told : HasDeviceFailure (Restart 1 ∷ []) (IsDown Memory ∷ []) 1 ⊎ HasConcealed (Restart 1 ∷ []) (IsDown Memory ∷ []) 1 → ⊥
    told (inl (inl t)) = other t.1
    told (inl (inr t)) = t
    told (inr (inl t)) = t.1
    told (inr (inr t)) = t

-- each keeper is loaded as the replay begins, and that of the first node once more
once_more : AreLoaded (λ node. suc (loads_shown (Restart 1 ∷ []) (Restarted ∷ []) node)) (λ n. n) (λ n. n) (0 ∷ 0 ∷ []) (2 ∷ 1 ∷ [])
once_more = (refl, (refl, tt))

-- a restart loads nothing
not_opened : AreLoaded (λ node. suc (loads_shown (Restart 1 ∷ []) (Restarted ∷ []) node)) (λ n. n) (λ n. n) (0 ∷ 0 ∷ []) (1 ∷ 1 ∷ []) → ⊥
not_opened loaded = let e = loaded.0 in absurd (omega (arith, e))

-- the keeper of another node is loaded
another_opened : AreLoaded (λ node. suc (loads_shown (Restart 1 ∷ []) (Restarted ∷ []) node)) (λ n. n) (λ n. n) (0 ∷ 0 ∷ []) (1 ∷ 2 ∷ []) → ⊥
another_opened loaded = let e = loaded.0 in absurd (omega (arith, e))
