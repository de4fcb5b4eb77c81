use Rattle.std.proofs.Common.{◌≡◌, ◌≢◌, ◌⊎◌, [], inl, inr, sym, subst, refl}
use Rattle.feed_model.specs.declared.keep_fault.KeepFault.{KeepFault}
use Rattle.feed_model.specs.declared.keep_fault.KeepFault.TheVariants.{Memory, Device, Damaged}
use Rattle.feed_model.specs.Content.{Content, within}
use Rattle.feed_model.specs.Reply.{max_held}
use Rattle.feed_model.specs.Sound.{IsSound}
use Rattle.feed_model.proofs.Soundness.{sound_empty}
use Rattle.feed_core.proofs.slot.NodeSlot.start.Goals as goal

-- an empty content is not damaged
refused : (cause : KeepFault) (failed clean listed : Type 0) (content : Content) → (cause ≡ Device → failed) → (cause ≡ Damaged → clean → listed → ¬ (IsSound (within max_held content)))
    → cause ≢ Memory
    → failed ⊎ (clean → listed → content ≢ [])
refused Memory failed clean listed content device damaged other = absurd (other refl)
refused Device failed clean listed content device damaged other = inl (device refl)
refused Damaged failed clean listed content device damaged other = inr (λ c l empty. damaged refl c l (subst (λ (c : Content). IsSound (within max_held c)) (sym empty) sound_empty))

pub returns-in-Err-clause-err : goal.returns-in-Err-clause-err
returns-in-Err-clause-err g c = refused c.in-Err.fault.cause _ (g.K.Keep.clean c.in-Err.fault.keeper) (∥ g.K.Keep.listed c.args.keeper ∥₁)
    (g.K.Keep.content c.args.keeper) c.in-Err.ensures.device.failed c.in-Err.ensures.damaged
