-- The effect of a commit on the keeper of a feed.
use Rattle.std.specs.Prelude.{◌≡◌, ◌⊎◌, Result, Err, OnOk, OnErr, IfErr}
use Rattle.feed_model.specs.declared.reply.Refusal.{Refusal}
use Rattle.feed_model.specs.declared.reply.Refusal.TheVariants.{Memory, Device}
use Rattle.feed_model.specs.Change.{Change, after}
use Rattle.feed_keep.specs.Cause.{IsCounted}
use Rattle.feed_keep.specs.declared.keep.Keep.{Ghosts}

-- the whole change is made, or the content stays the same; only running out of memory or a failed device refuses it
pub record IsCommitted {K T : Type 0} (ghosts : Ghosts K) (change : Change) (old new : K) (outcome : Result T Refusal) : Type 0 where
  pub made : OnOk outcome (ghosts.clean new → ghosts.content new ≡ after change (ghosts.content old))
  pub refused : OnErr outcome (ghosts.clean new → ghosts.content new ≡ ghosts.content old)
  pub was : ghosts.clean new → ghosts.clean old
  pub fault : IfErr outcome (λ fault. (fault ≡ Memory) ⊎ (fault ≡ Device))
  pub counted : IsCounted (outcome ≡ Err Device) (ghosts.failed old) (ghosts.failed new)
  pub unloaded : ghosts.loads new ≡ ghosts.loads old
