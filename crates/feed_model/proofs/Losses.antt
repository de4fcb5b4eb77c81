-- The answer to a loss, and where nothing happened yet.
use Rattle.std.proofs.Common.{ℕ, Ok, refl}
use Rattle.feed_names.specs.ReleaseName.{Name}
use Rattle.feed_model.specs.declared.reply.Reply.TheVariants as replies
use Rattle.feed_model.specs.History.{Lost}
use Rattle.feed_model.specs.Content.{Content, within}
use Rattle.feed_model.specs.Handles.{Handles}
use Rattle.feed_model.proofs.Idle.{unchanged}

pub loss : {most : ℕ} (c : Content) (n : Name) → Handles (within most c) (Lost n) (Ok replies.Nothing) (within most c)
loss c n = unchanged c (Lost n) (Ok replies.Nothing) refl refl (λ h is. refl)
