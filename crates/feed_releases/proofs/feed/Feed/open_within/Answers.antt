use Rattle.std.proofs.Common.{ℕ, inl, inr, subst, sym}
use Rattle.feed_model.specs.Content.{Content, within}
use Rattle.feed_model.specs.Sound.{IsSound}
use Rattle.feed_model.proofs.Soundness.{sound_content}
use Rattle.feed_releases.specs.Openings.{IsLoaded}
use Rattle.feed_releases.proofs.feed.Feed.open_within.Goals as goal

pub returns-in-Err-clause-legal : goal.returns-in-Err-clause-legal
returns-in-Err-clause-legal g c = λ clean listed h is damaged. c.in-Err.ensures.damaged damaged clean listed (sound_content (g.K.Keep.content c.args.keeper) h is)

pub returns-in-Err-advance-clause-legal : goal.returns-in-Err-advance-clause-legal
returns-in-Err-advance-clause-legal g c = λ clean listed h is damaged.
    let loaded = subst (IsLoaded g.K.Keep c.args.keeper) (sym c.in-Err-advance.ensures.kept) c.loop-further.invariant.loaded in
    elim c.in-Err-advance.ensures.cause [
      | inl memory ↦ absurd (cc)
      | inr wrong ↦ wrong.1 clean (subst (λ (most : ℕ). IsSound (within most (g.K.Keep.content c.in-Err-advance.fault.keeper))) (sym c.loop-further.invariant.most)
          (subst (λ (content : Content). IsSound (within c.args.most content)) (sym (loaded.content clean)) (sound_content (g.K.Keep.content c.args.keeper) h is)))
    ]
