-- The steps of an opening are those of the opening that it began with.
use Rattle.std.proofs.Common.{◌≡◌, ◌∙◌, ℕ, sym, ap, subst}
use Rattle.feed_keep.specs.declared.keep.Keep.{Ghosts}
use Rattle.feed_model.specs.Content.{within}
use Rattle.feed_model.specs.Sound.{IsSound}
use Rattle.feed_releases.specs.Feeds.{keeper_of}
use Rattle.feed_releases.specs.Openings.{IsOpeningStep, opening_keeper, opening_most}
use Rattle.feed_releases.specs.declared.feed.Feed.{Feed}
use Rattle.feed_releases.specs.declared.feed.opening.Opening.{Opening}
use Rattle.feed_releases.specs.declared.feed.opening.OpeningStep.TheVariants.{Opened}

module _ {K : Type 0} {k : Ghosts K} (first rest : Opening K k) (keeper : opening_keeper rest ≡ opening_keeper first) (most : opening_most rest ≡ opening_most first) where
  -- a feed that is open after a step is one of the opening at first
  pub opened_again : (feed : Feed K k) → IsOpeningStep rest (Opened feed) → IsOpeningStep first (Opened feed)
  opened_again feed is =
      (is.0 ∙ keeper, is.1 ∙ most, is.2, λ clean. is.3 clean ∙ ap (λ (m : ℕ). within m (k.content (keeper_of feed))) most)

  -- so is a keeper with records that no feed has
  pub unsound_again : (now : K) → now ≡ opening_keeper rest → (k.clean now → ¬ (IsSound (within (opening_most rest) (k.content now))))
      → k.clean (opening_keeper first) → ¬ (IsSound (within (opening_most first) (k.content (opening_keeper first))))
  unsound_again now same unsound =
      subst (λ (m : ℕ). k.clean (opening_keeper first) → ¬ (IsSound (within m (k.content (opening_keeper first))))) most
      (subst (λ (x : K). k.clean x → ¬ (IsSound (within (opening_most rest) (k.content x)))) (same ∙ keeper) unsound)
