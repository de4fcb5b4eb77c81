-- The opening of a feed in steps.
use Rattle.std.specs.Prelude.{◌≡◌, ◌<◌, ℕ}
use Rattle.feed_model.specs.Content.{within}
use Rattle.feed_model.specs.Sound.{IsSound}
use Rattle.feed_keep.specs.Loads.{one_more}
use Rattle.feed_keep.specs.declared.keep.Keep.{Ghosts}
use Rattle.feed_releases.specs.declared.feed.opening.Opening.{Opening}
use Rattle.feed_releases.specs.declared.feed.opening.OpeningStep.{OpeningStep}
use Rattle.feed_releases.specs.declared.feed.opening.OpeningStep.TheVariants.{Pending, Opened}
use Rattle.feed_releases.specs.Feeds.{keeper_of, most_of, recorded}

-- the keeper after it was loaded once: its content is the same
pub record IsLoaded {K : Type 0} (ghosts : Ghosts K) (given now : K) : Type 0 where
  pub content : ghosts.clean now → ghosts.content now ≡ ghosts.content given
  pub listed : ghosts.clean now → ∥ ghosts.listed given ∥₁ → ∥ ghosts.listed now ∥₁
  pub clean : ghosts.clean now → ghosts.clean given
  pub loaded : ghosts.loads now ≡ one_more (ghosts.loads given)

-- the keeper of a feed that is being opened
abbrev pub opening_keeper : {K : Type 0} {k : Ghosts K} → Opening K k → K
opening_keeper opening = opening.keeper

-- the most releases that the feed may record once it is open
abbrev pub opening_most : {K : Type 0} {k : Ghosts K} → Opening K k → ℕ
opening_most opening = opening.reopening.most

-- how many steps are left at most before the last one
abbrev pub unchecked : {K : Type 0} {k : Ghosts K} → Opening K k → ℕ
unchecked opening = opening.reopening.left

-- after a step the keeper and the most releases are the same; and there is less to check, or the feed has the content of
-- the keeper
abbrev pub IsOpeningStep : {K : Type 0} {k : Ghosts K} → Opening K k → OpeningStep K k → Type 0
IsOpeningStep was (Pending opening) = (opening_keeper opening ≡ opening_keeper was) × (opening_most opening ≡ opening_most was) × (unchecked opening < unchecked was)
IsOpeningStep {k = k} was (Opened feed) =
    (keeper_of feed ≡ opening_keeper was) × (most_of feed ≡ opening_most was) × IsSound (recorded feed)
    × (k.clean (keeper_of feed) → recorded feed ≡ within (opening_most was) (k.content (keeper_of feed)))
