-- The model of a feed, and its answer to an event.
use Rattle.std.specs.Prelude.{◌≡◌, ℕ, List, length, Ok, Err, OnErr}
use Rattle.feed_model.specs.declared.reply.Refusal.TheVariants.{Device, Full}
use Rattle.feed_model.specs.declared.reply.Reply.TheVariants as replies
use Rattle.feed_model.specs.History.{Event, Answer}
use Rattle.feed_model.specs.Content.{Recorded, within}
use Rattle.feed_model.specs.Handles.{Handles}
use Rattle.feed_keep.specs.Cause.{IsCounted}
use Rattle.feed_keep.specs.declared.keep.Keep.{Ghosts}
use Rattle.feed_releases.specs.declared.feed.Feed.{Feed}
use Rattle.feed_releases.specs.ReleaseValue.{ReleaseValue, content_of}

-- the feed's keeper
abbrev pub keeper_of : {K : Type 0} {k : Ghosts K} → Feed K k → K
keeper_of feed = feed.keeper

-- the feed's releases in memory
abbrev pub releases_of : {K : Type 0} {k : Ghosts K} → Feed K k → List ReleaseValue
releases_of feed = feed.releases.items

-- the most releases that the feed may record
abbrev pub most_of : {K : Type 0} {k : Ghosts K} → Feed K k → ℕ
most_of feed = feed.most

-- the records formed by the releases in memory, and how many there may be
abbrev pub recorded : {K : Type 0} {k : Ghosts K} → Feed K k → Recorded
recorded feed = within (most_of feed) (content_of (releases_of feed))

-- an answer to an event that commits nothing: each refusal, and each reply without new bytes
abbrev pub CommitsNothing : Answer → Type 0
CommitsNothing (Err refusal) = Unit {0}
CommitsNothing (Ok replies.Known) = Unit {0}
CommitsNothing (Ok replies.Older) = Unit {0}
CommitsNothing (Ok replies.Repeated) = Unit {0}
CommitsNothing (Ok replies.Nothing) = Unit {0}
CommitsNothing (Ok reply) = ⊥

-- the answer is right after every history that the feed may have, and the feed then has that history with the event and
-- the answer added. After an answer that commits nothing its releases are as before. It is full only with the most
-- releases, whose number stays. If its keeper is clean, it was clean before. It reports a device failure exactly if the
-- device failed, and the keeper is not loaded
pub record IsAnsweredBy {K : Type 0} {k : Ghosts K} (old new : Feed K k) (event : Event) (answer : Answer) : Type 0 where
  pub right : Handles (recorded old) event answer (recorded new)
  pub refused : OnErr answer (releases_of new ≡ releases_of old)
  pub idle : CommitsNothing answer → releases_of new ≡ releases_of old
  pub full : answer ≡ Err Full → length (releases_of old) ≡ most_of old
  pub room : most_of new ≡ most_of old
  pub clean : k.clean (keeper_of new) → k.clean (keeper_of old)
  pub device : IsCounted (answer ≡ Err Device) (k.failed (keeper_of old)) (k.failed (keeper_of new))
  pub unloaded : k.loads (keeper_of new) ≡ k.loads (keeper_of old)
