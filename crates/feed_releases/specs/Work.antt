-- The work of a feed that no answer waits for.
use Rattle.std.specs.Prelude.{◌+◌, ℕ, List, Option, Some, None, slice_get}
use Rattle.feed_keep.specs.declared.keep.Keep.{Ghosts}
use Rattle.feed_releases.specs.ReleaseValue.{ReleaseValue}
use Rattle.feed_releases.specs.Leftovers.{left_of_all}
use Rattle.feed_releases.specs.FileCheck.{unread_of}
use Rattle.feed_releases.specs.declared.file_check.FileCheck.{FileCheck}
use Rattle.feed_releases.specs.declared.ahead.Ahead.{Ahead}
use Rattle.feed_releases.specs.declared.feed.Feed.{Feed}

-- what the check of a release did not read yet
abbrev pub unread_at : Option ReleaseValue → FileCheck → ℕ
unread_at None running = 0
unread_at (Some release) running = unread_of release.kept running

-- what is to be read ahead
abbrev pub unread_in : List ReleaseValue → Option Ahead → ℕ
unread_in releases None = 0
unread_in releases (Some ahead) = unread_at (slice_get releases ahead.at) ahead.running

-- the stored bytes that are to be read ahead
abbrev pub unread : {K : Type 0} {k : Ghosts K} → Feed K k → ℕ
unread feed = unread_in feed.releases.items feed.ahead

-- all the work that is left; none if there is nothing to read ahead and nothing to free
abbrev pub work_left : {K : Type 0} {k : Ghosts K} → Feed K k → ℕ
work_left feed = unread feed + left_of_all feed.leftovers.items
