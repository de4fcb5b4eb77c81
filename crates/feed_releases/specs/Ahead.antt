-- The release of a feed whose file is read ahead.
use Rattle.std.specs.Prelude.{◌≡◌, ◌<◌, ℕ, List, length, slice_index_or, Option, Some}
use Rattle.feed_releases.specs.declared.file_check.FileCheck.{FileCheck}
use Rattle.feed_releases.specs.declared.ahead.Ahead.{Ahead}
use Rattle.feed_releases.specs.ReleaseValue.{ReleaseValue}
use Rattle.feed_releases.specs.FileCheck.{IsCheckOf}

-- the check received stored bytes of the release at this place
abbrev pub IsReadAt : List ReleaseValue → ℕ → FileCheck → Type 0
IsReadAt releases at running = (d : ReleaseValue) → IsCheckOf (slice_index_or releases at d).kept.parts running

-- at most one release is read ahead, and it is among the releases
abbrev pub IsAhead : List ReleaseValue → Option Ahead → Type 0
IsAhead releases ahead = (a : Ahead) → ahead ≡ Some a → (a.at < length releases) × IsReadAt releases a.at a.running
