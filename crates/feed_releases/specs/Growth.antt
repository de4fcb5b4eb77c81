-- The effect of a piece on a release.
use Rattle.std.specs.Prelude.{◌≡◌, ◌<◌, ℕ, List, length}
use Rattle.feed_model.specs.declared.state.State.TheVariants.{Staged}
use Rattle.feed_model.specs.Reply.{missing_below}
use Rattle.feed_model.specs.Content.{Part, Record, byte_in}
use Rattle.feed_model.specs.Change.{Change, merged}
use Rattle.feed_model.specs.Parts.{Adds}
use Rattle.feed_releases.specs.Standing.{IsStandingOf, change_to}
use Rattle.feed_releases.specs.declared.release.growth.Growth.{Growth}

-- the new parts, as model values
abbrev pub parts_of : Growth → List Part
parts_of growth = growth.new.parts

-- the change that stores them
abbrev pub change_of : Record → Growth → Change
change_of r growth = change_to growth.standing r.name (parts_of growth)

-- the release is staged, the new parts and the stored ones together have the bytes of the piece, this many places are
-- still missing, and the file has this status
pub record IsGrowth (r : Record) (first : ℕ) (bytes : List ℕ) (growth : Growth) : Type 0 where
  pub staged : r.state ≡ Staged
  pub some : 0 < length (parts_of growth)
  pub adds : Adds r.size r.parts first bytes (parts_of growth)
  pub missing : growth.missing ≡ missing_below (byte_in (merged r.parts (parts_of growth))) r.size
  pub stands : IsStandingOf r.size (merged r.parts (parts_of growth)) growth.missing growth.standing
