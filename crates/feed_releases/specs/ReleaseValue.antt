-- The model value of a recorded release.
use Rattle.std.specs.Prelude.{◌≡◌, ◌≢◌, ◌<◌, ◌≤◌, ℕ, true, false, List, Option, Some, None, map, length, slice_index_or}
use Rattle.feed_names.specs.ReleaseName.{Name, name_eq, IsEarlier}
use Rattle.feed_kbart.specs.HoldingsValue.{HoldingsValue}
use Rattle.feed_kbart.specs.Files.{holdings_of}
use Rattle.feed_model.specs.File.{fault_of}
use Rattle.feed_model.specs.Reply.{max_file, missing_below}
use Rattle.feed_model.specs.Content.{Part, Record, Content, byte_in, IsText}
use Rattle.feed_model.specs.declared.state.State.{State}
use Rattle.feed_model.specs.declared.state.State.TheVariants.{Staged, Broken, Active}
use Rattle.feed_model.specs.Parts.{DiffersIn, AgreesIn, HasNew, Covers, AreWithin}
use Rattle.feed_releases.specs.Standing.{IsStandingOf, state_of, reason_of}
use Rattle.feed_releases.specs.declared.standing.Standing.{Standing}
use Rattle.feed_releases.specs.declared.release.Overlap.{Overlap}
use Rattle.feed_releases.specs.declared.release.Overlap.TheVariants.{Conflict, Kept, New}

-- its record, and its holdings if it is active
pub record ReleaseValue : Type 0 where
  pub kept : Record
  pub holdings : Option HoldingsValue

-- the holdings agree with the file: an active release has a good file with these holdings, a broken one a bad file and
-- no holdings
abbrev pub IsKnown : State → ℕ → List Part → Option HoldingsValue → Type 0
IsKnown Staged size parts holdings = holdings ≡ None
IsKnown Broken size parts holdings = (text : List ℕ) × IsText size parts text × (fault_of text ≢ None) × (holdings ≡ None)
IsKnown Active size parts holdings = (text : List ℕ) × IsText size parts text × (fault_of text ≡ None) × (holdings ≡ Some (holdings_of text))

-- the record of a release whose file has this status
abbrev pub record_with : Name → ℕ → Standing → List Part → Record
record_with name size standing parts = record { name = name; size = size; state = state_of standing; reason = reason_of standing; parts = parts }

-- the parts are inside the file, whose size is within the limit, and the file has this status
pub record IsRelease (size : ℕ) (parts : List Part) (standing : Standing) : Type 0 where
  pub within : AreWithin size parts
  pub limit : size ≤ max_file
  pub stands : IsStandingOf size parts (missing_below (byte_in parts) size) standing

-- the records of releases
abbrev pub content_of : List ReleaseValue → Content
content_of releases = map (λ r. r.kept) releases

-- the first release of the name is at this place
pub record IsPlaceOf (releases : List ReleaseValue) (n : Name) (i : ℕ) : Type 0 where
  pub within : i < length releases
  pub here : (d : ReleaseValue) → name_eq (slice_index_or releases i d).kept.name n ≡ true
  pub before : (k : ℕ) (d : ReleaseValue) → k < i → name_eq (slice_index_or releases k d).kept.name n ≡ false

-- an active release that is later than the name, in its package
abbrev pub IsActiveAfter : Name → ReleaseValue → Type 0
IsActiveAfter n r = (r.kept.state ≡ Active) × IsEarlier n r.kept.name

-- an active release of the package
abbrev pub IsActiveOf : List ℕ → ReleaseValue → Type 0
IsActiveOf package_name r = (r.kept.state ≡ Active) × (r.kept.name.package_name ≡ package_name)

-- how a piece overlaps the stored bytes of a release
abbrev pub IsOverlapOf : Record → ℕ → List ℕ → Overlap → Type 0
IsOverlapOf r first bytes Conflict = DiffersIn r.parts first bytes
IsOverlapOf r first bytes Kept = AgreesIn r.parts first bytes × Covers r.parts first bytes
IsOverlapOf r first bytes New = AgreesIn r.parts first bytes × HasNew r.parts first bytes × (r.state ≡ Staged)
