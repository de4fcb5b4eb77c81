-- Segments: the stored bytes of a file, a finite map from places to bytes.
use Rattle.std.specs.Prelude.{◌≡◌, ◌<◌, ◌≤◌, ◌+◌, ◌-◌, ◌^◌, ℕ, List, length, Option, Some, None, IsSome, All, slice_get, slice_index_or}
use Rattle.feed_model.specs.Content.{Part, byte_in, IsText}
use Rattle.feed_model.specs.Parts.{AreWithin}
use Rattle.feed_parts.specs.declared.segments.Gap.{Gap}

-- the greatest 64-bit number; no part extends past it
abbrev pub last_place : ℕ
last_place = 2 ^ 64 - 1

-- the parts that segments may have
abbrev pub AreSegments : List Part → Type 0
AreSegments parts = AreWithin last_place parts

-- the parts stored, whose map from places to bytes is `byte_in`, and the number of further parts that fit without an
-- allocation
pub record SegmentsValue : Type 0 where
  pub parts : List Part
  pub room : ℕ

-- the parts are inside the file, and no place is missing
pub record IsFull (size : ℕ) (parts : List Part) : Type 0 where
  pub within : AreWithin size parts
  pub every : (place : ℕ) → place < size → IsSome (byte_in parts place)

-- a gap of a file: each of its places is missing and each before it is kept, and it ends at a kept place or at the end
-- of the file
pub record IsGap (has : ℕ → Option ℕ) (size : ℕ) (gap : Gap) : Type 0 where
  pub some : gap.first < gap.end
  pub before : (place : ℕ) → place < gap.first → IsSome (has place)
  pub missing : (place : ℕ) → gap.first ≤ place → place < gap.end → has place ≡ None
  pub within : gap.end ≤ size
  pub after : gap.end < size → IsSome (has gap.end)

-- the first gap, or none if each place is kept
abbrev pub IsFirstGap : (ℕ → Option ℕ) → ℕ → Option Gap → Type 0
IsFirstGap has size None = (place : ℕ) → place < size → IsSome (has place)
IsFirstGap has size (Some gap) = IsGap has size gap

-- the index of the last part that begins at a place or before it
abbrev pub IsLastFrom : List Part → ℕ → Option ℕ → Type 0
IsLastFrom parts place None = All (λ p. place < p.first) parts
IsLastFrom parts place (Some i) =
    (i < length parts) × ((d : Part) → (slice_index_or parts i d).first ≤ place)
    × ((k : ℕ) (d : Part) → i < k → k < length parts → place < (slice_index_or parts k d).first)

-- at most as many probes as the number of parts has binary digits
abbrev pub AreFew : ℕ → ℕ → Type 0
AreFew parts probes = (digits : ℕ) → parts < 2 ^ digits → probes ≤ digits

-- it is the text of the parts, if these are inside a file and no place is missing
abbrev pub IsTextOf : List Part → List ℕ → Type 0
IsTextOf parts text = (size : ℕ) → AreWithin size parts → ((place : ℕ) → place < size → IsSome (byte_in parts place)) → IsText size parts text

-- the parts have these bytes from a place on
abbrev pub HasRun : List Part → ℕ → List ℕ → Type 0
HasRun parts place bytes = (k : ℕ) → k < length bytes → byte_in parts (place + k) ≡ slice_get bytes k
