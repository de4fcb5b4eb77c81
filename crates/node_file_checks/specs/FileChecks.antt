-- A description of a file by a client, and the bytes of the file that have arrived from its front on.
use Rattle.std.specs.Prelude.{◌≡◌, ◌==◌, ◌≤◌, ◌<◌, ◌+◌, ◌⊎◌, ℕ, Bool, true, List, length, Option, Some, None}
use Rattle.sha2.specs.Hashers.{Holds256}
use Rattle.sha2.specs.Sha256.{sha256}
use Rattle.node_file_checks.specs.RowCounts.{seen_with}
use Rattle.node_file_checks.specs.declared.front_sum.FrontSum.{FrontSum}

-- a file of this length may be the one that the client means: it says no length, or this one
abbrev pub has_size : Option ℕ → ℕ → Bool
has_size None size = true
has_size (Some expected) size = expected == size

-- the sum is that of exactly these bytes
pub record HasSeen (sum : FrontSum) (seen : List ℕ) : Type 0 where
  pub digest : Holds256 sum.hasher seen
  pub count : sum.count ≡ length seen

-- the bytes from this place on may be submitted as a part of a file of this length and sum. None before them is
-- missing, and they are inside the file. The file does not end with them or has the sum
pub record MayTake (seen : List ℕ) (first : ℕ) (bytes : List ℕ) (size : ℕ) (sum : List ℕ) : Type 0 where
  pub joined : first ≤ length seen
  pub within : first + length bytes ≤ size
  pub summed : (length (seen_with seen first bytes) < size) ⊎ (sha256 (seen_with seen first bytes) ≡ sum)
