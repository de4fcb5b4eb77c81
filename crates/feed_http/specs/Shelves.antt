-- The files of a shelf, and the count of its failures.
use Rattle.std.specs.Prelude.{◌≡◌, ◌<◌, ◌≤◌, ◌⊎◌, ◌^◌, ◌-◌, ℕ, List, Option, Result, IsErrOf}
use Rattle.feed_names.specs.ReleaseName.{Name}
use Rattle.feed_http_heads.specs.declared.http_fault.HttpFault.{HttpFault}
use Rattle.feed_http_heads.specs.declared.http_fault.HttpFault.TheVariants as http
use Rattle.feed_http.specs.declared.serving.shelf.ShelfFault.{ShelfFault}
use Rattle.feed_http.specs.declared.serving.shelf.ShelfFault.TheVariants.{Device, Memory}

-- the file of each release, if the shelf has it
abbrev pub Files : Type 0
Files = Name → Option (List ℕ)

-- the count of failures rose, or has its greatest value
abbrev pub CountsFailure : ℕ → ℕ → Type 0
CountsFailure old new = (old < new) ⊎ (new ≡ 2 ^ 64 - 1)

-- the count never falls; it rises (or has its greatest value) if a failure is reported, and otherwise stays the same
pub record IsCounted (reported : Type 0) (before now : ℕ) : Type 0 where
  pub rises : before ≤ now
  pub failed : reported → CountsFailure before now
  pub stays : ¬ reported → now ≡ before

-- the fault of an exchange whose shelf failed
abbrev pub http_fault_of : ShelfFault → HttpFault
http_fault_of Device = http.Shelf
http_fault_of Memory = http.Memory

-- a response leaves the files of the shelf as they were, and reports each failure that the shelf counts
abbrev pub IsShelfKept : Option Files → Option Files → ℕ → ℕ → Result ℕ HttpFault → Type 0
IsShelfKept old new before after result = (new ≡ old) × IsCounted (IsErrOf result http.Shelf) before after
