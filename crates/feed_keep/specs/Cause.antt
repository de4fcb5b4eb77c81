-- When a keeper reports a device failure: only if its count of failures rose.
use Rattle.std.specs.Prelude.{◌≡◌, ◌<◌, ◌≤◌, ◌⊎◌, ℕ}

-- the greatest value of a count of failures, at which it stays
abbrev pub most_failures : ℕ
most_failures = 18446744073709551615

-- the count rose, or has its greatest value
abbrev pub HasFailed : ℕ → ℕ → Type 0
HasFailed before now = (before < now) ⊎ (now ≡ most_failures)

-- over several calls the count rose, or has reached its greatest value, which no count exceeds
abbrev pub HasFailedSince : ℕ → ℕ → Type 0
HasFailedSince before now = (before < now) ⊎ (most_failures ≤ now)

-- the count never falls; if a failure is reported, it rose or has its greatest value. For a stop after the commit of an
-- event, whose answer nobody sees
abbrev pub HasCounted : Type 0 → ℕ → ℕ → Type 0
HasCounted reported before now = (before ≤ now) × (reported → HasFailed before now)

-- the count never falls; it rises (or has its greatest value) if a failure is reported, and otherwise stays the same,
-- so a counted failure is never reported as running out of memory
pub record IsCounted (reported : Type 0) (before now : ℕ) : Type 0 where
  pub rises : before ≤ now
  pub failed : reported → HasFailed before now
  pub stays : ¬ reported → now ≡ before
