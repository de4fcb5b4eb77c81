-- The times that the histograms of a node have observed, in microseconds.
use Rattle.std.specs.Prelude.{◌≡◌, ◌<◌, ◌+◌, ℕ, nat_le, List, [], length, get_or, sum, count_by, slice_index, if◌then◌else◌}
use Rattle.node_monitoring.specs.contracts.histogram.Timing.{the_type}
use Rattle.node_monitoring.specs.declared.histogram.TheConstants.{BOUNDS}
use Rattle.node_monitoring.specs.declared.histogram.Timing.{Timing}
use Rattle.node_monitoring.specs.Counts.{capped}
use denote.Enum.Declared.{tag_of}

-- the counts of the buckets, the count of all times, and their sum
pub record HistogramValue : Type 0 where
  pub buckets : List ℕ
  pub count : ℕ
  pub sum : ℕ

-- a count, with one more if a time is within a bound
abbrev pub one_more : ℕ → ℕ → ℕ → ℕ
one_more count bound micros = if nat_le micros bound then capped (count + 1) else count

-- how many times are within a bound
abbrev pub within : ℕ → List ℕ → ℕ
within bound observed = count_by (λ micros. nat_le micros bound) observed

-- each bucket has the number of times within its bound, and the count and the sum are those of all times
pub record HasObserved (h : HistogramValue) (observed : List ℕ) : Type 0 where
  pub size : length h.buckets ≡ 12
  pub buckets : (k : ℕ) → k < 12 → slice_index h.buckets k ≡ capped (within (slice_index BOUNDS k) observed)
  pub count : h.count ≡ capped (length observed)
  pub sum : h.sum ≡ capped (sum observed)

-- the histogram of a kind of time
abbrev pub times_of : List HistogramValue → Timing → HistogramValue
times_of all timing = get_or all (tag_of the_type timing) (record { buckets = []; count = 0; sum = 0 })

-- the other histograms are as before
abbrev pub KeepsOthers : Timing → List HistogramValue → List HistogramValue → Type 0
KeepsOthers timing old new = (other : Timing) → ¬ (other ≡ timing) → times_of new other ≡ times_of old other
