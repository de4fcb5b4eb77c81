use Rattle.std.proofs.Common.{◌≡◌, ◌<◌, ◌≤◌, ℕ, slice_index}
use Rattle.node_monitoring.specs.declared.histogram.TheConstants.{BOUNDS}
use Rattle.node_monitoring.specs.Histograms.{one_more}
use Rattle.node_monitoring.proofs.histogram.count_in.Given as goal

abbrev pub invariant-loop-place : goal.invariant-loop-place
invariant-loop-place l = record {
  past : (k : ℕ) → k < l.place → slice_index l.buckets k ≡ one_more (slice_index l.fn.buckets k) (slice_index BOUNDS k) l.micros;
  ahead : (k : ℕ) → l.place ≤ k → slice_index l.buckets k ≡ slice_index l.fn.buckets k;
}
