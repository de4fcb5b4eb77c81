use Rattle.std.proofs.Common.{◌≡◌, ℕ, length}
use Rattle.feed_kbart.specs.Runs.{runs_weight, weight_of}
use Rattle.feed_kbart.specs.declared.entry.Entry.{Entry}
use Rattle.feed_kbart.proofs.runs.Runs.finish.Given as goal

-- the runs that wait have all entries
abbrev pub invariant-loop-waiting : goal.invariant-loop-waiting
invariant-loop-waiting l = (weight : Entry → ℕ) → runs_weight weight l.waiting.items ≡ weight_of weight l.fn.self

abbrev pub decreases-loop-waiting : goal.decreases-loop-waiting
decreases-loop-waiting l = length l.waiting.items
