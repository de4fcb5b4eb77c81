-- The histograms of the kinds of times.
use Rattle.std.proofs.Common.{◌<◌, ◌∷◌, ℕ, List, length, sym, subst, arith, get_or, set}
use Rattle.std.proofs.lemmas.List.{get_or-set_same, get_or_default}
use Rattle.node_monitoring.specs.declared.histogram.Timing.{Timing}
use Rattle.node_monitoring.specs.declared.histogram.Timing.TheVariants.{Request, Turn, Commit}
use Rattle.node_monitoring.specs.declared.histogram.TheConstants.{TIMING_COUNT}
use Rattle.node_monitoring.specs.contracts.histogram.Timing.{the_type}
use Rattle.node_monitoring.specs.Histograms.{HistogramValue, HasObserved}
use denote.Enum.Declared.{tag_of}

-- the place of a kind is one of a histogram
pub placed : (timing : Timing) → tag_of the_type timing < TIMING_COUNT
placed Request = omega arith
placed Turn = omega arith
placed Commit = omega arith

-- a histogram that observed a time is at its place, whatever is at a place without one
pub observed_at : (all : List HistogramValue) (k micros : ℕ) (none old new : HistogramValue) → k < length all
    → ((observed : List ℕ) → HasObserved (get_or all k old) observed → HasObserved new (micros ∷ observed))
    → (observed : List ℕ) → HasObserved (get_or all k none) observed → HasObserved (get_or (set all k new) k none) (micros ∷ observed)
observed_at all k micros none old new inside step observed has =
    subst (λ (h : HistogramValue). HasObserved h (micros ∷ observed)) (sym (get_or-set_same all k new none inside))
    (step observed (subst (λ (h : HistogramValue). HasObserved h observed) (get_or_default all k none old inside) has))
