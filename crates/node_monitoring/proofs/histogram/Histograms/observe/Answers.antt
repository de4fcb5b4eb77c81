use Rattle.std.proofs.Common.{◌<◌, ℕ, List, [], sym, subst}
use Rattle.node_monitoring.specs.contracts.histogram.Timing.{the_type}
use Rattle.node_monitoring.specs.Histograms.{HistogramValue, HasObserved, times_of}
use Rattle.node_monitoring.proofs.Timed.{observed_at, placed}
use Rattle.node_monitoring.proofs.histogram.Histograms.observe.Goals as goal
use denote.Enum.Declared.{tag_of}

pub returns-clause-observed : goal.returns-clause-observed
returns-clause-observed c observed has =
    observed_at c.self.inside.all (tag_of the_type c.args.timing) c.args.micros (record { buckets = []; count = 0; sum = 0 })
    c.index-self-timing.result c.observe.new.self
    (subst (λ (size : ℕ). tag_of the_type c.args.timing < size) (sym c.self.invariant) (placed c.args.timing)) c.observe.ensures observed
    (subst (λ (all : List HistogramValue). HasObserved (times_of all c.args.timing) observed) (sym c.self.view_is) has)
