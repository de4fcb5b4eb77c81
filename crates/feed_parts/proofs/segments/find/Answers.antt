use Rattle.std.proofs.Common.{◌≤◌, ◌-◌, ℕ, Option, Some, None, arith}
use Rattle.std.specs.Option.{SomeIff}
use Rattle.feed_parts.specs.Segments.{IsLastFrom}
use Rattle.feed_parts.specs.Shown.{shown_parts}
use Rattle.feed_parts.proofs.Search.{search_start, search_after, search_before, found_none, found_some}
use Rattle.feed_parts.proofs.segments.find.Goals as goal

pub loop-low-init : goal.loop-low-init
loop-low-init c = search_start c.args.parts.now c.args.place c.args.probes.now (omega arith)

pub overflow_add-probes : goal.overflow_add-probes
overflow_add-probes c = omega (arith, c.loop-low.invariant.few 64 c.loop-low.invariant.small)

pub loop-low-preserved-then-parts-middle : goal.loop-low-preserved-then-parts-middle
loop-low-preserved-then-parts-middle c = search_after _ _ _ _ _ _ c.requires.order c.loop-low.invariant c.loop-low-test.true c.index-parts-middle.result c.if-parts-middle.true

pub loop-low-preserved : goal.loop-low-preserved
loop-low-preserved c = search_before _ _ _ _ _ _ c.requires.order c.loop-low.invariant c.loop-low-test.true c.index-parts-middle.result (omega (arith, c.if-parts-middle.false))

pub returns-clause-found : goal.returns-clause-found
returns-clause-found c = by c.checked_sub.result c.checked_sub.ensures
  where
    by : (o : Option ℕ) → SomeIff o (1 ≤ c.loop-low.low) (c.loop-low.low - 1) → IsLastFrom (shown_parts c.args.parts.now) c.args.place o
    by None none = found_none _ _ _ _ _ _ c.loop-low.invariant c.loop-low-test.false (omega (arith, none))
    by (Some i) some = found_some _ _ _ _ _ _ i c.loop-low.invariant c.loop-low-test.false (omega (arith, some.0, some.1))

pub returns-clause-few : goal.returns-clause-few
returns-clause-few c digits lt = omega (arith, c.loop-low.invariant.few digits lt)
