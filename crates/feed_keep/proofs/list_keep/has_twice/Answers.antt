use Rattle.std.proofs.Common.{refl, arith}
use Rattle.feed_keep.proofs.Twice.{apart_next, apart_distinct, twice_not}
use Rattle.feed_keep.proofs.list_keep.has_twice.Goals as goal

pub loop-at-init : goal.loop-at-init
loop-at-init c = λ i j d less lt within. absurd (omega (arith, lt))

pub returns-in-Some : goal.returns-in-Some
returns-in-Some c = (
  λ e. absurd (cc),
  λ distinct. absurd
      (twice_not c.args.records.now c.loop-at.at c.in-Some.field-0 c.index-records-at.result c.loop-at-test.true c.index-records-at.is c.in-Some.ensures.found distinct),
)

pub loop-at-preserved : goal.loop-at-preserved
loop-at-preserved c = apart_next c.args.records.now c.loop-at.at c.index-records-at.result c.loop-at.invariant c.loop-at-test.true c.index-records-at.is c.in_default.ensures.none

pub returns : goal.returns
returns c = (λ e. apart_distinct c.args.records.now c.loop-at.at c.loop-at.invariant c.loop-at-test.false, λ distinct. refl)
