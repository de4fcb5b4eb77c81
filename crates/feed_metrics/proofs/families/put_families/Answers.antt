use Rattle.std.proofs.Common.{◌≡◌, ◌++◌, subst}
use Rattle.feed_metrics.specs.Exposition.{exposition}
use Rattle.feed_metrics.specs.Rows.{families_of, plain_family}
use Rattle.feed_metrics.proofs.RowsWritten.{families_add, row_written}
use Rattle.feed_metrics.proofs.families.put_families.Goals as goal

pub loop-family-preserved : goal.loop-family-preserved
loop-family-preserved g c =
    row_written (λ families. exposition families) families_add (families_of (g.V.Sources.values c.args.sources.now)) plain_family
    c.args.families.now c.loop-family.family-index c.family-item.result c.args.out.now.items c.loop-family.out.items c.put_family.new.out.items
    c.loop-family-test.true c.loop-family.invariant
    (subst (λ family. c.put_family.new.out.items ≡ c.loop-family.out.items
    ++ exposition (families_of (g.V.Sources.values c.args.sources.now) (plain_family family)))
    c.family-item.is c.in_ok-put_family.ensures)
