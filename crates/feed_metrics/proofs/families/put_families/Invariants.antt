use Rattle.std.proofs.Common.{◌≡◌, ◌++◌, take}
use Rattle.feed_metrics.specs.Exposition.{exposition}
use Rattle.feed_metrics.specs.Rows.{families_in, plain_families}
use Rattle.feed_metrics.proofs.families.put_families.Given as goal

abbrev pub invariant-loop-family : goal.invariant-loop-family
invariant-loop-family g l = l.out.items ≡ l.fn.out.items ++ exposition (families_in (g.V.Sources.values l.sources) (plain_families (take l.family-index l.families)))
