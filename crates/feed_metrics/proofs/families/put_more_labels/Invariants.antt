use Rattle.std.proofs.Common.{◌≡◌, ◌++◌, take, codes}
use Rattle.std.specs.List.{flat_map}
use Rattle.feed_metrics.specs.Exposition.{label_pair}
use Rattle.feed_metrics.specs.Rows.{labels_at, plain_labels}
use Rattle.feed_metrics.proofs.families.put_more_labels.Given as goal

abbrev pub invariant-loop-label : goal.invariant-loop-label
invariant-loop-label g l = l.out.items ≡ l.fn.out.items ++ flat_map (label_pair (codes ",")) (labels_at (g.V.Sources.values l.sources) l.place (plain_labels (take l.label-index l.labels)))
