use Rattle.std.proofs.Common.{[]}
use Rattle.feed_kbart.specs.HeaderLabels.{found_of}
use Rattle.feed_kbart.specs.Labels.{used_labels}
use Rattle.feed_kbart.proofs.Cells.{mapped}
use Rattle.feed_kbart.proofs.header.HeaderLabels.new.Goals as goal

pub returns : goal.returns
returns c = record {
  found = mapped (found_of []) used_labels c.map.result c.map.ensures.items.long (λ i d e few. (c.map.ensures.items.at i d e few).2.met);
}
