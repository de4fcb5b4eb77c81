use Rattle.std.proofs.Common.{◌≡◌, length, rules}
use Rattle.feed_kbart.specs.Labels.{label_count}
use Rattle.feed_kbart.proofs.Labels.{ordered}
use Rattle.feed_kbart.proofs.header.Columns.in_order.Goals as goal

pub returns : goal.returns
returns c =
    let long : length c.args.self.now.columns ≡ label_count = search rules in
    ordered c.args.self.now.columns long
