use Rattle.feed_keep.proofs.Arranged.{arranged}
use Rattle.feed_keep.proofs.list_keep.ListKeep.of.Goals as goal

pub returns : goal.returns
returns c = arranged c.args.records.items c.sort_by_name.new.records.items c.sort_by_name.ensures.permutation
