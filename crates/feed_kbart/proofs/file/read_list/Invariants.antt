use Rattle.std.proofs.Common.{◌<◌, ◌+◌, ◌-◌}
use Rattle.feed_limits.specs.Limits.{file_limit}
use Rattle.feed_kbart.proofs.Lists.{IsListedTo}
use Rattle.feed_kbart.proofs.file.read_list.Given as goal

abbrev pub invariant-loop-total : goal.invariant-loop-total
invariant-loop-total g l = record {
  some : 0 < l.block.len;
  listed : IsListedTo g.K.KeepRows.keeps (g.R.Read.remaining l.fn.reader) (g.R.Read.remaining l.reader) l.total l.list;
}

abbrev pub decreases-loop-total : goal.decreases-loop-total
decreases-loop-total g l = file_limit + 1 - l.total
