use Rattle.std.proofs.Common.{arith}
use Rattle.feed_keep.proofs.Records.{none_found}
use Rattle.feed_keep.proofs.list_keep.find_record.Goals as goal

pub returns-clause-none : goal.returns-clause-none
returns-clause-none c = none_found c.args.records.now c.args.name.now (λ k d lt. c.loop-at.invariant k d (omega arith))
