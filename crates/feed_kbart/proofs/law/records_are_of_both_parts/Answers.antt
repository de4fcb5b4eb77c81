use Rattle.feed_kbart.proofs.Cuts.{records_of-append}
use Rattle.feed_kbart.proofs.law.records_are_of_both_parts.Goals as goal

pub returns : goal.returns
returns c = records_of-append
