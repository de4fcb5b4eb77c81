use Rattle.cmd_scholar.proofs.SpansCounted.{spans_counted}
use Rattle.cmd_scholar.proofs.laws.spans_are_counted.Goals as goal

pub returns : goal.returns
returns c = spans_counted
