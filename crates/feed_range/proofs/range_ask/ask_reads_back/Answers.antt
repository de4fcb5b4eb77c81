use Rattle.feed_range.proofs.Laws.{ask_of-ask_text}
use Rattle.feed_range.proofs.range_ask.ask_reads_back.Goals as goal

pub returns : goal.returns
returns c = ask_of-ask_text
