use Rattle.feed_replay.proofs.EscapedTexts.{reads_back}
use Rattle.feed_replay.proofs.laws.escaped_reads_back.Goals as goal

pub returns : goal.returns
returns c = reads_back
