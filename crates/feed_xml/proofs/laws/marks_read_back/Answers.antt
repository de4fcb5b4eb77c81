use Rattle.feed_xml.proofs.MarksRead.{marks_read}
use Rattle.feed_xml.proofs.laws.marks_read_back.Goals as goal

pub returns : goal.returns
returns c = marks_read
