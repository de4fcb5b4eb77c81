use Rattle.feed_releases.proofs.ReadAhead.{more_so}
use Rattle.feed_releases.proofs.file_check.FileCheck.has_more.Goals as goal

pub returns : goal.returns
returns c = more_so c.args.kept.now.parts c.args.self.now.next c.bytes_from.result.now c.is_empty.result c.bytes_from.ensures.stored c.bytes_from.ensures.missing c.is_empty.ensures
