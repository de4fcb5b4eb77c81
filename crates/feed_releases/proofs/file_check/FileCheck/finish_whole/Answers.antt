use Rattle.std.proofs.Common.{refl}
use Rattle.feed_releases.proofs.ReadAhead.{read_whole}
use Rattle.feed_releases.proofs.file_check.FileCheck.finish_whole.Goals as goal

pub returns : goal.returns
returns c parts text running is = read_whole c.args.self.next parts text c.args.self c.finish.result is refl running c.finish.ensures
