use Rattle.std.proofs.Common.{◌≡◌, ◌+◌, length, rules}
use Rattle.feed_releases.proofs.ReadAhead.{running_more}
use Rattle.feed_releases.proofs.file_check.FileCheck.take_in.Goals as goal

pub returns-clause-reads : goal.returns-clause-reads
returns-clause-reads c parts was run =
    let end : c.in-Some.end ≡ c.args.self.next + length c.args.bytes.now = search rules in
    running_more parts c.args.self _ c.args.bytes.now was run end c.in-Ok.ensures
