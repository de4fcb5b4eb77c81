use Rattle.feed_releases.proofs.ReadAhead.{running_on}
use Rattle.feed_releases.proofs.file_check.FileCheck.read_rest.Goals as goal

pub loop-running-init : goal.loop-running-init
loop-running-init c parts union = running_on parts c.args.kept.now.parts c.args.first c.args.bytes.now c.args.self union c.requires.runs
