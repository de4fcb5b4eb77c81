use Rattle.std.proofs.Common.{◌-◌, List}
use Rattle.feed_model.specs.Content.{Part}
use Rattle.feed_releases.specs.FileCheck.{IsCheckOf, IsUnion}
use Rattle.feed_releases.proofs.file_check.FileCheck.read_rest.Given as goal

abbrev pub invariant-loop-running : goal.invariant-loop-running
invariant-loop-running l = (parts : List Part) → IsUnion parts l.kept.parts l.first l.bytes → IsCheckOf parts l.running

abbrev pub decreases-loop-running : goal.decreases-loop-running
decreases-loop-running l = l.size - l.running.next
