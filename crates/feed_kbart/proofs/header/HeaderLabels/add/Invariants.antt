use Rattle.std.proofs.Common.{◌≡◌, ◌++◌, take, drop}
use Rattle.std.specs.Prelude.{map}
use Rattle.feed_kbart.specs.HeaderLabels.{with_field}
use Rattle.feed_kbart.proofs.header.HeaderLabels.add.Given as goal

abbrev pub invariant-loop-index : goal.invariant-loop-index
invariant-loop-index l =
    l.self.found ≡ map (with_field l.place l.field) (take l.index l.initial.self.found) ++ drop l.index l.initial.self.found
