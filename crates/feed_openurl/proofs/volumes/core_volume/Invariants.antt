use Rattle.std.proofs.Common.{◌≡◌, drop}
use Rattle.feed_openurl.specs.Core.{core_volume}
use Rattle.feed_openurl.proofs.volumes.core_volume.Given as goal

-- no pair so far has a valid volume
abbrev pub invariant-loop-pair : goal.invariant-loop-pair
invariant-loop-pair l = core_volume (drop l.pair-index l.pairs) ≡ core_volume l.pairs
