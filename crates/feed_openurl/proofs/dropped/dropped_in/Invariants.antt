use Rattle.std.proofs.Common.{◌≡◌, ◌++◌, drop, map}
use Rattle.feed_openurl.specs.Dropped.{dropped_in}
use Rattle.feed_openurl.proofs.dropped.dropped_in.Given as goal

-- the keys so far, with those of the pairs that are left, are all of them
abbrev pub invariant-loop-pair : goal.invariant-loop-pair
invariant-loop-pair l = map (λ key. key.now) l.keys.items ++ dropped_in (drop l.pair-index l.pairs) ≡ dropped_in l.pairs
