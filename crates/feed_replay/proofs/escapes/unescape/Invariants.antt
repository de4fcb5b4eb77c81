use Rattle.std.proofs.Common.{◌≡◌, length}
use Rattle.feed_replay.specs.Escapes.{unescaped, with_bytes}
use Rattle.feed_replay.proofs.escapes.unescape.Given as goal

abbrev pub decreases-loop-bytes : goal.decreases-loop-bytes
decreases-loop-bytes l = length l.rest

abbrev pub invariant-loop-bytes : goal.invariant-loop-bytes
invariant-loop-bytes l = unescaped l.fn.text ≡ with_bytes l.bytes.items (unescaped l.rest)
