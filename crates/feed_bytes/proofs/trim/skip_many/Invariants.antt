use Rattle.std.proofs.Common.{◌≡◌, ◌++◌, ℕ, length, replicate}
use Rattle.std.specs.Int.{to_le_bytes, w64}
use Rattle.feed_bytes.proofs.trim.skip_many.Given as goal

-- what was passed over is the byte of the word
abbrev pub invariant-loop-bytes : goal.invariant-loop-bytes
invariant-loop-bytes l = (byte : ℕ) → to_le_bytes w64 l.fn.word ≡ replicate 8 byte → (count : ℕ) × (l.fn.text ≡ replicate count byte ++ l.rest)

abbrev pub decreases-loop-bytes : goal.decreases-loop-bytes
decreases-loop-bytes l = length l.rest
