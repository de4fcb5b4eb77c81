use Rattle.std.proofs.Common.{◌≤◌, ◌<◌, ◌^◌, ℕ, arith}
use Rattle.std.proofs.Math.Nat.{pow-le-pow_right}
use Rattle.feed_kbart.proofs.coverage.read_volume.Goals as goal

-- a power of ten below the ninth
below_ninth : (i : ℕ) → i < 9 → 10 ^ i ≤ 100000000
below_ninth i h = pow-le-pow_right {n = 10} (omega arith) {i = i} {j = 8} (omega arith)

pub overflow_mul-number : goal.overflow_mul-number
overflow_mul-number c = omega (arith, below_ninth c.loop-byte.byte-index (omega arith))

pub overflow_add-number : goal.overflow_add-number
overflow_add-number c = omega (arith, below_ninth c.loop-byte.byte-index (omega arith))
