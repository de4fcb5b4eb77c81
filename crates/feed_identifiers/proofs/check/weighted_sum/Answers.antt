use Rattle.std.proofs.Common.{arith}
use Rattle.feed_identifiers.proofs.Sums.{sum_done}
use Rattle.feed_identifiers.proofs.check.weighted_sum.Goals as goal

pub returns-clause-sum : goal.returns-clause-sum
returns-clause-sum c =
    let done = sum_done c.args.weights.now c.args.digits.now c.loop-place.place (let f = c.loop-place-test.false in omega (arith, f)) in
    let so_far = c.loop-place.invariant.sum in
    omega (arith, done, so_far)
