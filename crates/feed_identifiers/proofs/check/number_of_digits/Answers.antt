use Rattle.std.proofs.Common.{arith}
use Rattle.feed_identifiers.proofs.Digits.{few_digits, next_digit}
use Rattle.feed_identifiers.proofs.check.number_of_digits.Goals as goal

pub overflow_mul-number : goal.overflow_mul-number
overflow_mul-number c =
    let few = few_digits c.args.digits.now 9 c.requires.digits c.requires.few in
    let next = next_digit c.args.digits.now c.loop-digit.digit-index c.requires.digits c.loop-digit-test.true in
    let more = next.more in
    let within = next.within in
    let so_far = c.loop-digit.invariant in
    omega (arith, few, more, within, so_far)

pub overflow_add-number : goal.overflow_add-number
overflow_add-number c =
    let few = few_digits c.args.digits.now 9 c.requires.digits c.requires.few in
    let next = next_digit c.args.digits.now c.loop-digit.digit-index c.requires.digits c.loop-digit-test.true in
    let more = next.more in
    let within = next.within in
    let so_far = c.loop-digit.invariant in
    let value = c.digit_value.ensures.value in
    omega (arith, few, more, within, so_far, value)

pub loop-digit-preserved : goal.loop-digit-preserved
loop-digit-preserved c =
    let next = next_digit c.args.digits.now c.loop-digit.digit-index c.requires.digits c.loop-digit-test.true in
    let more = next.more in
    let so_far = c.loop-digit.invariant in
    let value = c.digit_value.ensures.value in
    omega (arith, more, so_far, value)
