use Rattle.std.proofs.Common.{◌∙◌, sym, arith}
use Rattle.feed_answer.proofs.Lengths.{length_of-none, number-below}
use Rattle.feed_answer.proofs.statement.length_of.Goals as goal

pub returns-in_err-number : goal.returns-in_err-number
returns-in_err-number c =
    c.from_residual.ensures ∙ sym (length_of-none c.args.digits.now c.if-digits-gt9.false (sym c.read_number.ensures ∙ c.in_err-number.was))

pub overflow_cast-result : goal.overflow_cast-result
overflow_cast-result c =
    let below = number-below c.args.digits.now c.in_ok-number.number c.if-digits-gt9.false (sym c.in_ok-number.was ∙ c.read_number.ensures) in
    omega (arith, below)
