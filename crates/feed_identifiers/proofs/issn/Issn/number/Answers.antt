use Rattle.std.proofs.Common.{arith}
use Rattle.feed_identifiers.proofs.PrintedIssn.{back_digits, front_digits, small_number}
use Rattle.feed_identifiers.proofs.issn.Issn.number.Goals as goal

pub number_of_digits-front-requires-clause-digits : goal.number_of_digits-front-requires-clause-digits
number_of_digits-front-requires-clause-digits c = front_digits c.self.inside.printed c.self.invariant

pub number_of_digits-requires-clause-digits : goal.number_of_digits-requires-clause-digits
number_of_digits-requires-clause-digits c = back_digits c.self.inside.printed c.self.invariant

pub overflow_cast-result : goal.overflow_cast-result
overflow_cast-result c =
    let front = c.number_of_digits-front.ensures in
    let back = c.number_of_digits.ensures in
    omega (arith, front, back, small_number c.self.inside.printed c.self.invariant)

pub returns-clause-small : goal.returns-clause-small
returns-clause-small c =
    let front = c.number_of_digits-front.ensures in
    let back = c.number_of_digits.ensures in
    omega (arith, front, back, small_number c.self.inside.printed c.self.invariant)
