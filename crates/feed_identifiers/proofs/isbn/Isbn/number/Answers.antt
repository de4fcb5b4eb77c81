use Rattle.std.proofs.Common.{arith}
use Rattle.feed_identifiers.proofs.PrintedIsbn.{small_number}
use Rattle.feed_identifiers.proofs.isbn.Isbn.number.Goals as goal

pub overflow_cast-result : goal.overflow_cast-result
overflow_cast-result c = omega (arith, small_number _ c.self.invariant)

pub returns-clause-small : goal.returns-clause-small
returns-clause-small c = omega (arith, small_number _ c.self.invariant)
