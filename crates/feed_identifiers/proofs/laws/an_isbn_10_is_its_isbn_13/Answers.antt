use Rattle.std.proofs.Common.{take, ◌∷◌}
use Rattle.feed_identifiers.specs.Isbn.{check_digit}
use Rattle.feed_identifiers.proofs.PrintedIsbn.{ten_are_thirteen}
use Rattle.feed_identifiers.proofs.laws.an_isbn_10_is_its_isbn_13.Goals as goal

pub returns : goal.returns
returns s characters printed ten made =
    (check_digit (57 ∷ 55 ∷ 56 ∷ take 9 characters), ten_are_thirteen characters printed ten made)
