use Rattle.feed_identifiers.proofs.PrintedIsbn.{converted_digits}
use Rattle.feed_identifiers.proofs.isbn.isbn_13_of.Goals as goal

pub returns : goal.returns
returns c = converted_digits c.args.nine.now c.copy_from_slice.new.self c.check_digit.result c.copy_from_slice.ensures.after c.requires c.check_digit.ensures
