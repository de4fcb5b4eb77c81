use Rattle.node_hits.proofs.BooksFirst.{books_first}
use Rattle.node_hits.proofs.laws.books_come_first.Goals as goal

pub returns : goal.returns
returns c = books_first
