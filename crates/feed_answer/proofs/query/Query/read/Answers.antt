use Rattle.std.specs.List.{filter_map}
use Rattle.feed_answer.specs.Pairs.{isbn_of_pair, issn_of_pair}
use Rattle.feed_answer.proofs.Parts.{counted_ascends}
use Rattle.feed_answer.proofs.query.Query.read.Goals as goal

pub invariant_of-result : goal.invariant_of-result
invariant_of-result c =
    let are = c.in_ok-parts.ensures in (
      rw (c.unless-issns.ensures, are.issns) (counted_ascends c.in_ok-parts.parts.has_book_format (filter_map issn_of_pair c.deref.result.now)),
      rw (c.unless-isbns.ensures, are.isbns) (counted_ascends c.in_ok-parts.parts.has_journal_format (filter_map isbn_of_pair c.deref.result.now)),
    )
