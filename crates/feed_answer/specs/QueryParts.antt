-- What the pairs of a query say, as they are read.
use Rattle.std.specs.Prelude.{◌≡◌, ℕ, List}
use Rattle.std.specs.List.{list_any}
use Rattle.feed_answer.specs.Pairs.{first_days, first_volume, is_other_format, is_other_version, isbns_among, issns_among}
use Rattle.feed_answer.specs.Queries.{has_book_format, has_journal_format}
use Rattle.feed_answer.specs.declared.query.QueryParts.{QueryParts}

-- they are what these pairs say
pub record AreRead (pairs : List (List ℕ × List ℕ)) (parts : QueryParts) : Type 0 where
  pub version : parts.has_other_version ≡ list_any is_other_version pairs
  pub format : parts.has_other_format ≡ list_any is_other_format pairs
  pub journal : parts.has_journal_format ≡ has_journal_format pairs
  pub book : parts.has_book_format ≡ has_book_format pairs
  pub issns : parts.issns.items ≡ issns_among pairs
  pub isbns : parts.isbns.items ≡ isbns_among pairs
  pub days : parts.days ≡ first_days pairs
  pub volume : parts.volume ≡ first_volume pairs
