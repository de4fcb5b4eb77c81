use Rattle.std.proofs.Common.{◌≡◌, ◌++◌, drop}
use Rattle.std.specs.List.{filter_map}
use Rattle.feed_identifiers.specs.Identifier.{isbn_in, issn_in}
use Rattle.feed_openurl.proofs.sets.identifiers_among.Given as goal

-- the identifiers so far, with those of the numbers that are left, are all of them
abbrev pub invariant-loop-number : goal.invariant-loop-number
invariant-loop-number l = record {
  issns : l.issns.items ++ filter_map issn_in (drop l.number-index l.numbers) ≡ filter_map issn_in l.numbers;
  isbns : l.isbns.items ++ filter_map isbn_in (drop l.number-index l.numbers) ≡ filter_map isbn_in l.numbers;
}
