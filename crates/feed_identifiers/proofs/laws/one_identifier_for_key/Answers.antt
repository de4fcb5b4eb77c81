use Rattle.std.proofs.Common.{◌≡◌, ap, arith}
use Rattle.feed_identifiers.specs.Isbn.{number_of}
use Rattle.feed_identifiers.specs.declared.identifier.Identifier.TheVariants.{Issn, Isbn}
use Rattle.feed_identifiers.proofs.PrintedIsbn.{same_isbn}
use Rattle.feed_identifiers.proofs.PrintedIssn.{same_issn, small_number}
use Rattle.feed_identifiers.proofs.laws.one_identifier_for_key.Goals as goal

pub returns : goal.returns
returns c (Issn one) (Issn other) is own same = ap Issn (same_issn one other is own same)
returns c (Issn one) (Isbn other) is own same = absurd (let low = small_number one is in omega arith)
returns c (Isbn one) (Issn other) is own same = absurd (let low = small_number other own in omega arith)
returns c (Isbn one) (Isbn other) is own same = let numbers : number_of one ≡ number_of other = omega arith in ap Isbn (same_isbn one other is own numbers)
