use Rattle.std.proofs.Common.{◌≡◌, [], drop, string_bytes}
use Rattle.std.specs.Prelude.{fold}
use Rattle.feed_openurl.specs.Citations.{with_author}
use Rattle.feed_openurl.proofs.citation.authors.Given as goal

-- the text so far, with the offers that are left, is the whole text
abbrev pub invariant-loop-offered : goal.invariant-loop-offered
invariant-loop-offered l = fold (with_author l.rank) (string_bytes l.text) (drop l.offered-index l.offers) ≡ fold (with_author l.rank) [] l.offers
