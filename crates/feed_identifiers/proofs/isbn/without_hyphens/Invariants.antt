use Rattle.std.proofs.Common.{◌≡◌, ◌≤◌, ◌++◌, length, take}
use Rattle.std.specs.List.{filter}
use Rattle.feed_bytes.specs.Trim.{is_no_hyphen}
use Rattle.feed_identifiers.proofs.isbn.without_hyphens.Given as goal

-- the characters so far are kept, but for the hyphens
abbrev pub invariant-loop-character : goal.invariant-loop-character
invariant-loop-character l = record {
  few : l.count ≤ 13;
  room : length l.kept ≡ 13;
  kept : filter is_no_hyphen l.fn.text ≡ take l.count l.kept ++ filter is_no_hyphen l.rest;
}

abbrev pub decreases-loop-character : goal.decreases-loop-character
decreases-loop-character l = length l.rest
