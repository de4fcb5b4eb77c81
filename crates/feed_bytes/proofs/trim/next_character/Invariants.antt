use Rattle.std.proofs.Common.{◌≡◌, ◌≤◌, length}
use Rattle.std.specs.List.{filter}
use Rattle.feed_bytes.specs.Trim.{is_no_hyphen}
use Rattle.feed_bytes.proofs.trim.next_character.Given as goal

-- only hyphens were passed over
abbrev pub invariant-loop-character : goal.invariant-loop-character
invariant-loop-character l = record {
  same : filter is_no_hyphen l.rest ≡ filter is_no_hyphen l.fn.text;
  within : length l.rest ≤ length l.fn.text;
}

abbrev pub decreases-loop-character : goal.decreases-loop-character
decreases-loop-character l = length l.rest
