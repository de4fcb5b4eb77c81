use Rattle.std.proofs.Common.{◌≡◌, drop}
use Rattle.std.specs.List.{list_any}
use Rattle.feed_openurl.specs.Numbers.{is_number}
use Rattle.feed_openurl.proofs.number.has_number.Given as goal

-- no word so far is a number
abbrev pub invariant-loop-word : goal.invariant-loop-word
invariant-loop-word l = list_any is_number (drop l.word-index l.words) ≡ list_any is_number l.words
