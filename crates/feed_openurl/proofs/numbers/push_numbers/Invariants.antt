use Rattle.std.proofs.Common.{◌≡◌, ◌++◌, drop}
use Rattle.feed_openurl.specs.Numbers.{numbers_after}
use Rattle.feed_openurl.proofs.numbers.push_numbers.Given as goal

-- the numbers so far, with those of the words that are left, are all of them
abbrev pub invariant-loop-place : goal.invariant-loop-place
invariant-loop-place l =
    l.numbers.items ++ numbers_after l.skipped (drop l.place l.words) ≡ l.fn.numbers.items ++ numbers_after 0 l.words
