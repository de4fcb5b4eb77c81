use Rattle.std.proofs.Common.{◌≡◌, ◌++◌, drop}
use Rattle.std.specs.List.{concat}
use Rattle.feed_openurl.proofs.number.joined.Given as goal

-- the text so far, with the words that are left, is the whole text
abbrev pub invariant-loop-word : goal.invariant-loop-word
invariant-loop-word l = l.text.items ++ concat (drop l.word-index l.words) ≡ concat l.words
