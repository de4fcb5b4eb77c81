use Rattle.std.proofs.Common.{◌≡◌, ◌++◌, [], drop}
use Rattle.feed_openurl.specs.Numbers.{words_from}
use Rattle.feed_openurl.proofs.words.words.Given as goal

-- the words so far, with those of the bytes from the start of this word on, are all of them
abbrev pub invariant-loop-byte : goal.invariant-loop-byte
invariant-loop-byte l = l.words.items ++ words_from l.begun.items (drop l.byte-index l.value) ≡ words_from [] l.value
