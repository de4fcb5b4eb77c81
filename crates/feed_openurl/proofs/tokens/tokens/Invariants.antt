use Rattle.std.proofs.Common.{◌≡◌, ◌++◌, [], drop}
use Rattle.feed_openurl.specs.Dates.{tokens_from}
use Rattle.feed_openurl.proofs.tokens.tokens.Given as goal

-- the tokens so far, with those of the bytes from the start of this run on, are all of them
abbrev pub invariant-loop-byte : goal.invariant-loop-byte
invariant-loop-byte l = l.tokens.items ++ tokens_from l.run.items (drop l.byte-index l.text) ≡ tokens_from [] l.text
