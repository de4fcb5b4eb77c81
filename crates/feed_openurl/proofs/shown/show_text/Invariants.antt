use Rattle.std.proofs.Common.{◌≡◌, [], string_bytes}
use Rattle.std.specs.Prelude.{fold}
use Rattle.feed_openurl.specs.Shown.{with_char}
use Rattle.feed_openurl.proofs.shown.show_text.Given as goal

-- the text so far is that of the characters so far
abbrev pub invariant-loop-c : goal.invariant-loop-c
invariant-loop-c l = string_bytes l.shown ≡ fold with_char [] l.yielded
