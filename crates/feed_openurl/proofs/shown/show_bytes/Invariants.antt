use Rattle.std.proofs.Common.{◌≡◌, [], drop, string_bytes}
use Rattle.std.specs.Prelude.{fold}
use Rattle.feed_openurl.specs.Shown.{with_byte}
use Rattle.feed_openurl.proofs.shown.show_bytes.Given as goal

-- the text so far, with the bytes that are left, is the whole text
abbrev pub invariant-loop-byte : goal.invariant-loop-byte
invariant-loop-byte l = fold with_byte (string_bytes l.shown) (drop l.byte-index l.value) ≡ fold with_byte [] l.value
