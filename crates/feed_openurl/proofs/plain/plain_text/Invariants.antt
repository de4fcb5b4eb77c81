use Rattle.std.proofs.Common.{◌≡◌}
use Rattle.std.specs.List.{filter_map}
use Rattle.feed_openurl.specs.Plain.{plain_byte}
use Rattle.feed_openurl.proofs.plain.plain_text.Given as goal

-- the bytes so far are those of the characters so far
abbrev pub invariant-loop-c : goal.invariant-loop-c
invariant-loop-c l = l.bytes.items ≡ filter_map plain_byte l.yielded
