use Rattle.std.proofs.Common.{◌≡◌, ◌++◌, drop}
use Rattle.std.specs.List.{filter_map}
use Rattle.feed_openurl.specs.Plain.{plain_windows}
use Rattle.feed_openurl.proofs.plain.plain_bytes.Given as goal

-- the bytes so far, with those of the bytes that are left, are all of them
abbrev pub invariant-loop-byte : goal.invariant-loop-byte
invariant-loop-byte l =
    l.bytes.items ++ filter_map plain_windows (drop l.byte-index l.value) ≡ filter_map plain_windows l.value
