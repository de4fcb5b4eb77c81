use Rattle.std.proofs.Common.{◌≡◌, ◌<◌, ◌^◌, take, true}
use Rattle.std.specs.List.{list_all}
use Rattle.std.specs.Char.{is_ascii_digit}
use Rattle.feed_kbart.specs.Volumes.{decimal}
use Rattle.feed_kbart.proofs.coverage.read_volume.Given as goal

abbrev pub invariant-loop-byte : goal.invariant-loop-byte
invariant-loop-byte l = (l.number ≡ decimal (take l.byte-index l.text)) × (l.number < 10 ^ l.byte-index) × (list_all is_ascii_digit (take l.byte-index l.text) ≡ true)
