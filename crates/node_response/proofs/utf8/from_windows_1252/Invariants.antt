use Rattle.std.proofs.Common.{◌≡◌, take, string_bytes}
use Rattle.node_response.specs.Utf8.{from_windows_1252}
use Rattle.node_response.proofs.utf8.from_windows_1252.Given as goal

abbrev pub invariant-loop-byte : goal.invariant-loop-byte
invariant-loop-byte l = string_bytes l.shown ≡ from_windows_1252 (take l.byte-index l.text)
