use Rattle.std.proofs.Common.{◌≡◌, ◌^◌, ◌<◌, true, take, All}
use Rattle.std.specs.Char.{is_ascii_digit}
use Rattle.std.specs.Str.Parse.{digits_value}
use Rattle.node_site.proofs.hosts.is_port.Given as goal

abbrev pub invariant-loop-byte : goal.invariant-loop-byte
invariant-loop-byte l = (All (λ b. is_ascii_digit b ≡ true) (take l.byte-index l.digits)) × (l.port ≡ digits_value 10 (take l.byte-index l.digits)) × (l.port < 2 ^ 16)
