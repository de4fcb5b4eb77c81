use Rattle.std.proofs.Common.{◌≡◌, ◌+◌, drop}
use Rattle.std.specs.Char.{is_ascii_digit}
use Rattle.feed_openurl.specs.Fronts.{front_len}
use Rattle.feed_openurl.proofs.digits.digit_count.Given as goal

-- all bytes so far are of the kind
abbrev pub invariant-loop-place : goal.invariant-loop-place
invariant-loop-place l = l.place + front_len is_ascii_digit (drop l.place l.text) ≡ front_len is_ascii_digit l.text
