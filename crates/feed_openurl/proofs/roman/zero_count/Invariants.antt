use Rattle.std.proofs.Common.{◌≡◌, ◌+◌, drop}
use Rattle.feed_openurl.specs.Fronts.{front_len}
use Rattle.feed_openurl.specs.Romans.{is_zero}
use Rattle.feed_openurl.proofs.roman.zero_count.Given as goal

-- all digits so far are zeros
abbrev pub invariant-loop-place : goal.invariant-loop-place
invariant-loop-place l = l.place + front_len is_zero (drop l.place l.digits) ≡ front_len is_zero l.digits
