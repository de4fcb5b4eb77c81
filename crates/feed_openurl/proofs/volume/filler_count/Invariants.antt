use Rattle.std.proofs.Common.{◌≡◌, ◌+◌, drop}
use Rattle.feed_openurl.specs.Volumes.{is_filler}
use Rattle.feed_openurl.specs.Fronts.{front_len}
use Rattle.feed_openurl.proofs.volume.filler_count.Given as goal

-- all bytes so far are of the kind
abbrev pub invariant-loop-place : goal.invariant-loop-place
invariant-loop-place l = l.place + front_len is_filler (drop l.place l.text) ≡ front_len is_filler l.text
