use Rattle.std.proofs.Common.{◌≡◌, ◌+◌, drop}
use Rattle.feed_openurl.specs.Dates.{is_no_semicolon}
use Rattle.feed_openurl.specs.Fronts.{front_len}
use Rattle.feed_openurl.proofs.lenient_date.part_length.Given as goal

-- all bytes so far are of the kind
abbrev pub invariant-loop-place : goal.invariant-loop-place
invariant-loop-place l = l.place + front_len is_no_semicolon (drop l.place l.text) ≡ front_len is_no_semicolon l.text
