use Rattle.std.proofs.Common.{◌≡◌, ◌+◌, drop}
use Rattle.feed_openurl.specs.Links.{is_registrant}
use Rattle.feed_openurl.specs.Fronts.{front_len}
use Rattle.feed_openurl.proofs.links.registrant_len.Given as goal

-- all bytes so far are of the kind
abbrev pub invariant-loop-place : goal.invariant-loop-place
invariant-loop-place l = l.place + front_len is_registrant (drop l.place l.text) ≡ front_len is_registrant l.text
