use Rattle.std.proofs.Common.{◌≡◌, ◌+◌, drop}
use Rattle.feed_openurl.specs.Citations.{is_between_pages}
use Rattle.feed_openurl.specs.Fronts.{front_len}
use Rattle.feed_openurl.proofs.offer.gap_len.Given as goal

-- all bytes so far are before a page
abbrev pub invariant-loop-place : goal.invariant-loop-place
invariant-loop-place l = l.place + front_len is_between_pages (drop l.place l.pages) ≡ front_len is_between_pages l.pages
