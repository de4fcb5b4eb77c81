use Rattle.std.proofs.Common.{◌≡◌, ◌+◌, drop}
use Rattle.feed_openurl.specs.Citations.{is_in_page}
use Rattle.feed_openurl.specs.Fronts.{front_len}
use Rattle.feed_openurl.proofs.offer.page_len.Given as goal

-- all bytes so far are of the first page
abbrev pub invariant-loop-place : goal.invariant-loop-place
invariant-loop-place l = l.place + front_len is_in_page (drop l.place l.pages) ≡ front_len is_in_page l.pages
