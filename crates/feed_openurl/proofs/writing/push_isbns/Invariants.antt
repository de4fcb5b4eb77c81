use Rattle.std.proofs.Common.{◌≡◌, drop, map, codes}
use Rattle.form_urlencoded.specs.Form.{extend_pairs}
use Rattle.feed_openurl.specs.Written.{with_key}
use Rattle.feed_openurl.proofs.writing.push_isbns.Given as goal

-- the text so far, with the pairs that are left, is the whole text
abbrev pub invariant-loop-isbn : goal.invariant-loop-isbn
invariant-loop-isbn l =
    extend_pairs l.out.items (map (with_key (codes "rft.isbn")) (drop l.isbn-index l.isbns))
    ≡ extend_pairs l.fn.out.items (map (with_key (codes "rft.isbn")) l.isbns)
