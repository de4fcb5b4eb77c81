use Rattle.std.proofs.Common.{◌≡◌, drop, map, codes}
use Rattle.form_urlencoded.specs.Form.{extend_pairs}
use Rattle.feed_openurl.specs.Written.{with_key}
use Rattle.feed_openurl.proofs.writing.push_issns.Given as goal

-- the text so far, with the pairs that are left, is the whole text
abbrev pub invariant-loop-issn : goal.invariant-loop-issn
invariant-loop-issn l =
    extend_pairs l.out.items (map (with_key (codes "rft.issn")) (drop l.issn-index l.issns))
    ≡ extend_pairs l.fn.out.items (map (with_key (codes "rft.issn")) l.issns)
