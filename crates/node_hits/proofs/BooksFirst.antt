-- A book that comes first ranks above each serial.
use Rattle.std.proofs.Common.{◌≡◌, ◌<◌, true, false, ap, ◌∙◌, arith}
use Rattle.feed_kbart.specs.declared.identifiers.Kind.{Kind}
use Rattle.node_hits.specs.Hits.{ReleaseHitValue, first_rank, rank_of, release_hit}
use Rattle.node_hits.specs.Searches.{is_first_as}
use Rattle.node_hits.specs.Laws.{BooksComeFirst}
use Rattle.node_hits.proofs.Tops.{place_small, quality_small}

above : (one other : ReleaseHitValue) → one.is_first ≡ true → other.is_first ≡ false → rank_of other < rank_of one
above one other first later =
    let high : first_rank one.is_first ≡ 1 = ap first_rank first in
    let low : first_rank other.is_first ≡ 0 = ap first_rank later in
    let small = quality_small other in
    let near = place_small other.place in
    omega (arith, high, low, small, near)

pub books_first : BooksComeFirst
books_first site today search name other_name book serial wanted is_book is_serial =
    above (release_hit site today search name book) (release_hit site today search other_name serial)
    (ap (λ (k : Kind). is_first_as k search.is_book_first) is_book ∙ wanted)
    (ap (λ (k : Kind). is_first_as k search.is_book_first) is_serial)
