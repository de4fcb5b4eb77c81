use Rattle.std.proofs.Common.{◌≡◌, ◌≤◌, ◌-◌, IfSome}
use Rattle.std.specs.Prelude.{slice_range}
use Rattle.std.specs.Io.KnownBytes.{Appends}
use Rattle.feed_http.proofs.serving.send.send.Given as goal

abbrev pub invariant-loop-at : goal.invariant-loop-at
invariant-loop-at g l = (l.first ≤ l.at) × (l.at ≤ l.end)
    × (g.S.Shelf.files l.shelf ≡ g.S.Shelf.files l.fn.shelf) × (g.S.Shelf.failed l.shelf ≡ g.S.Shelf.failed l.fn.shelf)
    × IfSome (g.S.Shelf.files l.fn.shelf) (λ files. IfSome (files l.name) (λ file.
    Appends (g.W.Write.contents l.fn.writer) (g.W.Write.contents l.writer) (slice_range file l.first l.at)))

abbrev pub decreases-loop-at : goal.decreases-loop-at
decreases-loop-at g l = l.end - l.at
