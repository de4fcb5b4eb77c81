use Rattle.std.proofs.Common.{◌≡◌, ◌++◌, ◌∷◌, [], ap, map, refl, sym, ◌∙◌}
use Rattle.std.proofs.lemmas.List.{map-append}
use Rattle.feed_openurl.specs.Dropped.{dropped_in, is_dropped}
use Rattle.feed_openurl.proofs.Counting.{now}
use Rattle.feed_openurl.proofs.Steps.{failed_next, passed_next}
use Rattle.feed_openurl.proofs.dropped.dropped_in.Goals as goal
use Rattle.feed_openurl.proofs.dropped.dropped_in.Goals.{then-is_dropped+in_ok-push, else-is_dropped}

pub loop-pair-preserved : goal.loop-pair-preserved
loop-pair-preserved c =
    let pairs = c.args.pairs.now in
    let i = c.loop-pair.pair-index in
    let pair = c.pair-item.result in
    let tested : is_dropped pair.0 ≡ c.is_dropped.result = ap is_dropped (sym c.key.ensures) ∙ sym c.is_dropped.ensures in
    elim c.if-is_dropped.branch [
      | then-is_dropped+in_ok-push w ↦
          let items : c.if-is_dropped.keys.items ≡ c.loop-pair.keys.items ++ w.key-then-is_dropped.result ∷ [] = rw w.keys-is w.in_ok-push.ensures.items in
          passed_next is_dropped (λ p. p.0) pairs i pair (map now c.loop-pair.keys.items) (map now c.if-is_dropped.keys.items) (dropped_in pairs)
          c.loop-pair-test.true c.pair-item.is (tested ∙ w.if-is_dropped.true)
          (ap (map now) items ∙ map-append now c.loop-pair.keys.items (w.key-then-is_dropped.result ∷ [])
          ∙ ap (λ k. map now c.loop-pair.keys.items ++ k ∷ []) w.key-then-is_dropped.ensures)
          c.loop-pair.invariant
      | else-is_dropped w ↦
          failed_next is_dropped (λ p. p.0) pairs i pair (map now c.loop-pair.keys.items) (map now c.if-is_dropped.keys.items) (dropped_in pairs)
          c.loop-pair-test.true c.pair-item.is (tested ∙ w.if-is_dropped.false) (rw w.keys-is refl) c.loop-pair.invariant
    ]
