use Rattle.std.proofs.Common.{◌≡◌, ◌<◌, ◌++◌, ◌+◌, ◌∷◌, [], Equal, get_or, length, rules, subst, sym}
use Rattle.cmd_report.specs.Pairing.{order}
use Rattle.cmd_report.specs.declared.order.By.TheVariants.{Content}
use Rattle.cmd_report.proofs.Merging.{ArePairedSoFar, both_paired, news_left, next_new, next_old, news_upto, olds_left, olds_upto}
use Rattle.cmd_report.proofs.unchanged.take_apart.Goals as goal
use Rattle.cmd_report.proofs.unchanged.take_apart.Goals.{then-may_have_equal+in_ok-add_row+in_ok-add_row-2, else-may_have_equal+in_ok-push}

pub loop-pair-preserved : goal.loop-pair-preserved
loop-pair-preserved c =
    let first = c.args.first in
    let i = c.loop-pair.pair-index in
    let pair = c.pair-item.result in
    let kept = c.loop-pair.kept.items in
    let old = c.loop-pair.old.items in
    let new = c.loop-pair.new.items in
    let within : i < length first.pairs.items = search rules in
    let at : pair ≡ get_or first.pairs.items i pair = search rules in
    let old_more = next_old first i pair within at in
    let new_more = next_new first i pair within at in
    elim c.if-may_have_equal.branch [
      | then-may_have_equal+in_ok-add_row+in_ok-add_row-2 w ↦
          let left : ArePairedSoFar Content (olds_upto first (i + 1)) (news_upto first i) kept (old ++ pair.old ∷ []) new =
          olds_left Content (olds_upto first i) (news_upto first i) kept old new c.loop-pair.invariant (pair.old ∷ []) (olds_upto first (i + 1)) old_more in
          rw (w.old-is, w.new-is, w.kept-is, w.in_ok-add_row.ensures, w.in_ok-add_row-2.ensures)
          (news_left Content (olds_upto first (i + 1)) (news_upto first i) kept (old ++ pair.old ∷ []) new left (pair.new ∷ []) (news_upto first (i + 1)) new_more)
      | else-may_have_equal+in_ok-push w ↦
          let same : order Content pair.old pair.new ≡ Equal = subst (λ p. order Content p.old p.new ≡ Equal) (sym at) (c.requires i pair within) in
          rw (w.old-is, w.new-is, w.kept-is, w.in_ok-push.ensures.items)
          (both_paired Content (olds_upto first i) (news_upto first i) kept old new c.loop-pair.invariant pair (olds_upto first (i + 1)) (news_upto first (i + 1)) old_more new_more same)
    ]
