use Rattle.feed_store.proofs.Placed.{converted}
use Rattle.feed_store.proofs.adopt.check_number.Goals as goal

pub returns-then-branch-clause-reported : goal.returns-then-branch-clause-reported
returns-then-branch-clause-reported g c clean = rw c.if-branch.true at (c.in_ok-has_layout_number.ensures.reported clean)

pub returns-else-branch-clause-other : goal.returns-else-branch-clause-other
returns-else-branch-clause-other g c is clean =
    let reported = c.in_ok-has_layout_number.ensures.reported clean in
    let shown = c.in_ok-has_layout_number.ensures.shown clean in (rw c.if-branch.false at shown, rw c.if-branch.false at reported)

pub returns-in_err-has_layout_number-clause-other : goal.returns-in_err-has_layout_number-clause-other
returns-in_err-has_layout_number-clause-other g c = converted c.from_residual.result _ _ c.from_residual.ensures.1 (λ e is ours clean. absurd (is.1 ours))
