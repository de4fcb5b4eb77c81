use Rattle.std.proofs.Common.{refl, sym}
use Rattle.cmd_report.specs.Pairing.{is_single}
use Rattle.cmd_report.proofs.Alone.{split_no, split_yes}
use Rattle.cmd_report.proofs.singles.split_singles.Goals as goal
use Rattle.cmd_report.proofs.singles.split_singles.Goals.{then-is_single+in_ok-push, else-is_single+in_ok-push-2}

pub loop-place-preserved : goal.loop-place-preserved
loop-place-preserved c =
    let row = c.index-rows-place.result in
    elim c.if-is_single.branch [
      | then-is_single+in_ok-push w ↦ split_yes (is_single c.args.by c.args.rows.now) c.args.rows.now c.loop-place.place row c.loop-place-test.true c.index-rows-place.is
          c.loop-place.singles.items c.loop-place.others.items c.if-is_single.singles.items c.if-is_single.others.items c.loop-place.invariant
          (rw c.index-rows-place.is (sym (w.if-is_single.ensures row))) (rw w.singles-is (rw w.again.ensures at w.in_ok-push.ensures.items)) (rw w.others-is refl)
      | else-is_single+in_ok-push-2 w ↦ split_no (is_single c.args.by c.args.rows.now) c.args.rows.now c.loop-place.place row c.loop-place-test.true c.index-rows-place.is
          c.loop-place.singles.items c.loop-place.others.items c.if-is_single.singles.items c.if-is_single.others.items c.loop-place.invariant
          (rw c.index-rows-place.is (sym (w.if-is_single.ensures row))) (rw w.singles-is refl) (rw w.others-is (rw w.again-else-is_single.ensures at w.in_ok-push-2.ensures.items))
    ]
