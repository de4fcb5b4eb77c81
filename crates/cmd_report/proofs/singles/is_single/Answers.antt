use Rattle.std.proofs.Common.{◌≡◌, ◌<◌, ◌-◌, true, false, refl, sym, arith}
use Rattle.cmd_report.specs.Pairing.{AreTied}
use Rattle.cmd_report.proofs.Alone.{decided, not_single_before}
use Rattle.cmd_report.proofs.singles.is_single.Goals as goal
use Rattle.cmd_report.proofs.singles.is_single.Goals.{else-place-gt0-via-then-place-gt0+else-are_tied, else-place-gt0-via-else-place-gt0}

pub returns-then-are_tied : goal.returns-then-are_tied
returns-then-are_tied c d =
    sym (not_single_before c.args.by c.args.rows.now c.args.place d c.requires.sorted c.requires.place c.if-place-gt0.true (c.if-are_tied.ensures.0 refl))

pub returns : goal.returns
returns c d =
    let before : 0 < c.args.place → AreTied c.args.by c.args.rows.now (c.args.place - 1) → ⊥ = elim c.else-place-gt0.branch [
      | else-place-gt0-via-then-place-gt0+else-are_tied w ↦ λ some tied. let no : false ≡ true = w.if-are_tied.ensures.1 tied in absurd (cc)
      | else-place-gt0-via-else-place-gt0 w ↦ λ some tied. absurd (omega arith)
    ] in
    decided c.args.by c.args.rows.now c.args.place d c.requires.sorted c.requires.place c.are_tied-2.result c.are_tied-2.ensures before
